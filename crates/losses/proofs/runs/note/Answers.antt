-- Where sixteen are told nothing changes; else one more is.
use native.Mathlib.Omega.{arith}
use Rattle.losses.proofs.Noting.{one_full, one_more}
use Rattle.losses.proofs.runs.note.Goals as goal

pub returns-then-lost-ge16 : goal.returns-then-lost-ge16
returns-then-lost-ge16 c = one_full _ _ _ c.requires.0 c.if-lost-ge16.true

pub returns : goal.returns
returns c = one_more _ _ _ c.requires.0 (omega arith)
