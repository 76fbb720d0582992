-- Where all rows have their bytes, those are the table's, one behind the other.
use native.Mathlib.Omega.{arith}
use Rattle.laying.proofs.Strewing.{sown_from}
use Rattle.laying.proofs.put_checks.Goals as goal

pub returns : goal.returns
returns c = sown_from _ _ _ _ _ _ _ _ c.loop-i.invariant c.requires.0.rows (omega arith) c.requires.2
