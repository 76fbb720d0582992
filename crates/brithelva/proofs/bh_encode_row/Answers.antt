-- The verdict and the checks are those of the row that was encoded.
use native.Mathlib.Omega.{arith}
use Rattle.face.proofs.SayLaws.{encode_says_lem}
use Rattle.brithelva.proofs.bh_encode_row.Goals as goal

pub shape_of-checks : goal.shape_of-checks
shape_of-checks c = omega arith

pub returns : goal.returns
returns c = encode_says_lem _ _ _ _ _ c.encode_row-made.ensures c.put_if.ensures
