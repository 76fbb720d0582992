-- `pack::pack_house` meets its contract: it is `pack` under the settings that `house` gives.
-- Assumes nothing.
use native.Mathlib.Omega.{arith}
use Rattle.pack.proofs.pack_house.Goals as goal

pub shape_of-out : goal.shape_of-out
shape_of-out c = omega arith
