-- `values::divide` multiplies by the inverses of the gaps, or leaves all as it is.
-- Assumes nothing.
use native.Mathlib.Omega.{arith}
use Rattle.solving.proofs.values.divide.Goals as goal

pub returns : goal.returns
returns c = record { few = λ h k b. absurd (omega arith); many = λ h k b. (_, c.inverses.ensures.entry k b, c.products.ensures.entry k b) }
