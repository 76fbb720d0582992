-- The tests are those of the definition.
use Rattle.std.proofs.Common.{arith}
use Rattle.std.proofs.lemmas.Bool.Decides.{nat_tests}
use Rattle.losses.specs.Losses.{tabled}
use Rattle.losses.proofs.is_tabled.Goals as goal

pub returns-then-size-end_of : goal.returns-then-size-end_of
unfolding tabled
returns-then-size-end_of c = grind (arith, nat_tests)

pub returns-then-p-ne0 : goal.returns-then-p-ne0
unfolding tabled
returns-then-p-ne0 c = grind (arith, nat_tests)

pub returns-else-p-ne0 : goal.returns-else-p-ne0
unfolding tabled
returns-else-p-ne0 c = grind (arith, nat_tests)
