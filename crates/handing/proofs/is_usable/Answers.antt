-- The tests are those of the definition.
-- Assumes nothing.
use Rattle.std.proofs.Common.{arith}
use Rattle.std.proofs.lemmas.Bool.Decides.{nat_tests}
use Rattle.handing.specs.Hand.{usable_in}
use Rattle.handing.proofs.is_usable.Goals as goal

pub returns-then-size-end_of : goal.returns-then-size-end_of
unfolding usable_in
returns-then-size-end_of c = grind (arith, nat_tests)

pub returns-then-p-ne0 : goal.returns-then-p-ne0
unfolding usable_in
returns-then-p-ne0 c = grind (arith, nat_tests)

pub returns-then-p-eq0 : goal.returns-then-p-eq0
unfolding usable_in
returns-then-p-eq0 c = grind (arith, nat_tests)

pub returns-else-p-eq0 : goal.returns-else-p-eq0
unfolding usable_in
returns-else-p-eq0 c = grind (arith, nat_tests)
