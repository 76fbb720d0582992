-- `values::locators` has eight places in each word.
-- Assumes nothing.
use Rattle.solving.proofs.Places.{both_located}
use Rattle.solving.proofs.values.locators.Goals as goal

pub returns : goal.returns
returns c = both_located c.args.at _ _ c.locate.ensures c.locate-2.ensures
