-- `register::go_on` feeds the next word.
-- Assumes nothing.
use Rattle.encoding.proofs.Feeding.{feeding_more}
use Rattle.encoding.proofs.register.go_on.Goals as goal

pub returns : goal.returns
returns c = feeding_more _ _ _ _ _ _ c.requires.1 c.word.ensures c.turn.ensures c.requires.2
