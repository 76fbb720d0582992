-- `register::rest` adds the checks that came with the row to those that its information has.
-- Assumes nothing.
use Rattle.encoding.proofs.Feeding.{rest_is}
use Rattle.encoding.proofs.register.rest.Goals as goal

pub returns : goal.returns
returns c =
    rest_is c.args.d.now c.args.at _ _ _ _ c.checks-q.ensures c.word.ensures c.word-2.ensures
