-- `register::word` has the bytes that it was put together from.
-- Assumes nothing.
use Rattle.std.proofs.Common.{rules}
use Rattle.encoding.proofs.Bytes.{word_is}
use Rattle.encoding.proofs.register.word.Goals as goal

pub returns : goal.returns
returns c = word_is c.args.d.now c.args.at (λ k. search rules) _ c.from_be_bytes.ensures
