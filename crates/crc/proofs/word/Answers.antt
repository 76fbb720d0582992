-- `crc::word` writes four bytes as digits of base 256, which fit a word.
-- Assumes nothing.
use Rattle.std.proofs.Common.{rules, arith}
use Rattle.crc.proofs.Steps.{word_is}
use Rattle.crc.proofs.word.Goals as goal

pub returns : goal.returns
returns c = omega (arith, word_is c.args.bytes.now c.args.i (search rules) (λ k. search rules))
