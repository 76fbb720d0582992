-- From no coefficient to all `top`; the rule of the constant is computed.
-- Assumes nothing.
use mathlib.Core.Path.{refl}
use native.Mathlib.Omega.{arith}
use Rattle.ground.specs.Bits.{sum}
use Rattle.field.specs.Field.{carryless, reduce, product, expo}
use Rattle.words.specs.Words.{byte_at}
use Rattle.roots.proofs.Constant.{rule}
use Rattle.roots.proofs.Making.{words-none, words_more}
use Rattle.roots.proofs.products.table.Goals as goal

pub loop-i-init : goal.loop-i-init
unfolding byte_at expo product reduce carryless sum
loop-i-init c = (words-none _ refl, rule _ refl tt)

pub loop-i-preserved : goal.loop-i-preserved
loop-i-preserved c =
    let words =
    words_more c.loop-i.invariant.0 _ _ _ (λ k h. c.loop-i.invariant.1.entry _ k (omega arith) h) c.put_multiples.ensures (omega arith) c.doubles-high.ensures
    c.put_multiples-in-loop-i.ensures in
    (words, c.loop-i.invariant.1)
