-- For a caller that has the bytes in parts: what was fed, one part more, and the CRC of all.
-- Assumes nothing.
use mathlib.Core.Path.{◌≡◌, sym, ap, ◌∙◌}
use mathlib.Core.List.{List, ◌++◌}
use Prim.Native.Nat.{ℕ}
use Rattle.ground.specs.Bits.{sum}
use Rattle.crc.specs.Crc.{feed, ones, crc}
use Rattle.crc.proofs.Linear.{feed-append}

module _ (w g : ℕ) where
  -- r is the register after xs, and s that after ys more
  pub fed_more : (start r s : ℕ) (xs ys : List ℕ) → r ≡ feed w g start xs → s ≡ feed w g r ys → s ≡ feed w g start (xs ++ ys)
  fed_more start r s xs ys p q = q ∙ ap (λ (x : ℕ). feed w g x ys) p ∙ sym (feed-append w g start xs ys)

  pub fed_all : (r : ℕ) (bs : List ℕ) → r ≡ feed w g (ones w) bs → sum r (ones w) ≡ crc w g bs
  unfolding crc
  fed_all r bs p = ap (λ (x : ℕ). sum x (ones w)) p
