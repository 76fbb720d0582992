-- Sums of field elements over a range (document 01, section 3): vocabulary for the contracts of private functions, and for the laws. Nobody needs to believe it: no contract of a
-- public call cites it. Assumes nothing.
use Rattle.std.specs.Prelude.{ℕ, zero, suc}
use Rattle.ground.specs.Bits.{sum}

-- f 0 + .. + f (n - 1)
unfoldable pub total : ℕ → (ℕ → ℕ) → ℕ
total zero f = zero
total (suc n) f = sum (total n f) (f n)
