-- `words::byte` shifts the word and keeps the lowest byte; from byte 8 on nothing is left of a word.
-- Assumes nothing.
use mathlib.Core.Path.{◌≡◌, refl, sym, ap}
use Prim.Native.Nat.{ℕ, ◌*◌, ◌%◌, ◌^◌, ◌<◌, ◌≤◌}
use native.Mathlib.Nat.{lt_of_lt_of_le, div-eq_of_lt}
use native.Mathlib.Omega.{arith}
use lib.Pow.{pow_mono}
use borrow.Author.Rules.{rules}
use Rattle.words.specs.Words.{byte_at}
use Rattle.words.proofs.byte.Goals as goal

none-behind : (w k : ℕ) → w < 2 ^ 64 → 64 ≤ k * 8 → 0 ≡ byte_at w k
unfolding byte_at
none-behind w k fit far = ap (λ (x : ℕ). x % 256) (sym (div-eq_of_lt (lt_of_lt_of_le fit (pow_mono far))))

pub returns-then-k-ge8 : goal.returns-then-k-ge8
returns-then-k-ge8 c = none-behind _ _ (search rules) (omega arith)

pub returns : goal.returns
unfolding byte_at
returns c = refl
