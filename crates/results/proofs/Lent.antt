-- All that a call leaves in its arguments, put together of what it leaves in each: the laws of this crate cite it.
-- Assumes nothing.
use mathlib.Core.Path.{◌≡◌}
use Prim.Native.Nat.{ℕ, zero, suc}

-- A behind n arguments in which nothing can be left
abbrev pub Behind : ℕ → Type 0 → Type 0
Behind zero A = A
Behind (suc n) A = Unit {0} × Behind n A

abbrev pub behind : (n : ℕ) {A : Type 0} → Behind n A → A
behind zero d = d
behind (suc n) d = behind n d.1

pub after : (n : ℕ) {A : Type 0} {d e : Behind n A} → behind n d ≡ behind n e → d ≡ e
after zero p = p
after (suc n) p = λ i. (tt, after n p i)

-- an argument that was lent to be changed, and those behind it
pub lent : {A B : Type 0} {d e : A × B} → d.0 ≡ e.0 → d.1 ≡ e.1 → d ≡ e
lent p q = λ i. (p i, q i)
