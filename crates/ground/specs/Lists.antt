-- Lists and numbers that every layer above speaks of.
-- Assumes nothing.
use Rattle.std.specs.Prelude.{List, [], ◌∷◌, ℕ, zero, suc, ◌+◌, ◌-◌, ◌/◌}

-- f i, f (i + 1), .., n of them
abbrev pub listed : {A : Type 0} → (ℕ → A) → ℕ → ℕ → List A
listed f zero i = []
listed f (suc n) i = f i ∷ listed f n (suc i)

-- a over b, rounded up
abbrev pub ceil : ℕ → ℕ → ℕ
ceil a b = (a + (b - 1)) / b
