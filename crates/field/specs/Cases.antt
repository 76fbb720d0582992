-- The field's cases of document 01, section 8, numbers 1 to 3, as pairs: what the definitions give, and what the document says.
-- Assumes nothing.
use Rattle.std.specs.Prelude.{List, [], ◌∷◌, ℕ}
use Rattle.field.specs.Field.{product, power}

-- α^8 = 29, α^16 = 76, 3·59 = 77
abbrev pub field_cases : List (ℕ × ℕ)
field_cases = (power 8, 29) ∷ (power 16, 76) ∷ (product 3 59, 77) ∷ []
