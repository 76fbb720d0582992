-- Valid UTF-8, document 02, R-4: the Unicode Standard's table 3-7, Well-Formed UTF-8 Byte Sequences, row by row. No overlong form, no surrogate, nothing above
-- 10FFFF is in it. Assumes nothing.
use Rattle.std.specs.Prelude.{Bool, true, false, cond, ◌&&◌, List, [], ◌∷◌, ℕ}
use Rattle.ground.specs.Ranges.{between}

-- the values that a byte may have, from low to high
pub record Range : Type 0 where
  pub low : ℕ
  pub high : ℕ

abbrev pub range : ℕ → ℕ → Range
range low high = record { low = low; high = high }

abbrev pub is_in : Range → ℕ → Bool
is_in r b = between r.low r.high b

-- what must follow a first byte: bytes of these ranges, or the byte is no first one
pub data First : Type 0 where
  follow : List Range → First
  wrong : First

-- every byte behind the second
abbrev pub later : Range
later = range 0x80 0xBF

-- the table's nine rows
unfoldable pub first_of : ℕ → First
first_of b =
    cond (is_in (range 0x00 0x7F) b) (follow [])
    (cond (is_in (range 0xC2 0xDF) b) (follow (range 0x80 0xBF ∷ []))
    (cond (is_in (range 0xE0 0xE0) b) (follow (range 0xA0 0xBF ∷ later ∷ []))
    (cond (is_in (range 0xE1 0xEC) b) (follow (range 0x80 0xBF ∷ later ∷ []))
    (cond (is_in (range 0xED 0xED) b) (follow (range 0x80 0x9F ∷ later ∷ []))
    (cond (is_in (range 0xEE 0xEF) b) (follow (range 0x80 0xBF ∷ later ∷ []))
    (cond (is_in (range 0xF0 0xF0) b) (follow (range 0x90 0xBF ∷ later ∷ later ∷ []))
    (cond (is_in (range 0xF1 0xF3) b) (follow (range 0x80 0xBF ∷ later ∷ later ∷ []))
    (cond (is_in (range 0xF4 0xF4) b) (follow (range 0x80 0x8F ∷ later ∷ later ∷ [])) wrong))))))))

-- the ranges that a first byte asks for are handed on; behind a wrong one nothing is well formed
abbrev pub behind : First → (List Range → Bool) → Bool
behind (follow rs) go = go rs
behind wrong go = false

-- the bytes are first of these ranges, one each, and then well-formed sequences to the end
abbrev pub formed_from : List ℕ → List Range → Bool
formed_from [] [] = true
formed_from [] (r ∷ rs) = false
formed_from (b ∷ s) [] = behind (first_of b) (λ rs. formed_from s rs)
formed_from (b ∷ s) (r ∷ rs) = is_in r b && formed_from s rs

abbrev pub well_formed : List ℕ → Bool
well_formed s = formed_from s []
