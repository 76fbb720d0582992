-- The cases marked P hold, all in one list: each part is computed beside its definitions.
-- Assumes nothing.
use mathlib.Core.Path.{◌≡◌, refl, sym, ap, ap₂, ◌∙◌}
use mathlib.Core.List.{List, [], ◌∷◌, ◌++◌, map, map-append}
use Prim.Native.Nat.{ℕ}
use Rattle.field.specs.Cases.{field_cases}
use Rattle.field.proofs.Cases.{field_cases_lem}
use Rattle.crc.specs.Cases.{crc_cases}
use Rattle.crc.proofs.Cases.{crc_cases_lem}
use Rattle.code.specs.Cases.{row_cases}
use Rattle.code.proofs.Cases.{row_cases_lem}
use Rattle.packet.specs.Cases.{header_cases}
use Rattle.packet.proofs.Cases.{header_cases_lem}
use Rattle.layout.specs.Cases.{layout_cases}
use Rattle.layout.proofs.Cases.{layout_cases_lem}
use Rattle.pack.specs.Cases.{count_cases}
use Rattle.pack.proofs.Cases.{count_cases_lem}
use Rattle.promises.specs.Cases.{alone, CasesHold}

abbrev Pair : Type 0
Pair = List ℕ × List ℕ

abbrev Holds : List Pair → Type 0
Holds l = map (λ (c : Pair). c.0) l ≡ map (λ (c : Pair). c.1) l

both : (a b : List Pair) → Holds a → Holds b → Holds (a ++ b)
both a b p q = map-append (λ (c : Pair). c.0) a b ∙ ap₂ ◌++◌ p q ∙ sym (map-append (λ (c : Pair). c.1) a b)

-- numbers as lists of one
numbers : (l : List (ℕ × ℕ)) → map (λ (c : ℕ × ℕ). c.0) l ≡ map (λ (c : ℕ × ℕ). c.1) l → Holds (map alone l)
numbers l e = firsts l ∙ ap (map (λ (n : ℕ). n ∷ [])) e ∙ sym (others l)
  where
    firsts : (l : List (ℕ × ℕ)) → map (λ (c : Pair). c.0) (map alone l) ≡ map (λ (n : ℕ). n ∷ []) (map (λ (c : ℕ × ℕ). c.0) l)
    firsts [] = refl
    firsts (c ∷ l) = ap (λ (r : List (List ℕ)). (c.0 ∷ []) ∷ r) (firsts l)

    others : (l : List (ℕ × ℕ)) → map (λ (c : Pair). c.1) (map alone l) ≡ map (λ (n : ℕ). n ∷ []) (map (λ (c : ℕ × ℕ). c.1) l)
    others [] = refl
    others (c ∷ l) = ap (λ (r : List (List ℕ)). (c.1 ∷ []) ∷ r) (others l)

pub cases_hold : CasesHold
cases_hold =
    let counts : List Pair = map alone count_cases in
    both (map alone field_cases) (map alone crc_cases ++ (row_cases ++ (header_cases ++ (layout_cases ++ counts)))) (numbers field_cases field_cases_lem)
    (both (map alone crc_cases) (row_cases ++ (header_cases ++ (layout_cases ++ counts))) (numbers crc_cases crc_cases_lem)
    (both row_cases (header_cases ++ (layout_cases ++ counts)) row_cases_lem
    (both header_cases (layout_cases ++ counts) header_cases_lem (both layout_cases counts layout_cases_lem (numbers count_cases count_cases_lem)))))
