-- Parts of a list: their lengths, their joins, and what writes beside them and onto them leave.
-- Assumes nothing.
use mathlib.Core.Path.{◌≡◌, refl, sym, ap, ◌∙◌}
use mathlib.Core.Logic.{◌⊎◌, inl, inr}
use mathlib.Core.List.{List, [], ◌∷◌, ◌++◌, append_assoc}
use Prim.Native.Nat.{ℕ, suc, ◌+◌, ◌<◌, ◌≤◌}
use native.Mathlib.Omega.{arith}
use lib.ListN.{length, get_or, set, take, drop, take-append-drop}
use lib.Seq.{get_or-set_other, sets, sets-eq, length-sets, take_at, drop_at, take-add, length-take-le}
use Rattle.ground.proofs.Listed.{length-listed, listed-append, listed_ext, listed-whole, listed-part}
use Rattle.encoding.specs.InnerRegister.{part}

pub length_part : (d : List ℕ) (i n : ℕ) → length (part d i n) ≡ n
length_part d i n = length-listed (λ j. get_or d j 0) n i

-- n bytes and k more
pub part-append : (d : List ℕ) (i n k : ℕ) → part d i (n + k) ≡ part d i n ++ part d (i + n) k
part-append d i n k = listed-append (λ j. get_or d j 0) n k i

pub part-whole : (d : List ℕ) (n : ℕ) → length d ≡ n → part d 0 n ≡ d
part-whole d n e = ap (part d 0) (sym e) ∙ listed-whole d 0

-- of two lists that agree there
pub part_same : (d e : List ℕ) (i n : ℕ) → ((k : ℕ) → i ≤ k → k < i + n → get_or d k 0 ≡ get_or e k 0) → part d i n ≡ part e i n
part_same d e i n h = listed_ext (λ k. get_or d k 0) (λ k. get_or e k 0) n i h

-- ---- writes

-- beside what is written
pub sets-beside : (l : List ℕ) (i : ℕ) (xs : List ℕ) (k : ℕ) → (k < i) ⊎ (i + length xs ≤ k) → get_or (sets l i xs) k 0 ≡ get_or l k 0
sets-beside l i [] k h = refl
sets-beside l i (x ∷ xs) k (inl h) =
    sets-beside (set l i x) (suc i) xs k (inl (omega arith)) ∙ get_or-set_other l i k x 0 (λ (e : k ≡ i). omega arith)
sets-beside l i (x ∷ xs) k (inr h) =
    sets-beside (set l i x) (suc i) xs k (inr (omega arith)) ∙ get_or-set_other l i k x 0 (λ (e : k ≡ i). omega arith)

-- where it is written
pub part-sets : (l xs : List ℕ) (o n : ℕ) → length xs ≡ n → o + n ≤ length l → part (sets l o xs) o n ≡ xs
part-sets l xs o n e h =
    let s : length (sets l o xs) ≡ length l = length-sets l o xs in
    listed-part (sets l o xs) 0 n o (omega arith)
    ∙ ap (λ (x : List ℕ). take n (drop o x)) (sets-eq xs l o (omega arith) ∙ append_assoc (take o l) xs (drop (o + length xs) l))
    ∙ ap (take n) (drop_at (take o l) (xs ++ drop (o + length xs) l) o (length-take-le o l (omega arith)))
    ∙ take_at xs (drop (o + length xs) l) n e

-- what stands there, written once more
pub sets-again : (l : List ℕ) (o n : ℕ) → o + n ≤ length l → sets l o (part l o n) ≡ l
sets-again l o n h =
    let e : length (part l o n) ≡ n = length_part l o n in
    sets-eq (part l o n) l o (omega arith)
    ∙ ap (λ (k : ℕ). take o l ++ part l o n ++ drop (o + k) l) e
    ∙ ap (λ (x : List ℕ). take o l ++ x ++ drop (o + n) l) (listed-part l 0 n o h)
    ∙ ap (λ (x : List ℕ). x ++ drop (o + n) l) (sym (take-add o n l)) ∙ take-append-drop (o + n) l
