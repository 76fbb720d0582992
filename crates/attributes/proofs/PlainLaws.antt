-- What is found of a text, written anew, is that text with LF for CR LF (`lines_plain`); what is written has no CR (`lines_own`).
-- Assumes nothing.
use mathlib.Core.Path.{◌≡◌, refl, sym, ap, ap₂, ◌∙◌}
use mathlib.Core.Bool.{Bool, true, false, cond, ◌&&◌}
use mathlib.Core.List.{List, [], ◌∷◌, ◌++◌, append_assoc}
use Prim.Native.Nat.{ℕ, zero, suc, ◌+◌, ◌-◌, ◌<◌, ◌≤◌}
use native.Mathlib.Omega.{arith}
use borrow.Author.Tests.{eqb-true, leb-true, ltb-true}
use lib.Dec.{eqb, leb, ltb}
use lib.ListN.{length, get_or, take, drop, take-append-drop}
use lib.Seq.{drop-drop, take-suc}
use Rattle.std.proofs.lemmas.Bool.{and_parts}
use Rattle.slices.specs.Slices.{same}
use Rattle.slices.proofs.SameLaws.{same_equal}
use Rattle.texts.specs.Breaks.{LF, CR, until_lf, unbroken}
use Rattle.texts.proofs.BreakLaws.{until_lf_part}
use Rattle.attributes.specs.Attributes.{part_of}
use Rattle.attributes.specs.Lines.{label, lines_text, is_line, value_at, behind_line, Found, alone, before, lines_from}
use Rattle.attributes.specs.Statements.{starts_lf, plain}
use Rattle.attributes.proofs.LineLaws.{all_unbroken, first-unbroken, label-unbroken, values_in}

-- bytes without CR stay
plain-behind : (v s : List ℕ) → unbroken v ≡ true → plain (v ++ s) ≡ v ++ plain s
plain-behind [] s u = refl
plain-behind (b ∷ v) s u =
    let f = first-unbroken b v u in
    ap (λ (c : Bool). cond (c && starts_lf (v ++ s)) (plain (v ++ s)) (b ∷ plain (v ++ s))) f.1 ∙ ap (λ (l : List ℕ). b ∷ l) (plain-behind v s f.2)

-- what is written has no CR, and is its own plain text
pub lines_own : (k : ℕ) (vs : List (List ℕ)) → all_unbroken vs ≡ true → plain (lines_text k vs) ≡ lines_text k vs
lines_own k [] u = refl
lines_own k (v ∷ vs) u =
    let w = and_parts (unbroken v) (all_unbroken vs) u in
    plain-behind (label k) (v ++ (LF ∷ lines_text (suc k) vs)) (label-unbroken k)
    ∙ ap (λ (l : List ℕ). label k ++ l)
    (plain-behind v (LF ∷ lines_text (suc k) vs) w.0 ∙ ap (λ (l : List ℕ). v ++ (LF ∷ l)) (lines_own (suc k) vs w.1))

-- ---- one line
module _ (t : List ℕ) (k at : ℕ) (line : is_line t k at ≡ true) where
  abbrev s : List ℕ
  s = drop (at + 3) t

  abbrev rest : List ℕ
  rest = drop (behind_line t at) t

  labelled : drop at t ≡ label k ++ s
  labelled =
      let e : take 3 (drop at t) ≡ label k = same_equal (take 3 (drop at t)) (label k) (and_parts (same (take 3 (drop at t)) (label k)) (ltb (until_lf s) (length s)) line).0 in
      sym (take-append-drop 3 (drop at t)) ∙ ap₂ ◌++◌ e (drop-drop 3 at t)

  ended : until_lf s < length s
  ended = ltb-true (until_lf s) (length s) (and_parts (same (take 3 (drop at t)) (label k)) (ltb (until_lf s) (length s)) line).1

  parted : s ≡ take (until_lf s) s ++ (LF ∷ rest)
  parted =
      let e : at + 3 + (until_lf s + 1) ≡ behind_line t at = omega arith in
      until_lf_part s ended ∙ ap (λ (l : List ℕ). take (until_lf s) s ++ (LF ∷ l)) (drop-drop (until_lf s + 1) (at + 3) t ∙ ap (λ (n : ℕ). drop n t) e)

  -- the value, written anew with LF
  pub line_plain : unbroken (part_of t (value_at t at)) ≡ true → plain (drop at t) ≡ label k ++ (part_of t (value_at t at) ++ (LF ∷ plain rest))
  unfolding value_at
  line_plain u =
      ap plain labelled ∙ plain-behind (label k) s (label-unbroken k)
      ∙ ap (λ (l : List ℕ). label k ++ l) (by (leb 1 (until_lf s)) (eqb (get_or s (until_lf s - 1) 0) CR) refl refl u)
    where
      by : (b c : Bool) → leb 1 (until_lf s) ≡ b → eqb (get_or s (until_lf s - 1) 0) CR ≡ c
          → unbroken (take (cond (b && c) (until_lf s - 1) (until_lf s)) s) ≡ true
          → plain s ≡ take (cond (b && c) (until_lf s - 1) (until_lf s)) s ++ (LF ∷ plain rest)
      by true true e f u =
          let h : 1 ≤ until_lf s = leb-true 1 (until_lf s) e in
          let m : suc (until_lf s - 1) ≡ until_lf s = omega arith in
          let g : take (until_lf s) s ≡ take (until_lf s - 1) s ++ (CR ∷ [])
          = ap (λ (n : ℕ). take n s) (sym m) ∙ take-suc s (until_lf s - 1) 0 (omega (arith, ended))
          ∙ ap (λ (x : ℕ). take (until_lf s - 1) s ++ (x ∷ [])) (eqb-true (get_or s (until_lf s - 1) 0) CR f) in
          ap plain (parted ∙ ap (λ (l : List ℕ). l ++ (LF ∷ rest)) g ∙ append_assoc (take (until_lf s - 1) s) (CR ∷ []) (LF ∷ rest))
          ∙ plain-behind (take (until_lf s - 1) s) (CR ∷ (LF ∷ rest)) u
      by true false e f u = ap plain parted ∙ plain-behind (take (until_lf s) s) (LF ∷ rest) u
      by false c e f u = ap plain parted ∙ plain-behind (take (until_lf s) s) (LF ∷ rest) u

-- ---- all lines
pub lines_plain : (t : List ℕ) (k n at : ℕ) → length (lines_from t k n at).parts ≡ n → all_unbroken (values_in t (lines_from t k n at).parts) ≡ true
    → plain (drop at t) ≡ lines_text k (values_in t (lines_from t k n at).parts) ++ plain (drop (lines_from t k n at).next t)
lines_plain t k zero at e u = refl
lines_plain t k (suc n) at e u = by (is_line t k at) refl e u (lines_plain t (suc k) n (behind_line t at))
  where
    more : Found
    more = lines_from t (suc k) n (behind_line t at)

    all : Bool → Found
    all c = cond c (before (value_at t at) more) (alone at)

    by : (c : Bool) → is_line t k at ≡ c → length (all c).parts ≡ suc n → all_unbroken (values_in t (all c).parts) ≡ true
        → (length more.parts ≡ n → all_unbroken (values_in t more.parts) ≡ true
        → plain (drop (behind_line t at) t) ≡ lines_text (suc k) (values_in t more.parts) ++ plain (drop more.next t))
        → plain (drop at t) ≡ lines_text k (values_in t (all c).parts) ++ plain (drop (all c).next t)
    by true l e u again =
        let p = and_parts (unbroken (part_of t (value_at t at))) (all_unbroken (values_in t more.parts)) u in
        line_plain t k at l p.0
        ∙ ap (λ (x : List ℕ). label k ++ (part_of t (value_at t at) ++ (LF ∷ x))) (again (omega arith) p.1)
        ∙ ap (λ (x : List ℕ). label k ++ x) (sym (append_assoc (part_of t (value_at t at)) (LF ∷ lines_text (suc k) (values_in t more.parts)) (plain (drop more.next t))))
        ∙ sym (append_assoc (label k) (part_of t (value_at t at) ++ (LF ∷ lines_text (suc k) (values_in t more.parts))) (plain (drop more.next t)))
    by false l e u again = absurd (omega arith)
