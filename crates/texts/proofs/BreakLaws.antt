-- The laws of `until_lf` and `unbroken` on lists: a text without CR and LF that stands before an LF reaches just to it, and the first LF parts a list in two.
-- Assumes nothing.
use mathlib.Core.Path.{◌≡◌, refl, sym, ap, ◌∙◌}
use mathlib.Core.Bool.{Bool, true, false, true≢false, cond, not, ◌&&◌, and-true}
use mathlib.Core.List.{List, [], ◌∷◌, ◌++◌}
use Prim.Native.Nat.{ℕ, zero, suc, ◌+◌, ◌<◌, ◌≤◌}
use native.Mathlib.Numerals.{add-one}
use native.Mathlib.Omega.{arith}
use borrow.Author.Tests.{eq-eqb, ne_eqb, eqb-true}
use lib.Dec.{eqb}
use lib.ListN.{length, get_or, take, drop, drop_of_length-le}
use lib.Seq.{split_at, drop-cons}
use Rattle.texts.specs.Breaks.{until_lf, unbroken}

pub unbroken-append : (a b : List ℕ) → unbroken (a ++ b) ≡ (unbroken a && unbroken b)
unbroken-append [] b = refl
unbroken-append (x ∷ a) b = by (unbroken-append a b) (eqb x 10) (eqb x 13)
  where
    by : unbroken (a ++ b) ≡ (unbroken a && unbroken b) → (l c : Bool)
        → (not l && (not c && unbroken (a ++ b))) ≡ ((not l && (not c && unbroken a)) && unbroken b)
    by ih true c = refl
    by ih false true = refl
    by ih false false = ih

-- bytes of 14 and more are neither CR nor LF
pub unbroken_by : (v : List ℕ) → ((i : ℕ) → i < length v → 14 ≤ get_or v i 0) → unbroken v ≡ true
unbroken_by [] h = refl
unbroken_by (x ∷ v) h =
    let x_high : 14 ≤ x = h 0 (omega arith) in
    rw (ne_eqb x 10 (λ e. omega arith), ne_eqb x 13 (λ e. omega arith)) (unbroken_by v (λ i k. h (suc i) (omega arith)))

pub until_lf_unbroken : (v s : List ℕ) → unbroken v ≡ true → until_lf (v ++ (10 ∷ s)) ≡ length v
until_lf_unbroken [] s e = refl
until_lf_unbroken (x ∷ v) s e = by (until_lf_unbroken v s) (eqb x 10) (eqb x 13) e
  where
    by : (unbroken v ≡ true → until_lf (v ++ (10 ∷ s)) ≡ length v) → (l c : Bool) → (not l && (not c && unbroken v)) ≡ true
        → cond l zero (suc (until_lf (v ++ (10 ∷ s)))) ≡ suc (length v)
    by ih true c e = absurd (true≢false (sym e))
    by ih false true e = absurd (true≢false (sym e))
    by ih false false e = ap suc (ih e)

pub until_lf_le : (s : List ℕ) → until_lf s ≤ length s
until_lf_le [] = omega arith
until_lf_le (b ∷ s) = by (until_lf_le s) (eqb b 10)
  where
    by : until_lf s ≤ length s → (l : Bool) → cond l zero (suc (until_lf s)) ≤ suc (length s)
    by ih true = omega arith
    by ih false = omega arith

pub until_lf_at : (s : List ℕ) → until_lf s < length s → get_or s (until_lf s) 0 ≡ 10
until_lf_at [] h = absurd (omega arith)
until_lf_at (b ∷ s) h = by (until_lf_at s) (eqb b 10) refl h
  where
    by : (until_lf s < length s → get_or s (until_lf s) 0 ≡ 10) → (l : Bool) → eqb b 10 ≡ l → cond l zero (suc (until_lf s)) < suc (length s)
        → get_or (b ∷ s) (cond l zero (suc (until_lf s))) 0 ≡ 10
    by ih true e h = eqb-true b 10 e
    by ih false e h = ih (omega arith)

-- the first LF parts a list that has one
pub until_lf_part : (s : List ℕ) → until_lf s < length s → s ≡ take (until_lf s) s ++ (10 ∷ drop (until_lf s + 1) s)
until_lf_part s h =
    let n : ℕ = until_lf s in
    split_at s n 0 h ∙ ap (λ (b : ℕ). take n s ++ (b ∷ drop (suc n) s)) (until_lf_at s h) ∙ ap (λ (m : ℕ). take n s ++ (10 ∷ drop m s)) (sym (add-one n))

-- ---- the loops: behind the first i bytes what is left says what all says
module _ (s : List ℕ) (i : ℕ) (h : i < length s) where
  one_on : drop i s ≡ get_or s i 0 ∷ drop (i + 1) s
  one_on = drop-cons s i 0 h ∙ ap (λ (k : ℕ). get_or s i 0 ∷ drop k s) (sym (add-one i))

pub record Seeking (s : List ℕ) (i : ℕ) : Type 0 where
  pub within : i ≤ length s
  pub rest : i + until_lf (drop i s) ≡ until_lf s

pub seeking_begin : (s : List ℕ) → Seeking s 0
seeking_begin s = record { within = omega arith; rest = omega arith }

module _ (s : List ℕ) (i : ℕ) (c : Seeking s i) where
  pub seeking_end : length s ≤ i → length s ≡ until_lf s
  seeking_end h =
      let none : until_lf (drop i s) ≡ 0 = ap until_lf (drop_of_length-le s h) in
      omega (arith, c.within, c.rest)

  module _ (h : i < length s) where
    by_test : (t : Bool) → eqb (get_or s i 0) 10 ≡ t → i + cond t zero (suc (until_lf (drop (i + 1) s))) ≡ until_lf s
    by_test t e =
        sym (ap (λ (k : List ℕ). i + until_lf k) (one_on s i h) ∙ ap (λ (x : Bool). i + cond x zero (suc (until_lf (drop (i + 1) s)))) e) ∙ c.rest

    pub seeking_found : get_or s i 0 ≡ 10 → i ≡ until_lf s
    seeking_found e = omega (arith, by_test true (eq-eqb (get_or s i 0) 10 e))

    pub seeking_more : (get_or s i 0 ≡ 10 → ⊥) → Seeking s (i + 1)
    seeking_more d =
        record { within = omega arith; rest = omega (arith, by_test false (ne_eqb (get_or s i 0) 10 d)) }

pub record Passing (s : List ℕ) (t : Bool) (i : ℕ) : Type 0 where
  pub rest : (t && unbroken (drop i s)) ≡ unbroken s

pub passing_begin : (s : List ℕ) → Passing s true 0
passing_begin s = record { rest = refl }

both-on : (t l c u : Bool) → ((t && l && c) && u) ≡ (t && (l && (c && u)))
both-on true true c u = refl
both-on true false c u = refl
both-on false l c u = refl

module _ (s : List ℕ) (t : Bool) (i : ℕ) (p : Passing s t i) where
  pub passing-more : i < length s → Passing s (t && not (eqb (get_or s i 0) 10) && not (eqb (get_or s i 0) 13)) (i + 1)
  passing-more h =
      let b : ℕ = get_or s i 0 in
      record {
        rest =
            both-on t (not (eqb b 10)) (not (eqb b 13)) (unbroken (drop (i + 1) s))
            ∙ ap (λ (k : List ℕ). t && unbroken k) (sym (one_on s i h)) ∙ p.rest;
      }

  pub passing_end : length s ≤ i → t ≡ unbroken s
  passing_end h = sym (and-true t) ∙ ap (λ (k : List ℕ). t && unbroken k) (sym (drop_of_length-le s h)) ∙ p.rest
