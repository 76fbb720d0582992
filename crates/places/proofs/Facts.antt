-- What a good record says of a place in use, as facts with names; and how much of a store is used: document 01, sections 2, 4 and 5.
-- Assumes nothing.
use mathlib.Core.Path.{◌≡◌, refl, sym, ◌∙◌}
use mathlib.Core.Logic.{◌⊎◌, inl, inr}
use mathlib.Core.Bool.{Bool, true, false, cond}
use mathlib.Core.List.{List}
use Prim.Native.Nat.{ℕ, ◌+◌, ◌*◌, ◌<◌, ◌≤◌}
use native.Mathlib.Nat.{suc-mul, mul-le-mul_right}
use native.Mathlib.Omega.{arith}
use borrow.Author.Tests.{le-leb, leb-true, leb-false, eq-eqb, eqb-true, eqb-false}
use lib.Dec.{eqb, leb}
use lib.ListN.{length, get_or}
use Rattle.std.proofs.lemmas.Bool.{and_parts}
use Rattle.settings.specs.Settings.{settings_fit, rows_held}
use Rattle.settings.proofs.Laws.{SettingsFacts, settings_facts}
use Rattle.places.specs.declared.Place.{Place}
use Rattle.places.specs.declared.Name.{Name}
use Rattle.places.specs.Places.{unused, in_use, place_name, names, usable, end_of, settings_in, count_fits, ranges_fit, fits, good, place_named}
use Rattle.places.proofs.Searches.{first_is}
use Rattle.places.proofs.Named.{names_in_use, names-name}
use Rattle.places.proofs.Agreeing.{agree-apart, agree-other}
use Rattle.places.proofs.Keeping.{good-at, good_pair, fits_used}
use Rattle.std.specs.Prelude.{Some}

-- ---- the usable store

pub usable-whole : (n : ℕ) → n ≤ 16777216 → usable n ≡ n
usable-whole n h = rw (le-leb _ _ h)

pub usable-limit : (n : ℕ) → usable n ≤ 16777216
usable-limit n = by (leb n 16777216) refl
  where
    by : (b : Bool) → leb n 16777216 ≡ b → cond b n 16777216 ≤ 16777216
    by true e = leb-true n 16777216 e
    by false e = omega arith

pub usable-within : (n : ℕ) → usable n ≤ n
usable-within n = by (leb n 16777216) refl
  where
    by : (b : Bool) → leb n 16777216 ≡ b → cond b n 16777216 ≤ n
    by true e = omega arith
    by false e = omega (arith, leb-false n 16777216 e)

-- ---- a place in use

pub record PlaceFacts (n : ℕ) (p : Place) : Type 0 where
  pub resource-least : 1 ≤ p.resource
  pub resource-most : p.resource ≤ 65535
  pub kind_either : (p.kind ≡ 1) ⊎ (p.kind ≡ 2)
  pub update-most : p.update ≤ 15
  pub count-least : 1 ≤ p.count
  pub count_most : p.count ≤ 1048575
  pub protection-most : p.protection ≤ 1
  pub rows-without : p.protection ≡ 0 → p.rows ≡ 0
  pub rows-least : p.protection ≡ 1 → 1 ≤ p.rows
  pub rows-most : p.rows ≤ 255
  pub slot-least : 1 ≤ p.slot
  pub slot-most : p.slot ≤ 4077
  pub edition_either : (p.edition ≡ 1) ⊎ (p.edition ≡ 2)
  pub order-most : p.order < 2
  pub ordered : p.order ≡ 1 → p.protection ≡ 1
  pub ends : end_of p ≤ usable n
  pub ends-within : end_of p ≤ n
  pub ends-limit : end_of p ≤ 16777216

one_or_two : (k : ℕ) → 0 < k → k < 3 → (k ≡ 1) ⊎ (k ≡ 2)
one_or_two k a b = by (eqb k 1) refl
  where
    by : (t : Bool) → eqb k 1 ≡ t → (k ≡ 1) ⊎ (k ≡ 2)
    by true e = inl (eqb-true k 1 e)
    by false e = let d = eqb-false k 1 e in inr (omega arith)

held-without : (p : Place) → p.rows ≡ rows_held (settings_in p) → p.protection ≡ 0 → p.rows ≡ 0
held-without p h z = h ∙ rw (eq-eqb p.protection 0 z)

pub place_facts : (n : ℕ) (p : Place) → fits n p ≡ true → in_use p ≡ true → PlaceFacts n p
unfolding ranges_fit
place_facts n p f u =
    let w = and_parts (ranges_fit p) (leb (end_of p) (usable n)) (sym (fits_used n p u) ∙ f) in
    let r = and_parts (settings_fit (settings_in p)) _ w.0 in
    let t = and_parts (eqb p.rows (rows_held (settings_in p))) (count_fits p.count) r.1 in
    let k = and_parts (leb 1 p.count) (leb p.count 1048575) t.1 in
    let s = settings_facts (settings_in p) r.0 in
    let m = held-without p (eqb-true p.rows (rows_held (settings_in p)) t.0) in
    let z : end_of p ≤ usable n = leb-true (end_of p) (usable n) w.1 in
    record {
      resource-least = s.resource;
      resource-most = omega (arith, s.resource-most);
      kind_either = one_or_two p.kind s.kind s.kind-most;
      update-most = omega (arith, s.update);
      count-least = leb-true 1 p.count k.0;
      count_most = leb-true p.count 1048575 k.1;
      protection-most = omega (arith, s.protection);
      rows-without = m;
      rows-least = s.rows;
      rows-most = most s m;
      slot-least = s.size.least;
      slot-most = s.size.most;
      edition_either = one_or_two p.edition s.edition s.edition-most;
      order-most = s.order-most;
      ordered = s.ordered;
      ends = z;
      ends-within = omega (arith, usable-within n);
      ends-limit = omega (arith, usable-limit n);
    }
  where
    most : SettingsFacts (settings_in p) → (p.protection ≡ 0 → p.rows ≡ 0) → p.rows ≤ 255
    most s m = by (eqb p.protection 0) refl
      where
        by : (t : Bool) → eqb p.protection 0 ≡ t → p.rows ≤ 255
        by true e = omega (arith, m (eqb-true p.protection 0 e))
        by false e =
            let d = eqb-false p.protection 0 e in
            let o : p.protection ≡ 1 = omega (arith, s.protection) in
            omega (arith, s.rows-most o)

-- where a place ends, as a sum
pub end_sum : (p : Place) → end_of p ≡ p.start + p.count * (p.slot + 2)
unfolding end_of
end_sum p = refl

-- slot k of a place lies within the place
pub slot-within : (p : Place) (k : ℕ) → k < p.count → p.start + k * (p.slot + 2) + (p.slot + 2) ≤ end_of p
unfolding end_of
slot-within p k h = omega (arith, suc-mul k (p.slot + 2), mul-le-mul_right (p.slot + 2) h)

-- ---- the places of a good record

module _ (n : ℕ) (ps : List Place) (g : good n ps ≡ true) where
  pub good_facts : (i : ℕ) → i < length ps → in_use (get_or ps i unused) ≡ true → PlaceFacts n (get_or ps i unused)
  good_facts i h u = place_facts n (get_or ps i unused) (good-at n ps i g h) u

  pub named_facts : (x : Name) (i : ℕ) → place_named ps x ≡ Some i → PlaceFacts n (get_or ps i unused)
  named_facts x i e =
      let r = first_is (λ p. names p x) ps i e in
      good_facts i r.within (names_in_use (get_or ps i unused) x r.passes)

  module _ (i j : ℕ) (hi : i < length ps) (hj : j < length ps) where
    -- two different places in use do not overlap
    pub good-apart : (i ≡ j → ⊥) → in_use (get_or ps i unused) ≡ true → in_use (get_or ps j unused) ≡ true → (end_of (get_or ps i unused) ≤ (get_or ps j unused).start) ⊎ (end_of (get_or ps j unused) ≤ (get_or ps i unused).start)
    good-apart d u v = agree-apart (get_or ps i unused) (get_or ps j unused) u v (good_pair n ps i j g hi hj d)

    -- and hold different names
    pub good-other : (i ≡ j → ⊥) → in_use (get_or ps i unused) ≡ true → in_use (get_or ps j unused) ≡ true → place_name (get_or ps i unused) ≡ place_name (get_or ps j unused) → ⊥
    good-other d u v = agree-other (get_or ps i unused) (get_or ps j unused) u v (good_pair n ps i j g hi hj d)

    -- so at most one place names a resource and type
    pub one_holder : (x : Name) → names (get_or ps i unused) x ≡ true → names (get_or ps j unused) x ≡ true → i ≡ j
    one_holder x a b = by (eqb i j) refl
      where
        by : (t : Bool) → eqb i j ≡ t → i ≡ j
        by true e = eqb-true i j e
        by false e =
            absurd
            (good-other (eqb-false i j e) (names_in_use (get_or ps i unused) x a) (names_in_use (get_or ps j unused) x b)
            (names-name (get_or ps i unused) x a ∙ sym (names-name (get_or ps j unused) x b)))
