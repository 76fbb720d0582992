-- The laws of the settings: what settings that fit satisfy, and the other way round (document 01, sections 2 and 4; document 02, R-9).
-- Assumes nothing.
use mathlib.Core.Path.{◌≡◌, refl, sym, ◌∙◌}
use mathlib.Core.Bool.{Bool, true, false, cond, not, ◌&&◌, ◌||◌, true≢false, and-eq-true_iff}
use Prim.Native.Nat.{ℕ, ◌%◌, ◌^◌, ◌≤◌, ◌<◌}
use native.Mathlib.Omega.{arith}
use borrow.Author.Tests.{leb-true, eqb-true, eqb-false, le-leb, eq-eqb, ne_eqb}
use lib.Dec.{eqb, leb}
use Rattle.settings.specs.declared.Settings.{Settings}
use Rattle.settings.specs.Settings.{row_wise, size_fits, order_fits, settings_fit}

-- what a size that fits is: 1 to 4077, and whole rows with protection in row order
pub record SizeFacts (p o n : ℕ) : Type 0 where
  pub least : 0 < n
  pub most : n ≤ 4077
  pub multiple : row_wise p o ≡ true → n % 255 ≡ 0

-- with protection, in row order
pub row_wise_lem : (p o : ℕ) → p ≡ 1 → o ≡ 0 → row_wise p o ≡ true
row_wise_lem p o a b = rw (a, b)

-- what settings that fit are: document 01, sections 2 and 4, an edition of document 02, R-9, and an order of R-8
pub record SettingsFacts (g : Settings) : Type 0 where
  pub resource : 0 < g.resource
  pub resource-most : g.resource < 2 ^ 16
  pub kind : 0 < g.kind
  pub kind-most : g.kind < 3
  pub update : g.update < 2 ^ 4
  pub protection : g.protection < 2
  pub rows : g.protection ≡ 1 → 0 < g.rows
  pub rows-most : g.protection ≡ 1 → g.rows < 2 ^ 8
  pub edition : 0 < g.edition
  pub edition-most : g.edition < 3
  pub order-most : g.order < 2
  pub ordered : g.order ≡ 1 → g.protection ≡ 1
  pub size : SizeFacts g.protection g.order g.size

module _ (p o n : ℕ) where
  pub size_facts : size_fits p o n ≡ true → SizeFacts p o n
  size_facts e = by (row_wise p o) refl e
    where
      by : (t : Bool) → row_wise p o ≡ t → cond t (eqb (n % 255) 0 && (leb 255 n && leb n 3825)) (leb 1 n && leb n 4077) ≡ true → SizeFacts p o n
      by true k e =
          let w = (and-eq-true_iff (eqb (n % 255) 0) (leb 255 n && leb n 3825)).0 e in
          let v = (and-eq-true_iff (leb 255 n) (leb n 3825)).0 w.1 in
          let l = leb-true 255 n v.0 in
          let m = leb-true n 3825 v.1 in
          record { least = omega arith; most = omega arith; multiple = λ h. eqb-true _ _ w.0 }
      by false k e =
          let w = (and-eq-true_iff (leb 1 n) (leb n 4077)).0 e in
          record { least = leb-true 1 n w.0; most = leb-true n 4077 w.1; multiple = λ h. absurd (true≢false (sym h ∙ k)) }

  pub size-fit : SizeFacts p o n → size_fits p o n ≡ true
  size-fit s = by (row_wise p o) refl
    where
      by : (t : Bool) → row_wise p o ≡ t → cond t (eqb (n % 255) 0 && (leb 255 n && leb n 3825)) (leb 1 n && leb n 4077) ≡ true
      by true k =
          let m = s.multiple k in
          rw (eq-eqb (n % 255) 0 m, le-leb 255 n (omega arith), le-leb n 3825 (omega arith))
      by false k = rw (le-leb 1 n (omega arith), le-leb n 4077 s.most)

pub order_facts : (p o : ℕ) → order_fits p o ≡ true → (o < 2) × (o ≡ 1 → p ≡ 0 → ⊥)
order_facts p o e = by (eqb o 0) (eqb o 1) (eqb p 0) refl refl refl e
  where
    by : (a b c : Bool) → eqb o 0 ≡ a → eqb o 1 ≡ b → eqb p 0 ≡ c → a || (b && not c) ≡ true → (o < 2) × (o ≡ 1 → p ≡ 0 → ⊥)
    by true b c x y z e = let w = eqb-true o 0 x in (omega arith, λ v u. omega arith)
    by false true false x y z e = let w = eqb-true o 1 y in let n : p ≡ 0 → ⊥ = eqb-false p 0 z in (omega arith, λ v u. n u)
    by false true true x y z e = absurd (true≢false (sym e))
    by false false c x y z e = absurd (true≢false (sym e))

is_order : (p o : ℕ) → o < 2 → (o ≡ 1 → p ≡ 0 → ⊥) → order_fits p o ≡ true
is_order p o l h = by (eqb o 0) refl
  where
    by : (t : Bool) → eqb o 0 ≡ t → t || (eqb o 1 && not (eqb p 0)) ≡ true
    by true k = refl
    by false k =
        let z : o ≡ 0 → ⊥ = eqb-false o 0 k in
        let w : o ≡ 1 = omega arith in
        rw (eq-eqb o 1 w, ne_eqb p 0 (h w))

one_or_two : (k : ℕ) → eqb k 1 || eqb k 2 ≡ true → (0 < k) × (k < 3)
one_or_two k e = by (eqb k 1) refl e
  where
    by : (t : Bool) → eqb k 1 ≡ t → t || eqb k 2 ≡ true → (0 < k) × (k < 3)
    by true h e = let z = eqb-true k 1 h in omega arith
    by false h e = let z = eqb-true k 2 e in omega arith

is_one_or_two : (k : ℕ) → 0 < k → k < 3 → eqb k 1 || eqb k 2 ≡ true
is_one_or_two k a b = by (eqb k 1) refl
  where
    by : (t : Bool) → eqb k 1 ≡ t → t || eqb k 2 ≡ true
    by true h = refl
    by false h = let z : k ≡ 1 → ⊥ = eqb-false k 1 h in eq-eqb k 2 (omega arith)

rows_told : (p m : ℕ) → eqb p 0 || (leb 1 m && leb m 255) ≡ true → p ≡ 1 → (0 < m) × (m < 2 ^ 8)
rows_told p m e o =
    let w = (and-eq-true_iff (leb 1 m) (leb m 255)).0 (rw (ne_eqb p 0 (λ (z : p ≡ 0). omega arith)) at e) in
    let a = leb-true 1 m w.0 in
    let b = leb-true m 255 w.1 in
    omega arith

rows_fit : (p m : ℕ) → p < 2 → (p ≡ 1 → (0 < m) × (m < 2 ^ 8)) → eqb p 0 || (leb 1 m && leb m 255) ≡ true
rows_fit p m l h = by (eqb p 0) refl
  where
    by : (t : Bool) → eqb p 0 ≡ t → t || (leb 1 m && leb m 255) ≡ true
    by true k = refl
    by false k =
        let z : p ≡ 0 → ⊥ = eqb-false p 0 k in
        let w = h (omega arith) in
        rw (le-leb 1 m (omega arith), le-leb m 255 (omega arith))

-- a protection that is one and not 0
pub by_one : (p : ℕ) → p < 2 → (p ≡ 0 → ⊥) → p ≡ 1
by_one p l h = omega arith

module _ (g : Settings) where
  pub settings_facts : settings_fit g ≡ true → SettingsFacts g
  unfolding settings_fit
  settings_facts e =
      let a = (and-eq-true_iff (leb 1 g.resource) _).0 e in
      let b = (and-eq-true_iff (leb g.resource 65535) _).0 a.1 in
      let c = (and-eq-true_iff (eqb g.kind 1 || eqb g.kind 2) _).0 b.1 in
      let d = (and-eq-true_iff (leb g.update 15) _).0 c.1 in
      let h = (and-eq-true_iff (leb g.protection 1) _).0 d.1 in
      let i = (and-eq-true_iff (eqb g.protection 0 || (leb 1 g.rows && leb g.rows 255)) _).0 h.1 in
      let j = (and-eq-true_iff (eqb g.edition 1 || eqb g.edition 2) _).0 i.1 in
      let q = (and-eq-true_iff (order_fits g.protection g.order) _).0 j.1 in
      let v = order_facts g.protection g.order q.0 in
      let l = leb-true g.resource 65535 b.0 in
      let u = leb-true g.update 15 d.0 in
      let p = leb-true g.protection 1 h.0 in
      record {
        resource = leb-true _ _ a.0;
        resource-most = omega arith;
        kind = (one_or_two g.kind c.0).0;
        kind-most = (one_or_two g.kind c.0).1;
        update = omega arith;
        protection = omega arith;
        rows = λ (o : g.protection ≡ 1). (rows_told g.protection g.rows i.0 o).0;
        rows-most = λ (o : g.protection ≡ 1). (rows_told g.protection g.rows i.0 o).1;
        edition = (one_or_two g.edition j.0).0;
        edition-most = (one_or_two g.edition j.0).1;
        order-most = v.0;
        ordered = λ (o : g.order ≡ 1). let z = v.1 o in by_one g.protection (omega arith) z;
        size = size_facts g.protection g.order g.size q.1;
      }

  pub order-fit : SettingsFacts g → order_fits g.protection g.order ≡ true
  order-fit s = is_order g.protection g.order s.order-most (λ o z. let w = s.ordered o in omega arith)

  pub settings_fit_lem : SettingsFacts g → settings_fit g ≡ true
  unfolding settings_fit
  settings_fit_lem s =
      rw (
        le-leb 1 g.resource s.resource,
        le-leb g.resource 65535 (omega arith),
        is_one_or_two g.kind s.kind s.kind-most,
        le-leb g.update 15 (omega arith),
        le-leb g.protection 1 (omega arith),
        rows_fit g.protection g.rows s.protection (λ o. (s.rows o, s.rows-most o)),
        is_one_or_two g.edition s.edition s.edition-most,
        order-fit s,
        size-fit g.protection g.order g.size s.size,
      )

  -- where one of the facts fails
  pub settings_unfit : (SettingsFacts g → ⊥) → settings_fit g ≡ false
  settings_unfit h = by (settings_fit g) refl
    where
      by : (t : Bool) → settings_fit g ≡ t → t ≡ false
      by true e = absurd (h (settings_facts e))
      by false e = refl

  -- where nothing but the size is left to judge
  pub settings_by_size : (SizeFacts g.protection g.order g.size → SettingsFacts g) → settings_fit g ≡ size_fits g.protection g.order g.size
  settings_by_size h = by (size_fits g.protection g.order g.size) refl
    where
      by : (t : Bool) → size_fits g.protection g.order g.size ≡ t → settings_fit g ≡ t
      by true e = settings_fit_lem (h (size_facts g.protection g.order g.size e))
      by false e = settings_unfit (λ s. true≢false (sym (size-fit g.protection g.order g.size s.size) ∙ e))
