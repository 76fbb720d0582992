-- Hand out, case by case, in the order of its refusals: 9, 10, 15, 21, 22, 23, 24, 26. Assumes nothing.
use mathlib.Core.Path.{◌≡◌, refl, sym, ap, ◌∙◌}
use mathlib.Core.Bool.{Bool, true, false, true≢false, not, ◌||◌}
use mathlib.Core.List.{List, ◌++◌}
use Prim.Native.Nat.{ℕ, ◌-◌, ◌*◌, ◌/◌, ◌%◌, ◌<◌, ◌≤◌}
use native.Mathlib.Nat.{mul_comm, div-add-mod', div-div-eq-div-mul}
use native.Mathlib.Omega.{arith}
use borrow.Author.Tests.{lt-leb, le-leb, leb-true, eq-eqb, ne_eqb, eqb-true, eqb-false}
use lib.Dec.{eqb, leb}
use lib.ListN.{length, get_or, drop}
use Rattle.std.proofs.lemmas.Bool.{and_parts}
use Rattle.ground.proofs.Listed.{length-listed}
use Rattle.settings.proofs.Laws.{by_one}
use Rattle.refusals.specs.declared.Refusal.{Refusal}
use Rattle.refusals.specs.declared.Refusal.TheVariants.{Unknown, Slot, Missing, Shape, Size, Output}
use Rattle.layout.specs.Layout.{tables_of, read_back, undone}
use Rattle.layout.specs.Spread.{scattered}
use Rattle.layout.proofs.Coded.{tables_reach}
use Rattle.layout.proofs.Scatter.{scattered-all}
use Rattle.places.specs.declared.Place.{Place}
use Rattle.places.specs.declared.Record.{Record}
use Rattle.places.specs.declared.Name.{Name}
use Rattle.places.specs.Places.{unused, end_of, good, place_named}
use Rattle.places.proofs.Facts.{PlaceFacts, named_facts}
use Rattle.contents.specs.Contents.{Slot as Content, contents, any_wrong, lowest_empty, joined}
use Rattle.losses.specs.Losses.{tabled}
use Rattle.columns.specs.Handing.{refusing, handed, all_zero, hand_tables}
use Rattle.columns.specs.Columns.{hand_columns_of}
use Rattle.columns.proofs.Handed.{handed-short, handed-whole, tabled_made}
use Rattle.columns.proofs.HandLaws.{Comes, comes, comes_from}
use Rattle.handing.specs.Hand.{hand_rows, hand_joined, hand_contents, usable_in, hand_place_of, hand_found, hand_out_of}
use Rattle.handing.specs.Passes.{info_at, info_in, Padding, Usable}
use Rattle.handing.proofs.PaddingLaws.{padding_told}
use Rattle.std.specs.Prelude.{Ok, Err}
use Rattle.std.specs.Prelude.{Some, None}

-- ---- without protection

module _ (p : Place) (sent : List ℕ) (n : ℕ) (out : List ℕ) (z : p.protection ≡ 0) where
  pub plain_size : (n ≡ length sent → ⊥) → Comes (hand_joined p sent n out) (Err Size) out
  unfolding hand_joined
  plain_size d = comes (refusing Size out) (rw (eq-eqb p.protection 0 z, ne_eqb n (length sent) d))

  module _ (e : n ≡ length sent) where
    pub plain-right : hand_joined p sent n out ≡ handed sent out
    unfolding hand_joined
    plain-right = rw (eq-eqb p.protection 0 z, eq-eqb n (length sent) e)

    pub plain-output : (b : ℕ) → b ≡ length sent → length out < b → Comes (hand_joined p sent n out) (Err Output) out
    plain-output b d h = comes (refusing Output out) (plain-right ∙ handed-short sent out (omega arith))

    pub plain-file : (b : ℕ) → b ≡ length sent → b ≤ length out → (z : List ℕ) → z ≡ sent ++ drop (length sent) out → Comes (hand_joined p sent n out) (Ok tt) z
    plain-file b d h z f = comes_from (plain-right ∙ handed-whole sent out (omega arith)) (refl, f)

-- ---- with protection

pub joined-rows : (p : Place) (sent : List ℕ) (n : ℕ) (out : List ℕ) → (p.protection ≡ 0 → ⊥) → hand_joined p sent n out ≡ hand_rows p.rows sent n out
unfolding hand_joined
joined-rows p sent n out d = rw (ne_eqb p.protection 0 d)

module _ (m : ℕ) (sent : List ℕ) (n : ℕ) (out : List ℕ) (rows : ℕ) (k : rows ≡ length sent / 255) where
  as_rows : eqb (length sent / 255 % m) 0 ≡ eqb (rows % m) 0
  as_rows = ap (λ (x : ℕ). eqb (x % m) 0) (sym k)

  pub rows_shape : (rows % m ≡ 0 → ⊥) → Comes (hand_rows m sent n out) (Err Shape) out
  unfolding hand_rows
  rows_shape d = comes (refusing Shape out) (rw (as_rows, ne_eqb (rows % m) 0 d))

  module _ (a : rows % m ≡ 0) where
    as_tables : length sent / (255 * m) ≡ rows / m
    as_tables = sym (div-div-eq-div-mul (length sent) 255 m) ∙ ap (λ (x : ℕ). x / m) (sym k)

    pub rows-size : eqb (tables_of m n) (rows / m) ≡ false → Comes (hand_rows m sent n out) (Err Size) out
    unfolding hand_rows
    rows-size b = comes (refusing Size out) (rw (as_rows, eq-eqb (rows % m) 0 a, as_tables, b))

    module _ (b : eqb (tables_of m n) (rows / m) ≡ true) (h : 0 < m) where
      -- the rows of all tables
      all-rows : length sent / 255 ≡ m * tables_of m n
      all-rows =
          let e : tables_of m n ≡ rows / m = eqb-true (tables_of m n) (rows / m) b in
          let d : tables_of m n * m ≡ rows / m * m = ap (λ (x : ℕ). x * m) e in
          omega (arith, div-add-mod' rows m, mul_comm (tables_of m n) m)

      beyond : (r : Bool) → Padding m n sent 0 (length sent / 255) 0 r → r ≡ all_zero (undone 0 m sent (239 * m * tables_of m n - n) n)
      beyond r g = padding_told m h sent n (tables_of m n) r (rw all-rows at g)

      pub rows_padding : (r : Bool) → r ≡ false → Padding m n sent 0 (length sent / 255) 0 r → Comes (hand_rows m sent n out) (Err Refusal.Padding) out
      unfolding hand_rows hand_tables
      rows_padding r e g =
          let d : all_zero (undone 0 m sent (239 * m * tables_of m n - n) n) ≡ false = sym (beyond r g) ∙ e in
          comes (refusing Refusal.Padding out) (rw (as_rows, eq-eqb (rows % m) 0 a, as_tables, b, d))

      module _ (r : Bool) (e : r ≡ true) (g : Padding m n sent 0 (length sent / 255) 0 r) where
        rows_right : hand_rows m sent n out ≡ handed (undone 0 m sent n 0) out
        unfolding hand_rows hand_tables
        rows_right =
            let d : all_zero (undone 0 m sent (239 * m * tables_of m n - n) n) ≡ true = sym (beyond r g) ∙ e in
            rw (as_rows, eq-eqb (rows % m) 0 a, as_tables, b, d)

        size : length (undone 0 m sent n 0) ≡ n
        size = length-listed (read_back 0 m sent) n 0

        pub rows-output : length out < n → Comes (hand_rows m sent n out) (Err Output) out
        rows-output l = comes (refusing Output out) (rows_right ∙ handed-short (undone 0 m sent n 0) out (omega (arith, size)))

        pub rows-file : n ≤ length out → (z : List ℕ) → z ≡ scattered m n (info_in sent) (length sent / 255) out → Comes (hand_rows m sent n out) (Ok tt) z
        unfolding info_at
        rows-file l z f =
            comes_from (rows_right ∙ handed-whole (undone 0 m sent n 0) out (omega (arith, size))) (
              refl,
              f ∙ ap (λ (x : ℕ). scattered m n (info_in sent) x out) all-rows
                  ∙ scattered-all m n (tables_of m n) sent out h (tables_reach m n h) l ∙ ap (λ (x : ℕ). undone 0 m sent n 0 ++ drop x out) (sym size),
            )

-- ---- by the contents of the slots

module _ (p : Place) (c : List Content) (n : ℕ) (out : List ℕ) where
  pub contents-slot : any_wrong c ≡ true → Comes (hand_contents p c n out) (Err Slot) out
  unfolding hand_contents
  contents-slot w = comes (refusing Slot out) (rw w)

  -- in row order
  module _ (w : any_wrong c ≡ false) (o : p.order ≡ 0) where
    by_rows : eqb p.order 1 ≡ false
    by_rows = ne_eqb p.order 1 (λ z. omega arith)

    pub contents_missing : (i : ℕ) → lowest_empty c 0 ≡ Some i → Comes (hand_contents p c n out) (Err (Missing i)) out
    unfolding hand_contents
    contents_missing i e = comes (refusing (Missing i) out) (rw (w, by_rows, e))

    pub contents-full : lowest_empty c 0 ≡ None → hand_contents p c n out ≡ hand_joined p (joined c) n out
    unfolding hand_contents
    contents-full e = rw (w, by_rows, e)

-- ---- by the place

module _ (p : Place) (size : ℕ) where
  pub usable_far : size < end_of p → false ≡ usable_in p size
  unfolding usable_in
  usable_far h = rw (lt-leb (end_of p) size h) refl

  module _ (h : end_of p ≤ size) where
    module _ (o : p.order ≡ 0) where
      pub usable-plain : p.protection ≡ 0 → true ≡ usable_in p size
      unfolding usable_in
      usable-plain z = rw (le-leb (end_of p) size h, eq-eqb p.order 0 o, eq-eqb p.protection 0 z) refl

      pub usable-rows : (p.protection ≡ 0 → ⊥) → not (eqb p.rows 0) ≡ usable_in p size
      unfolding usable_in
      usable-rows d = rw (le-leb (end_of p) size h, eq-eqb p.order 0 o, ne_eqb p.protection 0 d) refl

rows_told : (p : Place) (b c : Bool) → eqb p.protection 0 ≡ b → eqb p.rows 0 ≡ c → (b || not c) ≡ true → (p.protection ≡ 0 → ⊥) → 1 ≤ p.rows
rows_told p true c y z e d = absurd (d (eqb-true p.protection 0 y))
rows_told p false false y z e d = let n = eqb-false p.rows 0 z in omega arith
rows_told p false true y z e d = absurd (true≢false (sym e))

module _ (p : Place) (s : List ℕ) where
  pub usable-known : usable_in p (length s) ≡ true → Usable p s
  unfolding usable_in
  usable-known e =
      let a = and_parts (leb (end_of p) (length s)) _ e in
      let b = and_parts (eqb p.order 0) _ a.1 in
      record { ends = leb-true (end_of p) (length s) a.0; by_rows = eqb-true p.order 0 b.0; rows = rows_told p _ _ refl refl b.1 }

  module _ (n : ℕ) (out : List ℕ) where
    pub place_columns : p.order ≡ 1 → hand_place_of p s n out ≡ hand_columns_of p s n out
    unfolding hand_place_of
    place_columns o = rw (eq-eqb p.order 1 o)

    pub place-refused : (p.order ≡ 1 → ⊥) → usable_in p (length s) ≡ false → Comes (hand_place_of p s n out) (Err Refusal.Record) out
    unfolding hand_place_of
    place-refused o e = comes (refusing Refusal.Record out) (rw (ne_eqb p.order 1 o, e))

    pub place-usable : usable_in p (length s) ≡ true → hand_place_of p s n out ≡ hand_contents p (contents p s) n out
    unfolding hand_place_of
    place-usable e = let o = (usable-known e).by_rows in rw (ne_eqb p.order 1 (λ z. omega arith), e)

-- a place that lies in the store as a good record's does
pub usable_made : (p : Place) (s : List ℕ) → Usable p s → usable_in p (length s) ≡ true
usable_made p s u = by (eqb p.protection 0) refl
  where
    by : (b : Bool) → eqb p.protection 0 ≡ b → usable_in p (length s) ≡ true
    by true e = sym (usable-plain p (length s) u.ends u.by_rows (eqb-true p.protection 0 e))
    by false e =
        let d : p.protection ≡ 0 → ⊥ = eqb-false p.protection 0 e in
        let r : p.rows ≡ 0 → ⊥ = λ z. omega (arith, u.rows d) in
        sym (usable-rows p (length s) u.ends u.by_rows d) ∙ ap not (ne_eqb p.rows 0 r)

-- one in column order
tabled-hands : (p : Place) (s : List ℕ) (n : ℕ) (out : List ℕ) → tabled p (length s) ≡ true → p.order ≡ 1 → hand_contents p (contents p s) n out ≡ hand_place_of p s n out
unfolding hand_contents hand_place_of hand_columns_of
tabled-hands p s n out t o = rw (t, eq-eqb p.order 1 o)

-- ---- by the record

module _ (h : Record) (s : List ℕ) (x : Name) where
  pub out-record : (n : ℕ) (out : List ℕ) → good (length s) h.places ≡ false → Comes (hand_out_of h s x n out) (Err Refusal.Record) out
  unfolding hand_out_of
  out-record n out b = comes (refusing Refusal.Record out) (rw b)

  module _ (b : good (length s) h.places ≡ true) where
    module _ (n : ℕ) (out : List ℕ) where
      out-good : hand_out_of h s x n out ≡ hand_found h s n out (place_named h.places x)
      unfolding hand_out_of
      out-good = rw b

      pub out_unknown : place_named h.places x ≡ None → Comes (hand_out_of h s x n out) (Err Unknown) out
      out_unknown a = comes (refusing Unknown out) (out-good ∙ ap (hand_found h s n out) a)

      pub out-found : (i : ℕ) → place_named h.places x ≡ Some i
          → hand_out_of h s x n out ≡ hand_contents (get_or h.places i unused) (contents (get_or h.places i unused) s) n out
      out-found i a = out-good ∙ ap (hand_found h s n out) a

    -- the place that was found is one that is handed out
    pub out-placed : (i : ℕ) → place_named h.places x ≡ Some i → (n : ℕ) (out : List ℕ) → hand_out_of h s x n out ≡ hand_place_of (get_or h.places i unused) s n out
    out-placed i a n out = out-found n out i a ∙ by (eqb p.order 1) refl
      where
        p : Place
        p = get_or h.places i unused

        f : PlaceFacts (length s) p
        f = named_facts (length s) h.places b x i a

        by : (t : Bool) → eqb p.order 1 ≡ t → hand_contents p (contents p s) n out ≡ hand_place_of p s n out
        by true t =
            let o : p.order ≡ 1 = eqb-true p.order 1 t in
            tabled-hands p s n out (tabled_made p (length s) f.ends-within (f.rows-least (f.ordered o)) f.slot-least) o
        by false t =
            let o : p.order ≡ 1 → ⊥ = eqb-false p.order 1 t in
            sym (place-usable p s n out (usable_made p s (record {
              ends = f.ends-within;
              by_rows = omega (arith, f.order-most);
              rows = λ d. f.rows-least (by_one p.protection (omega (arith, f.protection-most)) d);
            })))
