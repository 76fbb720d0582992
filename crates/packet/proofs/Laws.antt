-- The laws of the packet: a header written is read back and the other way round, and what an accepted packet's fields satisfy (document 01, sections 2 and 6).
-- Assumes nothing.
use mathlib.Core.Path.{◌≡◌, refl, sym, ap, subst, ◌∙◌}
use mathlib.Core.Bool.{Bool, true, false, cond, not, ◌&&◌, ◌||◌, true≢false, false≢true, and-eq-true_iff}
use mathlib.Core.List.{List, [], ◌∷◌, ◌++◌}
use Prim.Native.Nat.{ℕ, zero, suc, ◌+◌, ◌-◌, ◌*◌, ◌/◌, ◌%◌, ◌^◌, ◌≤◌, ◌<◌}
use native.Mathlib.Omega.{arith}
use borrow.Author.Tests.{ltb-true, ltb-false, leb-false, eqb-true, eqb-false, not-false, le-ltb, lt-leb, eq-eqb, ne_eqb}
use lib.Dec.{eqb, leb, ltb}
use lib.ListN.{length, get_or, take, drop}
use lib.Seq.{drop-cons, get_or-take}
use Rattle.ground.specs.Lists.{listed}
use Rattle.refusals.specs.declared.Refusal.{Refusal}
use Rattle.refusals.specs.declared.Refusal.TheVariants.{Short, Mark, Length, «Type», Protection, Number, Rows, Resource}
use Rattle.packet.specs.declared.Packet.{Packet}
use Rattle.packet.specs.Packet.{resource_in, kind_in, fields_in, marked, bad_protection, bad_number, bad_rows, judged, read_by, header_of}
use Rattle.packet.specs.Range.{InRange}
use Rattle.std.specs.Prelude.{Result}
use Rattle.std.specs.Prelude.{Ok, Err}

-- ---- a header that was written

pub header-length : (f : Packet) → length (header_of f) ≡ 14
unfolding header_of
header-length f = refl

pub marked-header : (f : Packet) (rest : List ℕ) → marked (header_of f ++ rest) ≡ true
unfolding header_of
marked-header f rest = refl

module _ (f : Packet) (h : InRange f) where
  same-resource : f.resource / 256 * 256 + f.resource % 256 ≡ f.resource
  same-resource = omega arith

  same_number : f.number / 4096 % 256 * 4096 + f.number / 16 % 256 * 16 + (f.number % 16 * 16 + f.update % 16) / 16 ≡ f.number
  same_number = omega arith

  same_update : (f.number % 16 * 16 + f.update % 16) % 16 ≡ f.update
  same_update = omega arith

  same_length : f.length / 16 % 256 * 16 + (f.length % 16 * 16 + f.count / 65536 % 16) / 16 ≡ f.length
  same_length = omega arith

  same_count : (f.length % 16 * 16 + f.count / 65536 % 16) % 16 * 65536 + f.count / 256 % 256 * 256 + f.count % 256 ≡ f.count
  same_count = omega arith

  same_kind : (f.kind % 4 * 64 + f.protection % 4 * 16 + f.rows / 16) / 64 ≡ f.kind
  same_kind = omega arith

  same-protection : (f.kind % 4 * 64 + f.protection % 4 * 16 + f.rows / 16) / 16 % 4 ≡ f.protection
  same-protection = omega arith

  same_rows : (f.kind % 4 * 64 + f.protection % 4 * 16 + f.rows / 16) % 16 * 16 + (f.rows % 16 * 16 + f.reserved % 16) / 16 ≡ f.rows
  same_rows = omega arith

  same-reserved : (f.rows % 16 * 16 + f.reserved % 16) % 16 ≡ f.reserved
  same-reserved = omega arith

  -- reading what was written gives the fields back, whatever follows
  pub fields-header : (rest : List ℕ) → fields_in (header_of f ++ rest) ≡ f
  unfolding fields_in header_of
  fields-header rest = simp (same-resource, same_number, same_update, same_length, same_count, same_kind, same-protection, same_rows, same-reserved)

-- every entry is a byte
abbrev Small : List ℕ → Type 0
Small [] = Unit {0}
Small (x ∷ xs) = (x < 256) × Small xs

small_at : (xs : List ℕ) → Small xs → (i : ℕ) → get_or xs i 0 < 256
small_at [] s i = omega arith
small_at (x ∷ xs) s zero = s.0
small_at (x ∷ xs) s (suc i) = small_at xs s.1 i

-- the bytes of a header, for fields that fit their types: of the other fields the low bits are written
pub header-bytes : (f : Packet) → f.resource < 2 ^ 16 → f.rows < 2 ^ 8 → (i : ℕ) → get_or (header_of f) i 0 < 256
unfolding header_of
header-bytes f r m = small_at (header_of f) (omega arith)

-- ---- a header that was read

pub resource_in_lem : (q : List ℕ) → (fields_in q).resource ≡ resource_in q
unfolding fields_in
resource_in_lem q = refl

pub kind_in_lem : (q : List ℕ) → (fields_in q).kind ≡ kind_in q
unfolding fields_in
kind_in_lem q = refl

-- the fields depend on the first fourteen bytes alone
module _ (q : List ℕ) where
  kept : (i : ℕ) → ltb i 14 ≡ true → get_or (take 14 q) i 0 ≡ get_or q i 0
  kept i h = get_or-take 14 q i 0 (ltb-true i 14 h)

  cut : fields_in (take 14 q) ≡ fields_in q
  unfolding fields_in
  cut = simp kept

pub fields-first : (q p : List ℕ) → take 14 q ≡ take 14 p → fields_in q ≡ fields_in p
fields-first q p e = sym (cut q) ∙ ap fields_in e ∙ cut p

mark_bytes : (q : List ℕ) → marked q ≡ true → (get_or q 0 0 ≡ 73) × ((get_or q 1 0 ≡ 89) × (get_or q 2 0 ≡ 105))
mark_bytes q m =
    let w = (and-eq-true_iff (eqb (get_or q 0 0) 73) (eqb (get_or q 1 0) 89 && eqb (get_or q 2 0) 105)).0 m in
    let v = (and-eq-true_iff (eqb (get_or q 1 0) 89) (eqb (get_or q 2 0) 105)).0 w.1 in
    (eqb-true _ _ w.0, (eqb-true _ _ v.0, eqb-true _ _ v.1))

module _ (q : List ℕ) (b : (i : ℕ) → get_or q i 0 < 256) where
  pub fields_in_range : InRange (fields_in q)
  unfolding fields_in
  fields_in_range = record {
    resource = omega (arith, b 3, b 4);
    number = omega (arith, b 5, b 6, b 7);
    update = omega arith;
    length = omega (arith, b 8, b 9);
    count = omega (arith, b 10, b 11);
    kind = omega (arith, b 12);
    protection = omega arith;
    rows = omega (arith, b 13);
    reserved = omega arith;
  }

  -- the entries of q from i on, one by one
  spelt : (n i : ℕ) → i + n ≤ length q → take n (drop i q) ≡ listed (λ k. get_or q k 0) n i
  spelt zero i h = refl
  spelt (suc n) i h = rw (drop-cons q i 0 (omega arith)) (ap (◌∷◌ (get_or q i 0)) (spelt n (suc i) (omega arith)))

  byte_3 : (get_or q 3 0 * 256 + get_or q 4 0) / 256 ≡ get_or q 3 0
  byte_3 = omega (arith, b 4)

  byte_4 : (get_or q 3 0 * 256 + get_or q 4 0) % 256 ≡ get_or q 4 0
  byte_4 = omega (arith, b 4)

  byte_5 : (get_or q 5 0 * 4096 + get_or q 6 0 * 16 + get_or q 7 0 / 16) / 4096 % 256 ≡ get_or q 5 0
  byte_5 = omega (arith, b 5, b 6, b 7)

  byte_6 : (get_or q 5 0 * 4096 + get_or q 6 0 * 16 + get_or q 7 0 / 16) / 16 % 256 ≡ get_or q 6 0
  byte_6 = omega (arith, b 6, b 7)

  byte_7 : (get_or q 5 0 * 4096 + get_or q 6 0 * 16 + get_or q 7 0 / 16) % 16 * 16 + get_or q 7 0 % 16 % 16 ≡ get_or q 7 0
  byte_7 = omega (arith, b 7)

  byte_8 : (get_or q 8 0 * 16 + get_or q 9 0 / 16) / 16 % 256 ≡ get_or q 8 0
  byte_8 = omega (arith, b 8, b 9)

  byte_9 : (get_or q 8 0 * 16 + get_or q 9 0 / 16) % 16 * 16 + (get_or q 9 0 % 16 * 65536 + get_or q 10 0 * 256 + get_or q 11 0) / 65536 % 16 ≡ get_or q 9 0
  byte_9 = omega (arith, b 9, b 10, b 11)

  byte_10 : (get_or q 9 0 % 16 * 65536 + get_or q 10 0 * 256 + get_or q 11 0) / 256 % 256 ≡ get_or q 10 0
  byte_10 = omega (arith, b 10, b 11)

  byte_11 : (get_or q 9 0 % 16 * 65536 + get_or q 10 0 * 256 + get_or q 11 0) % 256 ≡ get_or q 11 0
  byte_11 = omega (arith, b 11)

  byte_12 : get_or q 12 0 / 64 % 4 * 64 + get_or q 12 0 / 16 % 4 % 4 * 16 + (get_or q 12 0 % 16 * 16 + get_or q 13 0 / 16) / 16 ≡ get_or q 12 0
  byte_12 = omega (arith, b 12, b 13)

  byte_13 : (get_or q 12 0 % 16 * 16 + get_or q 13 0 / 16) % 16 * 16 + get_or q 13 0 % 16 % 16 ≡ get_or q 13 0
  byte_13 = omega (arith, b 13)

  -- writing what was read gives the first fourteen bytes back
  pub header-fields : 14 ≤ length q → marked q ≡ true → header_of (fields_in q) ≡ take 14 q
  unfolding fields_in header_of
  header-fields long m =
      simp (byte_3, byte_4, byte_5, byte_6, byte_7, byte_8, byte_9, byte_10, byte_11, byte_12, byte_13)
      (cc ((mark_bytes q m).0, (mark_bytes q m).1.0, (mark_bytes q m).1.1, spelt 14 0 long))

-- ---- reading

-- what an accepted packet is: document 01, section 2, with the refusals 1 to 8 of section 6 turned round; its rows only where they are judged
pub record SentFacts (judging : Bool) (q : List ℕ) (f : Packet) : Type 0 where
  pub fields : f ≡ fields_in q
  pub mark : marked q ≡ true
  pub least : 19 ≤ length q
  pub most : length q ≤ 4095
  pub whole : f.length ≡ length q
  pub kind : f.kind < 3
  pub protection : f.protection < 2
  pub rows : f.protection ≡ 1 → 0 < f.rows
  pub number : f.number < 1048575
  pub below : 0 < f.kind → f.number < f.count
  pub stream : f.kind ≡ 0 → f.count ≡ 0
  pub multiple : judging ≡ true → f.protection ≡ 1 → (length q - 18) % 255 ≡ 0
  pub resource : 0 < f.resource

passed : (t : Bool) (r : Refusal) (y : Result Packet Refusal) (f : Packet) → cond t (Err r) y ≡ Ok f → (t ≡ false) × (y ≡ Ok f)
passed true r y f e = absurd (let z : ◌≡◌ {A = ℕ} 0 1 = cc in omega arith)
passed false r y f e = (refl, e)

neither : (s t : Bool) → s || t ≡ false → (s ≡ false) × (t ≡ false)
neither true t e = absurd (true≢false e)
neither false t e = (refl, e)

not_both : (s t : Bool) → s && t ≡ false → s ≡ true → t ≡ false
not_both true t e p = e
not_both false t e p = absurd (false≢true p)

not_if : (s t : Bool) → (s ≡ true → t ≡ false) → s && t ≡ false
not_if true t h = h refl
not_if false t h = refl

-- the tests of a packet of n bytes all failed, and its fields are what is answered
record Passed (rows : Bool) (g f : Packet) (n : ℕ) : Type 0 where
  kind : eqb g.kind 3 ≡ false
  protection : bad_protection g ≡ false
  number : bad_number g ≡ false
  whole : rows && bad_rows g n ≡ false
  resource : eqb g.resource 0 ≡ false
  same : g ≡ f

judged_sent : (rows : Bool) (g f : Packet) (n : ℕ) → judged rows g n ≡ Ok f → Passed rows g f n
unfolding judged
judged_sent rows g f n e =
    let t4 = passed (eqb g.kind 3) «Type» _ f e in
    let t5 = passed (bad_protection g) Protection _ f t4.1 in
    let t6 = passed (bad_number g) Number _ f t5.1 in
    let t7 = passed (rows && bad_rows g n) Rows _ f t6.1 in
    let t8 = passed (eqb g.resource 0) Resource _ f t7.1 in
    let e : Ok g ≡ Ok f = t8.1 in
    record { kind = t4.0; protection = t5.0; number = t6.0; whole = t7.0; resource = t8.0; same = cc }

module _ (f : Packet) where
  no-protection : bad_protection f ≡ false → (f.protection < 2) × (f.protection ≡ 1 → 0 < f.rows)
  no-protection e =
      let w = neither (ltb 1 f.protection) _ e in
      let p : f.protection ≤ 1 = ltb-false _ _ w.0 in
      let z : f.protection ≡ 1 → f.rows ≡ 0 → ⊥ = λ o. eqb-false _ _ (not_both (eqb f.protection 1) _ w.1 (eq-eqb _ _ o)) in
      (omega arith, λ (o : f.protection ≡ 1). omega (arith, z o))

  -- of a file's packet, and of a stream's
  file-number : bad_number f ≡ false → 0 < f.kind → f.number < f.count
  file-number e k =
      let z : f.kind ≡ 0 → ⊥ = λ (o : f.kind ≡ 0). omega arith in
      leb-false _ _ (rw (ne_eqb _ _ z) at e)

  stream_number : bad_number f ≡ false → f.kind ≡ 0 → (f.count ≡ 0) × (f.number ≡ 1048575 → ⊥)
  stream_number e k =
      let w = neither (not (eqb f.count 0)) (eqb f.number 1048575) (rw (eq-eqb _ _ k) at e) in
      (eqb-true _ _ (not-false _ w.0), eqb-false _ _ w.1)

  whole-rows : (n : ℕ) → bad_rows f n ≡ false → f.protection ≡ 1 → (n - 18) % 255 ≡ 0
  whole-rows n e o = eqb-true _ _ (not-false _ (not_both (eqb f.protection 1) _ e (eq-eqb _ _ o)))

  -- every number is below 2^20 - 1: of a file's packet since the count is at most that, of a stream's since that one is refused
  number-below : f.number < 2 ^ 20 → f.count < 2 ^ 20 → bad_number f ≡ false → f.number < 1048575
  number-below hn hc e = by (eqb f.kind 0) refl
    where
      by : (t : Bool) → eqb f.kind 0 ≡ t → f.number < 1048575
      by true k = let z = (stream_number e (eqb-true _ _ k)).1 in omega arith
      by false k =
          let z : f.kind ≡ 0 → ⊥ = eqb-false _ _ k in
          let p = file-number e (omega arith) in
          omega arith

-- what the fields of an accepted packet satisfy
pub read_sent : (rows : Bool) (q : List ℕ) (f : Packet) → ((i : ℕ) → get_or q i 0 < 256) → read_by rows q ≡ Ok f → SentFacts rows q f
unfolding read_by
read_sent rows q f b e =
    let t1 = passed (ltb (length q) 19) Short _ f e in
    let t2 = passed (not (marked q)) Mark _ f t1.1 in
    let t3 = passed (not (eqb (fields_in q).length (length q))) Length _ f t2.1 in
    let j = judged_sent rows (fields_in q) f (length q) t3.1 in
    let g = fields_in q in
    let r = fields_in_range q b in
    let w : g.length ≡ length q = eqb-true _ _ (not-false _ t3.0) in
    let k : g.kind ≡ 3 → ⊥ = eqb-false _ _ j.kind in
    let o : g.resource ≡ 0 → ⊥ = eqb-false _ _ j.resource in
    subst (SentFacts rows q) j.same (record {
      fields = refl;
      mark = not-false _ t2.0;
      least = ltb-false _ _ t1.0;
      most = omega arith;
      whole = w;
      kind = omega arith;
      protection = (no-protection g j.protection).0;
      rows = (no-protection g j.protection).1;
      number = number-below g r.number r.count j.number;
      below = file-number g j.number;
      stream = λ (s : g.kind ≡ 0). (stream_number g j.number s).0;
      multiple = λ t. whole-rows g (length q) (not_both rows _ j.whole t);
      resource = omega arith;
    })

module _ (rows : Bool) (q : List ℕ) (f : Packet) (s : SentFacts rows q f) where
  good-protection : bad_protection f ≡ false
  good-protection =
      rw (le-ltb 1 f.protection (omega arith))
      (not_if (eqb f.protection 1) _ (λ t. ne_eqb _ _ (λ (z : f.rows ≡ 0). omega (arith, s.rows (eqb-true _ _ t)))))

  good-number : bad_number f ≡ false
  good-number = by (eqb f.kind 0) refl
    where
      by : (t : Bool) → eqb f.kind 0 ≡ t → cond t (not (eqb f.count 0) || eqb f.number 1048575) (leb f.count f.number) ≡ false
      by true k = rw (eq-eqb _ _ (s.stream (eqb-true _ _ k))) (ne_eqb _ _ (λ (z : f.number ≡ 1048575). omega arith))
      by false k = let z : f.kind ≡ 0 → ⊥ = eqb-false _ _ k in lt-leb _ _ (s.below (omega arith))

  good-rows : rows && bad_rows f (length q) ≡ false
  good-rows = not_if rows (bad_rows f (length q)) (λ j. not_if (eqb f.protection 1) _ (λ t. rw (eq-eqb _ _ (s.multiple j (eqb-true _ _ t))) refl))

  judged_accepts : judged rows f (length q) ≡ Ok f
  unfolding judged
  judged_accepts =
      rw (
        ne_eqb f.kind 3 (λ (z : f.kind ≡ 3). omega arith),
        good-protection,
        good-number,
        good-rows,
        ne_eqb f.resource 0 (λ (z : f.resource ≡ 0). omega arith),
      )

  -- a packet whose fields satisfy all that is accepted
  pub read_accepts : read_by rows q ≡ Ok f
  unfolding read_by
  read_accepts =
      rw (le-ltb _ _ s.least, s.mark, ← s.fields, eq-eqb _ _ s.whole) judged_accepts
