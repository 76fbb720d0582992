-- The record's bytes, there and back: the bytes of the record that 160 bytes hold are those bytes, and the record in a record's bytes is that record. Fewer bytes
-- hold the record that they hold with zeros behind them.
-- Assumes nothing.
use mathlib.Core.Path.{◌≡◌, refl, sym, ap, ap₂, ◌∙◌}
use mathlib.Core.List.{List, [], ◌∷◌, ◌++◌, flatten}
use Prim.Native.Nat.{ℕ, zero, suc, ◌+◌, ◌*◌, ◌/◌, ◌%◌, ◌<◌, ◌≤◌}
use native.Mathlib.Nat.{add_assoc, add-zero}
use native.Mathlib.Omega.{arith}
use mathlib.Core.Logic.{◌⊎◌, inl, inr}
use lib.ListN.{length, get_or, take, drop, get_or-append, get_or-eq_default}
use lib.Seq.{sets, get_or-append-add}
use Rattle.ground.specs.Lists.{listed}
use Rattle.ground.proofs.Listed.{listed_from, listed_ext, listed-whole, joined-all, le_or_lt}
use Rattle.ground.proofs.Writing.{sets-front}
use Rattle.code.specs.Code.{Bytes}
use Rattle.code.proofs.Lists.{zeros, length_zeros, bytes_at_lem}
use Rattle.contents.proofs.Bytes.{sets-above}
use Rattle.places.specs.declared.Place.{Place}
use Rattle.places.specs.declared.Record.{Record}
use Rattle.places.specs.Places.{unused}
use Rattle.holding.proofs.RecordLaws.{length-place}
use Rattle.holding.specs.Layout.{place_length, record_length, two, four, place_in, record_in, as_two, as_four, place_bytes, all_bytes, record_bytes}

-- ---- bytes to numbers and back

low : (x y : ℕ) → x < 256 → (x + y * 256) % 256 ≡ x
low x y h = omega arith

high : (x y : ℕ) → x < 256 → y < 256 → (x + y * 256) / 256 % 256 ≡ y
high x y h k = omega arith

two_back : (x y : ℕ) → x < 256 → y < 256 → as_two (x + y * 256) ≡ x ∷ y ∷ []
two_back x y h k = ap₂ (λ (a b : ℕ). a ∷ b ∷ []) (low x y h) (high x y h k)

lower : (v t : ℕ) → (v + t * 65536) % 256 ≡ v % 256
lower v t = omega arith

middle : (v t : ℕ) → v < 65536 → (v + t * 65536) / 256 % 256 ≡ v / 256 % 256
middle v t h = omega arith

upper : (v t : ℕ) → v < 65536 → (v + t * 65536) / 65536 ≡ t
upper v t h = omega arith

four_back : (x y z w : ℕ) → x < 256 → y < 256 → z < 256 → w < 256 → as_four (x + y * 256 + (z + w * 256) * 65536) ≡ x ∷ y ∷ z ∷ w ∷ []
four_back x y z w hx hy hz hw =
    let v : x + y * 256 < 65536 = omega arith in
    ap₂ ◌++◌ (ap₂ (λ (a b : ℕ). a ∷ b ∷ []) (lower (x + y * 256) (z + w * 256)) (middle (x + y * 256) (z + w * 256) v)) (ap as_two (upper (x + y * 256) (z + w * 256) v))
    ∙ ap₂ ◌++◌ (two_back x y hx hy) (two_back z w hz hw)

module _ (b : List ℕ) (bytes : Bytes b) where
  two_at : (at : ℕ) → as_two (two b at) ≡ get_or b at 0 ∷ get_or b (at + 1) 0 ∷ []
  two_at at = two_back (get_or b at 0) (get_or b (at + 1) 0) (bytes_at_lem b bytes at) (bytes_at_lem b bytes (at + 1))

  four-at : (at : ℕ) → as_four (four b at) ≡ get_or b at 0 ∷ get_or b (at + 1) 0 ∷ get_or b (at + 2) 0 ∷ get_or b (at + 2 + 1) 0 ∷ []
  four-at at =
      four_back (get_or b at 0) (get_or b (at + 1) 0) (get_or b (at + 2) 0) (get_or b (at + 2 + 1) 0) (bytes_at_lem b bytes at) (bytes_at_lem b bytes (at + 1)) (bytes_at_lem b bytes (at + 2))
      (bytes_at_lem b bytes (at + 2 + 1))

  place_back : (at : ℕ) → at + place_length ≤ length b → place_bytes (place_in b at) ≡ take place_length (drop at b)
  unfolding place_in place_bytes
  place_back at h =
      (λ i. two_at at i ++ ((get_or b (at + 2) 0 ∷ get_or b (at + 3) 0 ∷ []) ++ (four-at (at + 4) i
      ++ ((get_or b (at + 8) 0 ∷ get_or b (at + 9) 0 ∷ []) ++ (two_at (at + 10) i ++ (four-at (at + 12) i ++ (two_at (at + 16) i ++ two_at (at + 18) i)))))))
      ∙ (simp (add_assoc, add-zero)) ∙ listed_from b 0 place_length at h

  pieces : (n i : ℕ) → (i + n) * place_length ≤ length b → all_bytes (listed (λ k. place_in b (k * place_length)) n i) ≡ flatten (listed (λ k. take place_length (drop (k * place_length) b)) n i)
  unfolding flatten
  pieces zero i h = refl
  pieces (suc n) i h = ap₂ ◌++◌ (place_back (i * place_length) (omega arith)) (pieces n (suc i) (omega arith))

  -- the bytes of the record that bytes hold
  pub bytes-again : length b ≡ record_length → record_bytes (record_in b) ≡ b
  unfolding record_bytes record_in
  bytes-again n = pieces 8 0 (omega arith) ∙ joined-all b place_length 8 (omega arith)

-- ---- numbers to bytes and back

-- each field in its type
pub record Typed (p : Place) : Type 0 where
  pub resource : p.resource < 65536
  pub kind : p.kind < 256
  pub update : p.update < 256
  pub count : p.count < 4294967296
  pub protection : p.protection < 256
  pub rows : p.rows < 256
  pub slot : p.slot < 65536
  pub start : p.start < 4294967296
  pub edition : p.edition < 65536
  pub order : p.order < 65536

two-again : (v : ℕ) → v < 65536 → v % 256 + v / 256 % 256 * 256 ≡ v
two-again v h = omega arith

four-again : (v : ℕ) → v < 4294967296 → v % 256 + v / 256 % 256 * 256 + (v / 65536 % 256 + v / 65536 / 256 % 256 * 256) * 65536 ≡ v
four-again v h = omega arith

place-again : (p : Place) → Typed p → place_in (place_bytes p) 0 ≡ p
unfolding place_in place_bytes
place-again p t = λ i. record {
  resource = two-again p.resource t.resource i;
  kind = p.kind;
  update = p.update;
  count = four-again p.count t.count i;
  protection = p.protection;
  rows = p.rows;
  slot = two-again p.slot t.slot i;
  start = four-again p.start t.start i;
  edition = two-again p.edition t.edition i;
  order = two-again p.order t.order i;
}

-- byte j of place k
byte_of_lem : (ps : List Place) (k j : ℕ) → k < length ps → j < place_length → get_or (all_bytes ps) (k * place_length + j) 0 ≡ get_or (place_bytes (get_or ps k unused)) j 0
byte_of_lem [] k j h d = absurd (omega arith)
byte_of_lem (p ∷ ps) zero j h d =
    let e : 0 * place_length + j ≡ j = omega arith in
    ap (λ (x : ℕ). get_or (place_bytes p ++ all_bytes ps) x 0) e ∙ get_or-append (place_bytes p) (all_bytes ps) 0 j (omega (arith, length-place p))
byte_of_lem (p ∷ ps) (suc k) j h d =
    let e : suc k * place_length + j ≡ length (place_bytes p) + (k * place_length + j) = omega (arith, length-place p) in
    ap (λ (x : ℕ). get_or (place_bytes p ++ all_bytes ps) x 0) e ∙ get_or-append-add (place_bytes p) (all_bytes ps) (k * place_length + j) 0 ∙ byte_of_lem ps k j (omega arith) d

-- a place is read from its own bytes alone
module _ (l m : List ℕ) (at : ℕ) (same : (j : ℕ) → j < place_length → get_or l (at + j) 0 ≡ get_or m j 0) where
  read : (i j : ℕ) → i ≡ at + j → j < place_length → get_or l i 0 ≡ get_or m j 0
  read i j e h = ap (λ (x : ℕ). get_or l x 0) e ∙ same j h

  two-same : (i j : ℕ) → i ≡ at + j → j + 1 < place_length → two l i ≡ two m j
  two-same i j e h = ap₂ (λ (x y : ℕ). x + y * 256) (read i j e (omega arith)) (read (i + 1) (j + 1) (omega arith) h)

  four_same : (i j : ℕ) → i ≡ at + j → j + 3 < place_length → four l i ≡ four m j
  four_same i j e h = ap₂ (λ (x y : ℕ). x + y * 65536) (two-same i j e (omega arith)) (two-same (i + 2) (j + 2) (omega arith) (omega arith))

  place_same : place_in l at ≡ place_in m 0
  unfolding place_in
  place_same = λ i. record {
    resource = two-same at 0 (omega arith) (omega arith) i;
    kind = read (at + 2) 2 refl (omega arith) i;
    update = read (at + 3) 3 refl (omega arith) i;
    count = four_same (at + 4) 4 refl (omega arith) i;
    protection = read (at + 8) 8 refl (omega arith) i;
    rows = read (at + 9) 9 refl (omega arith) i;
    slot = two-same (at + 10) 10 refl (omega arith) i;
    start = four_same (at + 12) 12 refl (omega arith) i;
    edition = two-same (at + 16) 16 refl (omega arith) i;
    order = two-same (at + 18) 18 refl (omega arith) i;
  }

places-again : (ps : List Place) → ((k : ℕ) → k < length ps → Typed (get_or ps k unused)) → listed (λ k. place_in (all_bytes ps) (k * place_length)) (length ps) 0 ≡ ps
places-again ps t =
    listed_ext (λ k. place_in (all_bytes ps) (k * place_length)) (λ k. get_or ps k unused) (length ps) 0
    (λ k l u.
    let h : k < length ps = omega arith in
    place_same (all_bytes ps) (place_bytes (get_or ps k unused)) (k * place_length) (λ j d. byte_of_lem ps k j h d) ∙ place-again (get_or ps k unused) (t k h))
    ∙ listed-whole ps unused

-- the record that a record's bytes hold
pub record-again : (h : Record) → length h.places ≡ 8 → ((k : ℕ) → k < 8 → Typed (get_or h.places k unused)) → record_in (record_bytes h) ≡ h
unfolding record_in record_bytes
record-again h n t = λ i. record { places = places i }
  where
    places : listed (λ k. place_in (all_bytes h.places) (k * place_length)) 8 0 ≡ h.places
    places =
        ap (λ (x : ℕ). listed (λ k. place_in (all_bytes h.places) (k * place_length)) x 0) (sym n)
        ∙ places-again h.places (λ k l. t k (omega arith))

-- ---- fewer bytes

-- a record is read from its bytes alone
record_alike : (l m : List ℕ) → ((j : ℕ) → get_or l j 0 ≡ get_or m j 0) → record_in l ≡ record_in m
unfolding record_in place_in
record_alike l m e =
    let t : (at : ℕ) → two l at ≡ two m at = λ at i. e at i + e (at + 1) i * 256 in
    let f : (at : ℕ) → four l at ≡ four m at = λ at i. t at i + t (at + 2) i * 65536 in
    λ i. record {
      places = listed
          (λ k. record {
            resource = t (k * place_length) i;
            kind = e (k * place_length + 2) i;
            update = e (k * place_length + 3) i;
            count = f (k * place_length + 4) i;
            protection = e (k * place_length + 8) i;
            rows = e (k * place_length + 9) i;
            slot = t (k * place_length + 10) i;
            start = f (k * place_length + 12) i;
            edition = t (k * place_length + 16) i;
            order = t (k * place_length + 18) i;
          })
          8 0;
    }

zero_at : (n j : ℕ) → get_or (zeros n) j 0 ≡ 0
zero_at zero j = refl
zero_at (suc n) zero = refl
zero_at (suc n) (suc j) = zero_at n j

pub over_zeros : (n : ℕ) (b : List ℕ) → length b ≤ n → (j : ℕ) → get_or (sets (zeros n) 0 b) j 0 ≡ get_or b j 0
over_zeros n b h j = by (le_or_lt (length b) j)
  where
    by : (length b ≤ j) ⊎ (j < length b) → get_or (sets (zeros n) 0 b) j 0 ≡ get_or b j 0
    by (inl p) = sets-above (zeros n) 0 b j (omega arith) ∙ zero_at n j ∙ sym (get_or-eq_default b 0 {n = j} p)
    by (inr p) =
        ap (λ (x : List ℕ). get_or x j 0) (sets-front (zeros n) b (omega (arith, length_zeros n)))
        ∙ get_or-append b (drop (length b) (zeros n)) 0 j p

pub record-padded : (b : List ℕ) → length b ≤ record_length → record_in (sets (zeros record_length) 0 b) ≡ record_in b
record-padded b h = record_alike (sets (zeros record_length) 0 b) b (over_zeros record_length b h)
