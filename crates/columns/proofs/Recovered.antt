-- Slots that hold parts of the coded tables of a file in column order, or nothing, with no row short of more than sixteen bytes: every row is restored as it was sent, and the file
-- is handed out (document 02, R-8). Assumes nothing.
use mathlib.Core.Path.{◌≡◌, refl, sym, ap, ap₂, ◌∙◌}
use mathlib.Core.Logic.{◌⊎◌, inl, inr}
use mathlib.Core.Bool.{Bool, true, false, not, ◌&&◌, true≢false}
use mathlib.Core.List.{List, []}
use Prim.Native.Nat.{ℕ, zero, suc, ◌+◌, ◌-◌, ◌*◌, ◌/◌, ◌%◌, ◌<◌, ◌≤◌, min}
use native.Mathlib.Nat.{mul_comm, mod-lt, div-add-mod', div-lt_iff_lt-mul, zero-lt-suc}
use native.Mathlib.Omega.{arith}
use borrow.Author.Tests.{le-leb, le-ltb, eq-eqb}
use lib.Arith.{digits_lt, digits_div, digits_mod}
use lib.Dec.{eqb}
use lib.ListN.{length, get_or, take, drop, length-take, length-drop}
use lib.Seq.{get_or-take, get_or-drop}
use Rattle.ground.specs.Lists.{ceil}
use Rattle.ground.proofs.Listed.{get_or-listed_0, listed_ext, ceil_upper}
use Rattle.code.specs.Code.{Bytes}
use Rattle.code.specs.Search.{Repaired}
use Rattle.code.specs.Search.Repaired.{found}
use Rattle.code.specs.Restore.{Fits, lost_of}
use Rattle.code.proofs.Restored.{restore_found}
use Rattle.layout.specs.Layout.{Spot, tables_of, sent_byte_at, sent_spot, row_of, coded_at, coded_file}
use Rattle.layout.proofs.Places.{sent_rule, table_below, byte-below}
use Rattle.layout.proofs.Coded.{length-coded, row-coded}
use Rattle.places.specs.declared.Place.{Place}
use Rattle.places.specs.Room.{lowest_from}
use Rattle.contents.specs.Contents.{Slot as Content, wrong, holding}
use Rattle.losses.specs.Losses.{payload_of, payload_at, came_at, lost_at, sent_at, row_came, lost_in}
use Rattle.columns.specs.Columns.{sent_length, length_serves, misfits, lacks, row_restored, uncoded, is_none, row_in, restored, hand_columns}
use Rattle.columns.proofs.Handed.{accepted, tables_coded}
use Rattle.std.specs.Prelude.{None}

and_not : (x : Bool) → (not x && false) ≡ false
and_not true = refl
and_not false = refl

-- where no number passes
none_from : (f : ℕ → Bool) (s n : ℕ) → ((k : ℕ) → s ≤ k → k < s + n → f k ≡ false) → lowest_from f s n ≡ None
unfolding lowest_from
none_from f s zero h = refl
none_from f s (suc n) h = rw (h s (omega arith) (omega arith)) (none_from f (suc s) n (λ k a b. h k (omega arith) (omega arith)))

none_below : (f : ℕ → Bool) (n : ℕ) → ((k : ℕ) → k < n → f k ≡ false) → lowest_from f 0 n ≡ None
none_below f n h = none_from f 0 n (λ k a b. h k (omega arith))

module _ (m size : ℕ) (some : 0 < m) (wide : 0 < size) (file : List ℕ) where
  abbrev sent : List ℕ
  sent = coded_file 1 m file

  abbrev total : ℕ
  total = sent_length m (length file)

  -- part k of what is sent
  abbrev pub part : ℕ → List ℕ
  part k = take size (drop (k * size) sent)

  part_length : (k : ℕ) → length (part k) ≡ min size (total - k * size)
  part_length k = length-take size (drop (k * size) sent) ∙ ap (min size) (length-drop (k * size) sent ∙ ap (λ (x : ℕ). x - k * size) (length-coded 1 m file))

  -- each slot is empty or holds its part
  pub record Parts (c : List Content) : Type 0 where
    pub each : (k : ℕ) → k < ceil total size → (get_or c k wrong ≡ holding []) ⊎ (get_or c k wrong ≡ holding (part k))

  module _ (c : List Content) (ps : Parts c) where
    payload_either : (k : ℕ) → k < ceil total size → (payload_at c k ≡ []) ⊎ (payload_at c k ≡ part k)
    payload_either k l = by (ps.each k l)
      where
        by : (get_or c k wrong ≡ holding []) ⊎ (get_or c k wrong ≡ holding (part k)) → (payload_at c k ≡ []) ⊎ (payload_at c k ≡ part k)
        by (inl e) = inl (ap payload_of e)
        by (inr e) = inr (ap payload_of e)

    -- no slot misfits
    fits_all : (k : ℕ) → k < ceil total size → misfits size total c k ≡ false
    unfolding misfits
    fits_all k l = by (payload_either k l)
      where
        by : (payload_at c k ≡ []) ⊎ (payload_at c k ≡ part k) → misfits size total c k ≡ false
        by (inl e) = rw e refl
        by (inr e) = rw (e, eq-eqb (length (part k)) (min size (total - k * size)) (part_length k)) (and_not (eqb (length (part k)) 0))

    -- byte j of what was sent, where it came
    came_sent : (j : ℕ) → j < total → lost_at size c j ≡ false → came_at size c j ≡ get_or sent j 0
    came_sent j l h =
        let s : j / size < ceil total size = slot-below in
        by (payload_either (j / size) s)
      where
        slot-below : j / size < ceil total size
        slot-below =
            let u : total ≤ ceil total size * size = ceil_upper total size wide in
            (div-lt_iff_lt-mul wide).1 (omega arith)

        by : (payload_at c (j / size) ≡ []) ⊎ (payload_at c (j / size) ≡ part (j / size)) → came_at size c j ≡ get_or sent j 0
        by (inl e) = absurd (true≢false (sym (ap (λ (b : List ℕ). eqb (length b) 0) e) ∙ h))
        by (inr e) =
            ap (λ (b : List ℕ). get_or b (j % size) 0) e
            ∙ get_or-take size (drop (j / size * size) sent) (j % size) 0 (mod-lt j wide)
            ∙ get_or-drop (j / size * size) sent (j % size) 0
            ∙ ap (λ (x : ℕ). get_or sent x 0) (div-add-mod' j size)

    -- row q of what is sent
    abbrev row_sent : ℕ → List ℕ
    row_sent q = row_of m file (q / m) (q % m)

    table_of_lem : (q : ℕ) → q < m * tables_of m (length file) → q / m < tables_of m (length file)
    table_of_lem q l = (div-lt_iff_lt-mul some).1 (omega (arith, mul_comm m (tables_of m (length file))))

    sent_below : (q k : ℕ) → q < m * tables_of m (length file) → k < 255 → sent_at m q k < total
    sent_below q k l h =
        byte-below m 255 (sent_byte_at 1 m) (sent_spot 1 m) some (zero-lt-suc 254) (sent_rule 1 m some) (tables_of m (length file))
        (record { table = q / m; row = q % m; column = k }) (table_of_lem q l) (mod-lt q some) h

    sent_at_lem : (j : ℕ) → j < total → get_or sent j 0 ≡ coded_at m file (sent_spot 1 m j)
    unfolding coded_file
    sent_at_lem j l = get_or-listed_0 (λ j. coded_at m file (sent_spot 1 m j)) total j 0 l

    row_sent_lem : (q k : ℕ) → q < m * tables_of m (length file) → k < 255 → get_or sent (sent_at m q k) 0 ≡ get_or (row_sent q) k 0
    row_sent_lem q k l h =
        sent_at_lem (sent_at m q k) (sent_below q k l h)
        ∙ ap (coded_at m file) ((sent_rule 1 m some).spot_of_byte (record { table = q / m; row = q % m; column = k }) (mod-lt q some) h)

    module _ (b : Bytes file) (few : (q : ℕ) → q < m * tables_of m (length file) → lost_of (lost_in m size c q) 255 ≤ 16) where
      -- it is the coded row that has the known bytes
      fits-row : (q : ℕ) → q < m * tables_of m (length file) → Fits (lost_in m size c q) (row_came m size c q) (row_sent q)
      unfolding row_came
      fits-row q l = record {
        coded = row-coded m file (q / m) (q % m) b;
        known = λ k h e. sym (get_or-listed_0 (λ k. came_at size c (sent_at m q k)) 255 k 0 h ∙ came_sent (sent_at m q k) (sent_below q k l h) e ∙ row_sent_lem q k l h);
      }

      row_back : (q : ℕ) → q < m * tables_of m (length file) → row_restored m size c q ≡ found (row_sent q)
      unfolding row_restored
      row_back q l = restore_found (lost_in m size c q) (row_came m size c q) (row_sent q) (few q l) (fits-row q l)

      full-row : (q : ℕ) → q < m * tables_of m (length file) → lacks m size c q ≡ false
      unfolding lacks
      full-row q l = le-ltb 16 (lost_of (lost_in m size c q) 255) (few q l)

      coded_row_lem : (q : ℕ) → q < m * tables_of m (length file) → uncoded m size c q ≡ false
      unfolding uncoded
      coded_row_lem q l = ap is_none (row_back q l)

      -- so all of it is what was sent
      pub all_back : restored m size c total ≡ sent
      unfolding restored coded_file
      all_back =
          listed_ext (λ j. get_or (row_in (row_restored m size c ((sent_spot 1 m j).table * m + (sent_spot 1 m j).row))) (sent_spot 1 m j).column 0)
          (λ j. coded_at m file (sent_spot 1 m j)) total 0 (λ j a l. at j (omega arith))
        where
          at : (j : ℕ) → j < total
              → get_or (row_in (row_restored m size c ((sent_spot 1 m j).table * m + (sent_spot 1 m j).row))) (sent_spot 1 m j).column 0 ≡ coded_at m file (sent_spot 1 m j)
          at j l =
              let s : Spot = sent_spot 1 m j in
              let r : s.row < m = (sent_rule 1 m some).row_below j in
              let t : s.table < tables_of m (length file) = table_below m 255 (sent_byte_at 1 m) (sent_spot 1 m) some (zero-lt-suc 254) (sent_rule 1 m some) (tables_of m (length file)) j l in
              let q : s.table * m + s.row < m * tables_of m (length file) = omega (arith, digits_lt t r, mul_comm (tables_of m (length file)) m) in
              ap (λ (x : Repaired). get_or (row_in x) s.column 0) (row_back (s.table * m + s.row) q)
              ∙ ap₂ (λ (x y : ℕ). get_or (row_of m file x y) s.column 0) (digits_div s.table r) (digits_mod s.table r)

-- a place that holds such slots hands the file out
pub columns_handed : (p : Place) (file : List ℕ) (c : List Content) (out : List ℕ) → 1 ≤ p.rows → 1 ≤ p.slot → Bytes file → 1 ≤ length file → length file ≤ 16777216
    → p.count ≡ ceil (sent_length p.rows (length file)) p.slot
    → ((k : ℕ) → k < p.count → (get_or c k wrong ≡ holding []) ⊎ (get_or c k wrong ≡ holding (take p.slot (drop (k * p.slot) (coded_file 1 p.rows file)))))
    → ((q : ℕ) → q < p.rows * tables_of p.rows (length file) → lost_of (lost_in p.rows p.slot c q) 255 ≤ 16)
    → length file ≤ length out → hand_columns p c (length file) out ≡ accepted file out
unfolding hand_columns length_serves
columns_handed p file c out rows slot b some most count each few room =
    let m : ℕ = p.rows in
    let size : ℕ = p.slot in
    let total : ℕ = sent_length m (length file) in
    let parts : Parts m size rows slot file c = record { each = λ k l. each k (omega arith) } in
    let n : ℕ = m * tables_of m (length file) in
    rw (
      le-leb 1 (length file) some,
      le-leb (length file) 16777216 most,
      eq-eqb (ceil total size) p.count (sym count),
      none_below (misfits size total c) p.count (λ k l. fits_all m size rows slot file c parts k (omega arith)),
      none_below (lacks m size c) n (full-row m size rows slot file c parts b few),
      none_below (uncoded m size c) n (coded_row_lem m size rows slot file c parts b few),
      all_back m size rows slot file c parts b few,
    )
    (tables_coded 1 m rows file out room)
