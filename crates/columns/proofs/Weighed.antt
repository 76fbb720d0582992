-- What weighing a place in column order tells of Hand out, whatever the output is: the refusal that every output gets, or that all rows are there and only the output's room is
-- left to be judged. Assumes nothing.
use mathlib.Core.Path.{◌≡◌, refl, sym, ap, ◌∙◌}
use mathlib.Core.Bool.{Bool, true, false}
use mathlib.Core.List.{List, [], ◌++◌}
use Prim.Native.Nat.{ℕ, ◌-◌, ◌*◌, ◌<◌, ◌≤◌}
use native.Mathlib.Omega.{arith}
use borrow.Author.Tests.{ltb-false}
use lib.ListN.{length, drop, replicate, length-replicate}
use Rattle.ground.proofs.Listed.{length-listed}
use Rattle.refusals.specs.declared.Refusal.{Refusal}
use Rattle.refusals.specs.declared.Refusal.TheVariants.{Slot, Shape, Size, Lost, Code, Padding, Output}
use Rattle.code.specs.Restore.{lost_of}
use Rattle.layout.specs.Layout.{tables_of, read_back, undone}
use Rattle.places.specs.declared.Place.{Place}
use Rattle.places.specs.Room.{lowest_from}
use Rattle.contents.specs.Contents.{contents, any_wrong}
use Rattle.losses.specs.Losses.{lost_in, tabled}
use Rattle.columns.specs.Handing.{Handing, refusing, handed, all_zero}
use Rattle.columns.specs.Columns.{sent_length, length_serves, misfits, lacks, uncoded, restored, hand_columns_of, weighed_of}
use Rattle.columns.specs.InnerJudge.{Shaped, is_nothing, hand_judged}
use Rattle.columns.specs.InnerWrite.{Writable}
use Rattle.columns.proofs.Lowest.{none_passes}
use Rattle.columns.proofs.LengthLaws.{serves-known}
use Rattle.columns.proofs.Handed.{handed-short, handed-whole}
use Rattle.columns.proofs.HandLaws.{Comes, comes, comes_from, columns_record, columns_slot, columns_size, columns_shape, shaped, columns_shaped, judged-lost, judged_code, judged_padding, judged-whole}
use Rattle.std.specs.Prelude.{Option, Some, None, Result, Ok, Err}

not_both : {X : Type 0} (r : Refusal) → ◌≡◌ {A = Result (Unit {0}) Refusal} (Err r) (Ok tt) → X
not_both r e = let d : ◌≡◌ {A = ℕ} 0 1 = cc in absurd (omega arith)

module _ (p : Place) (s : List ℕ) (n : ℕ) where
  abbrev lacking : Option ℕ
  lacking = lowest_from (lacks p.rows p.slot (contents p s)) 0 (p.rows * tables_of p.rows n)

  abbrev uncoded_ones : Option ℕ
  uncoded_ones = lowest_from (uncoded p.rows p.slot (contents p s)) 0 (p.rows * tables_of p.rows n)

  abbrev misfitting : Option ℕ
  misfitting = lowest_from (misfits p.slot (sent_length p.rows n) (contents p s)) 0 p.count

  abbrev sent : List ℕ
  sent = restored p.rows p.slot (contents p s) (sent_length p.rows n)

  abbrev padding : List ℕ
  padding = undone 1 p.rows sent (239 * p.rows * tables_of p.rows n - n) n

  -- the file that the restored rows give
  abbrev pub file_in : List ℕ
  file_in = undone 1 p.rows sent n 0

  -- one refusal into every output, or none but for its room; then the file can be written
  data Weighs : Type 0 where
    refuses : (r : Refusal) → ((out : List ℕ) → hand_columns_of p s n out ≡ refusing r out) → Weighs
    passes : (p.rows ≤ 255 → p.slot ≤ 65535 → Writable p s n) → ((out : List ℕ) → hand_columns_of p s n out ≡ handed file_in out) → Weighs

  full-few : (q : ℕ) → lacks p.rows p.slot (contents p s) q ≡ false → lost_of (lost_in p.rows p.slot (contents p s) q) 255 ≤ 16
  unfolding lacks
  full-few q e = ltb-false 16 (lost_of (lost_in p.rows p.slot (contents p s) q) 255) e

  writable : Shaped p s n → lacking ≡ None → is_nothing uncoded_ones ≡ true → p.rows ≤ 255 → p.slot ≤ 65535 → Writable p s n
  writable v l u a b =
      let w = serves-known p n v.serving.serves in
      record {
        ends = v.serving.place.ends;
        rows = v.serving.place.rows;
        rows-most = a;
        slot = v.serving.place.slot;
        slot-most = b;
        some = w.least;
        most = w.most;
        right = v.serving.right;
        count = w.count;
        shaped = none_passes (misfits p.slot (sent_length p.rows n) (contents p s)) p.count (ap is_nothing v.shaped);
        full = λ q h. full-few q (none_passes (lacks p.rows p.slot (contents p s)) (p.rows * tables_of p.rows n) (ap is_nothing l) q h);
        coded = none_passes (uncoded p.rows p.slot (contents p s)) (p.rows * tables_of p.rows n) u;
      }

  module _ (v : Shaped p s n) (same : (out : List ℕ) → hand_columns_of p s n out ≡ hand_judged p s n out) where
    by_padding : (l : lacking ≡ None) (u : is_nothing uncoded_ones ≡ true) (b : Bool) → all_zero padding ≡ b → Weighs
    by_padding l u false z = refuses Padding (λ out. same out ∙ judged_padding p s n out l u z)
    by_padding l u true z = passes (writable v l u) (λ out. same out ∙ judged-whole p s n out l u z)

    by_code : (l : lacking ≡ None) (b : Bool) → is_nothing uncoded_ones ≡ b → Weighs
    by_code l false u = refuses Code (λ out. same out ∙ judged_code p s n out l u)
    by_code l true u = by_padding l u (all_zero padding) refl

    by_rows : (o : Option ℕ) → lacking ≡ o → Weighs
    by_rows (Some q) e = refuses (Lost q) (λ out. same out ∙ judged-lost p s n out q e)
    by_rows None e = by_code e (is_nothing uncoded_ones) refl

  by_shape : (t : tabled p (length s) ≡ true) (w : any_wrong (contents p s) ≡ false) (l : length_serves p n ≡ true) (b : Bool) → is_nothing misfitting ≡ b → Weighs
  by_shape t w l false e = refuses Shape (λ out. columns_shape p s n out t w l e)
  by_shape t w l true e = by_rows (shaped p s n [] t w l e) (λ out. columns_shaped p s n out t w l e) lacking refl

  by_size : (t : tabled p (length s) ≡ true) (w : any_wrong (contents p s) ≡ false) (b : Bool) → length_serves p n ≡ b → Weighs
  by_size t w false l = refuses Size (λ out. columns_size p s n out t w l)
  by_size t w true l = by_shape t w l (is_nothing misfitting) refl

  by_slots : (t : tabled p (length s) ≡ true) (b : Bool) → any_wrong (contents p s) ≡ b → Weighs
  by_slots t true w = refuses Slot (λ out. columns_slot p s n out t w)
  by_slots t false w = by_size t w (length_serves p n) refl

  by_place : (b : Bool) → tabled p (length s) ≡ b → Weighs
  by_place false t = refuses Refusal.Record (λ out. columns_record p s n out t)
  by_place true t = by_slots t (any_wrong (contents p s)) refl

  weighs : Weighs
  weighs = by_place (tabled p (length s)) refl

  size : length file_in ≡ n
  size = length-listed (read_back 1 p.rows sent) n 0

  -- what it says is the answer into as many zeros
  pub weighed_as : (h : Handing) → hand_columns_of p s n (replicate n 0) ≡ h → h.answer ≡ weighed_of p s n
  unfolding weighed_of
  weighed_as h e = ap (λ (x : Handing). x.answer) (sym e)

  -- which has room
  whole_zeros : handed file_in (replicate n 0) ≡ record { answer = (Ok tt); output = file_in ++ drop (length file_in) (replicate n 0) }
  whole_zeros = handed-whole file_in (replicate n 0) (omega (arith, size, length-replicate {A = ℕ} n 0))

  pub weighed_whole : hand_columns_of p s n (replicate n 0) ≡ handed file_in (replicate n 0) → (Ok tt) ≡ weighed_of p s n
  weighed_whole e = weighed_as (record { answer = (Ok tt); output = file_in ++ drop (length file_in) (replicate n 0) }) (e ∙ whole_zeros)

  -- ---- refused

  pub weighed_refused : (r : Refusal) → weighed_of p s n ≡ Err r → (out : List ℕ) → Comes (hand_columns_of p s n out) (Err r) out
  weighed_refused r e out = comes (refusing r out) (by weighs)
    where
      by : Weighs → hand_columns_of p s n out ≡ refusing r out
      by (refuses x h) =
          let z : Err x ≡ Err r = weighed_as (refusing x (replicate n 0)) (h (replicate n 0)) ∙ e in
          let d : x ≡ r = cc in
          h out ∙ ap (λ (y : Refusal). refusing y out) d
      by (passes w h) = not_both r (sym (weighed_whole (h (replicate n 0)) ∙ e))

  -- ---- accepted

  module _ (e : weighed_of p s n ≡ (Ok tt)) where
    -- only the room is left
    by_room : (out : List ℕ) → hand_columns_of p s n out ≡ handed file_in out
    by_room out = by weighs
      where
        by : Weighs → hand_columns_of p s n out ≡ handed file_in out
        by (refuses x h) = not_both x (weighed_as (refusing x (replicate n 0)) (h (replicate n 0)) ∙ e)
        by (passes w h) = h out

    pub weighed_writable : p.rows ≤ 255 → p.slot ≤ 65535 → Writable p s n
    weighed_writable = by weighs
      where
        by : Weighs → p.rows ≤ 255 → p.slot ≤ 65535 → Writable p s n
        by (refuses x h) = not_both x (weighed_as (refusing x (replicate n 0)) (h (replicate n 0)) ∙ e)
        by (passes w h) = w

    pub weighed_short : (out : List ℕ) → length out < n → Comes (hand_columns_of p s n out) (Err Output) out
    weighed_short out l = comes (refusing Output out) (by_room out ∙ handed-short file_in out (omega (arith, size)))

    pub weighed_file : (out : List ℕ) → n ≤ length out → (z : List ℕ) → z ≡ file_in ++ drop n out → Comes (hand_columns_of p s n out) (Ok tt) z
    weighed_file out l z q =
        comes_from (by_room out ∙ handed-whole file_in out (omega (arith, size)))
        (refl, q ∙ ap (λ (x : ℕ). file_in ++ drop x out) (sym size))
