-- Demand 3 in column order (document 02, R-8): a slot that is empty at the end is one whose packet was never offered, so no row lacks more than sixteen bytes, and the file is handed
-- out; and no second file fits the same offers. Assumes nothing.
use mathlib.Core.Path.{◌≡◌, refl, sym, ap, ap₂, ◌∙◌}
use mathlib.Core.Bool.{Bool, true, false, true≢false}
use mathlib.Core.List.{List}
use Prim.Native.Nat.{ℕ, zero, suc, ◌+◌, ◌*◌, ◌/◌, ◌%◌, ◌≤◌, ◌<◌}
use native.Mathlib.Nat.{mul_comm, mod-lt, div-add-mod', zero-lt-suc}
use native.Mathlib.Omega.{arith}
use borrow.Author.Tests.{eqb-true}
use lib.Arith.{digits_lt, digits_div, digits_mod}
use lib.Dec.{eqb}
use lib.ListN.{length, get_or, drop}
use lib.Seq.{get_or-take, get_or-drop}
use Rattle.ground.specs.Lists.{listed}
use Rattle.ground.proofs.Listed.{get_or-listed_0, listed_ext}
use Rattle.refusals.specs.Told.{verdict_told}
use Rattle.code.specs.Restore.{lost_of}
use Rattle.code.proofs.Restored.{only_one}
use Rattle.layout.specs.Layout.{Spot, tables_of, sent_byte_at, sent_spot, row_of, coded_at, coded_file, undone}
use Rattle.layout.proofs.Places.{sent_rule, table_below}
use Rattle.layout.proofs.Coded.{row-coded, undone-file}
use Rattle.settings.specs.declared.Settings.{Settings}
use Rattle.settings.proofs.Laws.{settings_facts}
use Rattle.pack.specs.Pack.{count_of, sent_of, payload_of as sentPart}
use Rattle.pack.proofs.Laws.{rows_positive, sent_coded, payload_some}
use Rattle.contents.specs.Contents.{contents}
use Rattle.contents.proofs.Places.{length-contents}
use Rattle.losses.specs.Losses.{payload_of, sent_at, lost_in}
use Rattle.columns.specs.Handing.{Handing}
use Rattle.promises.specs.Calls.{Call, Answer, State, step, fresh}
use Rattle.promises.specs.Calls.Call.{offering}
use Rattle.promises.specs.Statements.{Protected, CarriesEnough, HandsOut, Demand3Columns, FromFreshColumns, NoSecondColumns}
use Rattle.promises.proofs.Whole.{sent_total, sent_slot, contents_recovered}
use Rattle.promises.proofs.Demand.{Collecting, Has, own, slot_in_lem, fair-run, offered_run, handed, begun}
use Rattle.promises.proofs.Fresh.{opens, packed}
use Rattle.promises.proofs.NoSecond.{both, served}

-- fewer are lost where each that is lost is one of the others
pub lost_fewer : (f g : ℕ → Bool) (n : ℕ) → ((c : ℕ) → c < n → f c ≡ true → g c ≡ true) → lost_of f n ≤ lost_of g n
unfolding lost_of
lost_fewer f g zero h = omega arith
lost_fewer f g (suc n) h = by (f n) (g n) refl refl (lost_fewer f g n (λ c l. h c (omega arith)))
  where
    by : (a b : Bool) → f n ≡ a → g n ≡ b → lost_of f n ≤ lost_of g n → lost_of f (suc n) ≤ lost_of g (suc n)
    by true true x y l = rw (x, y) (omega arith)
    by true false x y l = absurd (true≢false (sym (h n (omega arith) x) ∙ y))
    by false true x y l = rw (x, y) (omega arith)
    by false false x y l = rw (x, y) l

-- ---- the demand

module _ (g : Settings) (file : List ℕ) (p : Protected g file) (o : g.order ≡ 1) (i start : ℕ) where
  -- where all but the packets that are gone are there
  module _ (x : State) (c : Collecting g file p i start x) (gone : ℕ → Bool) (there : (n : ℕ) → n < count_of g (length file) → gone n ≡ false → Has g file p i start n x)
      (few : (q : ℕ) → q < g.rows * tables_of g.rows (length file) → lost_of (λ k. gone (sent_at g.rows q k / g.size)) 255 ≤ 16) where
    -- a slot that is empty is gone
    empty-gone : (n : ℕ) → n < count_of g (length file) → eqb (length (payload_of (slot_in_lem g file p i start n x))) 0 ≡ true → gone n ≡ true
    empty-gone n l e = by (gone n) refl
      where
        by : (t : Bool) → gone n ≡ t → gone n ≡ true
        by true t = t
        by false t =
            let full : payload_of (slot_in_lem g file p i start n x) ≡ sentPart g file n = ap payload_of (there n l t) in
            let none : length (sentPart g file n) ≡ 0 = ap length (sym full) ∙ eqb-true _ _ e in
            absurd (omega (arith, payload_some g file p.fit n l))

    few-lost : (q : ℕ) → q < g.rows * tables_of g.rows (length file)
        → lost_of (lost_in g.rows g.size (contents (own g file p i start) x.store) q) 255 ≤ 16
    few-lost q l =
        omega (
          arith,
          few q l,
          lost_fewer (lost_in g.rows g.size (contents (own g file p i start) x.store) q) (λ k. gone (sent_at g.rows q k / g.size)) 255
              (λ k h e. empty-gone (sent_at g.rows q k / g.size) (sent_slot g file p q k l h) e),
        )

    pub recovered : HandsOut step g file x
    unfolding step
    recovered out room =
        ap (λ (h : Handing). record { told = verdict_told h.answer; output = h.output })
        (handed g file p i start x c (length file) out
        ∙ contents_recovered g file p (contents (own g file p i start) x.store) (length-contents (own g file p i start) x.store) o start c.slots few-lost out room)

pub demand_3_columns : Demand3Columns step
demand_3_columns g file p o x answer cs carried =
    let b = begun g file p x answer in
    recovered g file p o b.0 b.1 _ (fair-run g file p b.0 b.1 carried.fair _ b.2).collecting carried.gone
    (λ n l e. offered_run g file p b.0 b.1 n l (carried.others n l e) carried.fair _ b.2) carried.few

pub from_fresh_columns : FromFreshColumns step
unfolding step
from_fresh_columns g file p o s room cs carried = record {
  packs = packed g file p;
  opens = opens g file p s room.0 (omega (arith, room.1));
  hands = demand_3_columns g file p o (fresh s) (ap (λ (a : Answer). a.told.number) (opens g file p s room.0 (omega (arith, room.1)))) cs carried;
}

-- ---- no second file

module _ (g : Settings) (a b : List ℕ) (pa : Protected g a) (pb : Protected g b) (o : g.order ≡ 1) (e : length a ≡ length b)
    (cs : List Call) (ca : CarriesEnough g a cs) (cb : CarriesEnough g b cs) where
  coded : g.protection ≡ 0 → ⊥
  coded z = omega (arith, pa.protection)

  some-rows : 0 < g.rows
  some-rows = rows_positive g pa.fit coded

  abbrev total : ℕ
  total = 255 * g.rows * tables_of g.rows (length a)

  -- packets that were offered are the same
  same-part : (n : ℕ) → n < count_of g (length a) → ca.gone n ≡ false → sentPart g a n ≡ sentPart g b n
  same-part n l z =
      let s = both g a b n (ca.others n l z) cb.fair in
      served g a b pa pb (ap (count_of g) e) n l s.packet s.one (offering s.packet) refl s.other

  -- byte j of what is sent of a file, by its packet
  by_part : (f : List ℕ) → Protected g f → (j : ℕ) → get_or (coded_file 1 g.rows f) j 0 ≡ get_or (sentPart g f (j / g.size)) (j % g.size) 0
  unfolding sentPart
  by_part f pf j =
      let w : 0 < g.size = (settings_facts g pf.fit).size.least in
      let s : sent_of g f ≡ coded_file 1 g.rows f = sent_coded g f (λ z. omega (arith, pf.protection)) ∙ ap (λ (x : ℕ). coded_file x g.rows f) o in
      sym (get_or-take g.size (drop (j / g.size * g.size) (sent_of g f)) (j % g.size) 0 (mod-lt j w)
      ∙ get_or-drop (j / g.size * g.size) (sent_of g f) (j % g.size) 0
      ∙ ap₂ (λ (l : List ℕ) (k : ℕ). get_or l k 0) s (div-add-mod' j g.size))

  -- column k of row q
  row_at_lem : (f : List ℕ) → length f ≡ length a → (q k : ℕ) → sent_at g.rows q k < total → k < 255
      → get_or (coded_file 1 g.rows f) (sent_at g.rows q k) 0 ≡ get_or (row_of g.rows f (q / g.rows) (q % g.rows)) k 0
  unfolding coded_file
  row_at_lem f d q k l h =
      get_or-listed_0 (λ j. coded_at g.rows f (sent_spot 1 g.rows j)) (255 * g.rows * tables_of g.rows (length f)) (sent_at g.rows q k) 0 (rw d l)
      ∙ ap (coded_at g.rows f) ((sent_rule 1 g.rows some-rows).spot_of_byte (record { table = q / g.rows; row = q % g.rows; column = k }) (mod-lt q some-rows) h)

  -- both rows are the one coded row that has what was offered
  same_row : (q : ℕ) → q < g.rows * tables_of g.rows (length a) → row_of g.rows a (q / g.rows) (q % g.rows) ≡ row_of g.rows b (q / g.rows) (q % g.rows)
  same_row q l =
      only_one (λ k. ca.gone (sent_at g.rows q k / g.size)) (row_of g.rows b (q / g.rows) (q % g.rows)) _ _ (ca.few q l)
      (record { coded = row-coded g.rows a (q / g.rows) (q % g.rows) pa.bytes; known = λ k h z. known k h z })
      (record { coded = row-coded g.rows b (q / g.rows) (q % g.rows) pb.bytes; known = λ k h z. refl })
    where
      known : (k : ℕ) → k < 255 → ca.gone (sent_at g.rows q k / g.size) ≡ false
          → get_or (row_of g.rows a (q / g.rows) (q % g.rows)) k 0 ≡ get_or (row_of g.rows b (q / g.rows) (q % g.rows)) k 0
      known k h z =
          let j : ℕ = sent_at g.rows q k in
          let below : j < total = sent_total g a pa q k l h in
          sym (row_at_lem a refl q k below h) ∙ by_part a pa j
          ∙ ap (λ (x : List ℕ). get_or x (j % g.size) 0) (same-part (j / g.size) (sent_slot g a pa q k l h) z)
          ∙ sym (by_part b pb j) ∙ row_at_lem b (sym e) q k below h

  same_sent : coded_file 1 g.rows a ≡ coded_file 1 g.rows b
  unfolding coded_file
  same_sent =
      listed_ext (λ j. coded_at g.rows a (sent_spot 1 g.rows j)) (λ j. coded_at g.rows b (sent_spot 1 g.rows j)) total 0 (λ j x y. at j (omega arith))
      ∙ ap (λ (n : ℕ). listed (λ j. coded_at g.rows b (sent_spot 1 g.rows j)) (255 * g.rows * tables_of g.rows n) 0) e
    where
      at : (j : ℕ) → j < total → coded_at g.rows a (sent_spot 1 g.rows j) ≡ coded_at g.rows b (sent_spot 1 g.rows j)
      at j l =
          let s : Spot = sent_spot 1 g.rows j in
          let r : s.row < g.rows = (sent_rule 1 g.rows some-rows).row_below j in
          let t : s.table < tables_of g.rows (length a) = table_below g.rows 255 (sent_byte_at 1 g.rows) (sent_spot 1 g.rows) some-rows (zero-lt-suc 254) (sent_rule 1 g.rows some-rows) (tables_of g.rows (length a)) j l in
          let q : ℕ = s.table * g.rows + s.row in
          let w : q < g.rows * tables_of g.rows (length a) = omega (arith, digits_lt t r, mul_comm (tables_of g.rows (length a)) g.rows) in
          let d : q / g.rows ≡ s.table = digits_div s.table r in
          let m : q % g.rows ≡ s.row = digits_mod s.table r in
          ap₂ (λ (x y : ℕ). get_or (row_of g.rows a x y) s.column 0) (sym d) (sym m)
          ∙ ap (λ (x : List ℕ). get_or x s.column 0) (same_row q w)
          ∙ ap₂ (λ (x y : ℕ). get_or (row_of g.rows b x y) s.column 0) d m

  pub one_file : a ≡ b
  one_file =
      sym (undone-file 1 g.rows some-rows a)
      ∙ ap₂ (λ (x : List ℕ) (n : ℕ). undone 1 g.rows x n 0) same_sent e
      ∙ undone-file 1 g.rows some-rows b

pub no_second_columns : NoSecondColumns
no_second_columns g a b pa pb o e cs ca cb = one_file g a b pa pb o e cs ca cb
