-- A place whose slots hold all payloads of a protected file hands out the file, in column order also where some are empty and no row lacks more than sixteen bytes; and refuses a
-- length that needs another number of packets or tables. Assumes nothing.
use mathlib.Core.Path.{◌≡◌, refl, sym, ap, ap₂, ◌∙◌}
use mathlib.Core.Logic.{◌⊎◌, inl, inr, ⊎_elim, ⊎_map}
use mathlib.Core.Bool.{Bool, true, false, cond, ◌&&◌}
use mathlib.Core.List.{List, []}
use Prim.Native.Nat.{ℕ, ◌*◌, ◌/◌, ◌%◌, ◌≤◌, ◌<◌}
use native.Mathlib.Nat.{mul_comm, mod-lt, div-lt_iff_lt-mul, zero-lt-suc}
use native.Mathlib.Omega.{arith}
use borrow.Author.Tests.{eq-eqb, ne_eqb, eqb-true, eqb-false}
use lib.Dec.{eqb, leb}
use lib.ListN.{length, get_or, take, drop}
use Rattle.ground.specs.Lists.{ceil}
use Rattle.ground.proofs.Listed.{ceil_upper}
use Rattle.code.specs.Restore.{lost_of}
use Rattle.code.proofs.Lost.{lost-none}
use Rattle.refusals.specs.declared.Refusal.TheVariants.{Size}
use Rattle.layout.specs.Layout.{tables_of, sent_byte_at, sent_spot, coded_file}
use Rattle.layout.proofs.Places.{sent_rule, byte-below}
use Rattle.layout.proofs.Coded.{coded_shape, coded_tables}
use Rattle.settings.specs.declared.Settings.{Settings}
use Rattle.settings.specs.Settings.{rows_held}
use Rattle.settings.proofs.Laws.{settings_facts}
use Rattle.pack.specs.Pack.{count_of, coded_length, sent_of, payload_of as sentPart}
use Rattle.pack.proofs.Laws.{rows_positive, row-order, sent_coded, length_sent, length_tables, payload_some}
use Rattle.places.specs.declared.Place.{Place}
use Rattle.places.specs.Places.{place_of}
use Rattle.contents.specs.Contents.{Slot as Content, wrong, holding, any_wrong, joined}
use Rattle.contents.proofs.Filled.{holding-right, holding-all}
use Rattle.losses.specs.Losses.{payload_of, payload_at, sent_at, lost_in}
use Rattle.columns.specs.Handing.{Handing, refusing}
use Rattle.columns.specs.Columns.{sent_length, length_serves, hand_columns}
use Rattle.columns.proofs.Handed.{accepted}
use Rattle.columns.proofs.Recovered.{columns_handed}
use Rattle.handing.specs.Hand.{hand_rows, hand_contents}
use Rattle.handing.proofs.HandCases.{joined-rows}
use Rattle.handing.proofs.HandLaws.{Carried, carried_joined, carried_right, carried_hand, hand_coded_lem}
use Rattle.promises.specs.Statements.{Protected}

rows-refused : (m : ℕ) (file : List ℕ) (n : ℕ) (out : List ℕ) → 0 < m → (tables_of m n ≡ tables_of m (length file) → ⊥) → hand_rows m (coded_file 0 m file) n out ≡ refusing Size out
unfolding hand_rows
rows-refused m file n out some d =
    rw (
      eq-eqb (length (coded_file 0 m file) / 255 % m) 0 (coded_shape 0 m file some),
      coded_tables 0 m file some,
      ne_eqb (tables_of m n) (tables_of m (length file)) d,
    ) refl

-- each byte of a row is one of those sent
pub sent_total : (g : Settings) (file : List ℕ) → Protected g file → (q k : ℕ) → q < g.rows * tables_of g.rows (length file) → k < 255
    → sent_at g.rows q k < 255 * g.rows * tables_of g.rows (length file)
sent_total g file p q k l h =
    let some : 0 < g.rows = rows_positive g p.fit (λ z. omega (arith, p.protection)) in
    let t : q / g.rows < tables_of g.rows (length file) = (div-lt_iff_lt-mul some).1 (omega (arith, mul_comm g.rows (tables_of g.rows (length file)))) in
    byte-below g.rows 255 (sent_byte_at 1 g.rows) (sent_spot 1 g.rows) some (zero-lt-suc 254) (sent_rule 1 g.rows some) (tables_of g.rows (length file))
    (record { table = q / g.rows; row = q % g.rows; column = k }) t (mod-lt q some) h

-- and its slot one of the file's
pub sent_slot : (g : Settings) (file : List ℕ) → Protected g file → (q k : ℕ) → q < g.rows * tables_of g.rows (length file) → k < 255
    → sent_at g.rows q k / g.size < count_of g (length file)
sent_slot g file p q k l h =
    let coded : g.protection ≡ 0 → ⊥ = λ z. omega (arith, p.protection) in
    let b : sent_at g.rows q k < 255 * g.rows * tables_of g.rows (length file) = sent_total g file p q k l h in
    let u : coded_length g (length file) ≤ count_of g (length file) * g.size = ceil_upper (coded_length g (length file)) g.size (settings_facts g p.fit).size.least in
    (div-lt_iff_lt-mul (settings_facts g p.fit).size.least).1 (omega (arith, length_tables g (length file) coded))

-- slots that each hold something or nothing are not wrong
pub none-wrong : (c : List Content) → ((k : ℕ) → k < length c → (b : List ℕ) × (get_or c k wrong ≡ holding b)) → any_wrong c ≡ false
none-wrong c each =
    ap any_wrong (holding-all c (payload_at c) (λ k l. (each k l).1 ∙ sym (ap (λ (x : Content). holding (payload_of x)) (each k l).1))) ∙ holding-right (payload_at c) (length c) 0

not_served : (a b : Bool) (x y : Handing) → cond (a && (b && false)) x y ≡ y
not_served true true x y = refl
not_served true false x y = refl
not_served false b x y = refl

-- contents in column order, by the definition of that order
columns_contents : (p : Place) (c : List Content) (n : ℕ) (out : List ℕ) → any_wrong c ≡ false → p.order ≡ 1 → hand_contents p c n out ≡ hand_columns p c n out
unfolding hand_contents
columns_contents p c n out w o = rw (w, eq-eqb p.order 1 o)

module _ (g : Settings) (file : List ℕ) (p : Protected g file) (c : List Content) (long : length c ≡ count_of g (length file)) where
  coded : g.protection ≡ 0 → ⊥
  coded z = omega (arith, p.protection)

  rows : rows_held g ≡ g.rows
  rows = ap (λ (t : Bool). cond t 0 g.rows) (ne_eqb g.protection 0 coded)

  some-rows : 0 < g.rows
  some-rows = rows_positive g p.fit coded

  -- as many tables, as many packets
  counted : (n : ℕ) → count_of g n ≡ ceil (sent_length g.rows n) g.size
  counted n = ap (λ (x : ℕ). ceil x g.size) (length_tables g n coded)

  -- column order, where some packets may not have come
  module _ (o : g.order ≡ 1) (start : ℕ) where
    abbrev place : Place
    place = place_of g (count_of g (length file)) start

    pub contents_recovered : ((k : ℕ) → k < count_of g (length file) → (get_or c k wrong ≡ holding []) ⊎ (get_or c k wrong ≡ holding (sentPart g file k)))
        → ((q : ℕ) → q < g.rows * tables_of g.rows (length file) → lost_of (lost_in g.rows g.size c q) 255 ≤ 16)
        → (out : List ℕ) → length file ≤ length out → hand_contents place c (length file) out ≡ accepted file out
    unfolding sentPart
    contents_recovered each few out room =
        columns_contents place c (length file) out (none-wrong c (λ k l. held k (omega arith))) o
        ∙ columns_handed place file c out (rw rows some-rows) (settings_facts g p.fit).size.least p.bytes p.some p.limit
        (rw rows (counted (length file))) (λ k l. rw rows (part k l)) (rw rows few) room
      where
        held : (k : ℕ) → k < count_of g (length file) → (b : List ℕ) × (get_or c k wrong ≡ holding b)
        held k l = ⊎_elim (λ e. ([], e)) (λ e. (sentPart g file k, e)) (each k l)

        part : (k : ℕ) → k < count_of g (length file) → (get_or c k wrong ≡ holding []) ⊎ (get_or c k wrong ≡ holding (take g.size (drop (k * g.size) (coded_file 1 g.rows file))))
        part k l = ⊎_map (λ e. e) (λ e. e ∙ ap (λ (s : List ℕ). holding (take g.size (drop (k * g.size) s))) (sent_coded g file coded ∙ ap (λ (x : ℕ). coded_file x g.rows file) o)) (each k l)

    pub columns_refused : any_wrong c ≡ false → (n : ℕ) (out : List ℕ) → (count_of g n ≡ count_of g (length file) → ⊥) → hand_contents place c n out ≡ refusing Size out
    unfolding hand_columns length_serves
    columns_refused w n out d =
        columns_contents place c n out w o
        ∙ rw (rows, ne_eqb (ceil (sent_length g.rows n) g.size) (count_of g (length file)) (λ e. d (counted n ∙ e))) (not_served (leb 1 n) (leb n 16777216) _ (refusing Size out))

  module _ (all : (k : ℕ) → k < count_of g (length file) → get_or c k wrong ≡ holding (sentPart g file k)) where
    carried : Carried c (sentPart g file)
    carried = record { each = λ k l. all k (omega arith); some = λ k l. payload_some g file p.fit k (omega arith) }

    -- the payloads joined are what is sent
    joined_sent : joined c ≡ sent_of g file
    unfolding sentPart
    joined_sent =
        let reach = ceil_upper (coded_length g (length file)) g.size (settings_facts g p.fit).size.least in
        carried_joined c (sentPart g file) carried (sent_of g file) g.size (λ k l. refl) (rw long (omega (arith, length_sent g file)))

    by_rows : g.order ≡ 0 → joined c ≡ coded_file 0 g.rows file
    by_rows o = joined_sent ∙ sent_coded g file coded ∙ ap (λ (x : ℕ). coded_file x g.rows file) o

    -- where all came none is lost
    none-lost : (q : ℕ) → q < g.rows * tables_of g.rows (length file) → lost_of (lost_in g.rows g.size c q) 255 ≤ 16
    none-lost q l =
        omega (
          arith,
          lost-none (lost_in g.rows g.size c q) 255 (λ k h.
              let s : sent_at g.rows q k / g.size < count_of g (length file) = sent_slot g file p q k l h in
              ap (λ (x : Content). eqb (length (payload_of x)) 0) (all _ s) ∙ ne_eqb (length (sentPart g file _)) 0 (λ z. omega (arith, payload_some g file p.fit _ s))),
        )

    pub contents-handed : (start : ℕ) (out : List ℕ) → length file ≤ length out
        → hand_contents (place_of g (count_of g (length file)) start) c (length file) out ≡ accepted file out
    contents-handed start out room = by (eqb g.order 1) refl
      where
        by : (t : Bool) → eqb g.order 1 ≡ t → hand_contents (place_of g (count_of g (length file)) start) c (length file) out ≡ accepted file out
        by true t = contents_recovered (eqb-true g.order 1 t) start (λ k l. inr (all k l)) none-lost out room
        by false t =
            let o : g.order ≡ 0 = row-order g p.fit (eqb-false g.order 1 t) in
            hand_coded_lem (place_of g (count_of g (length file)) start) o c (sentPart g file) carried file out room coded (rw rows some-rows) (rw rows (by_rows o))

    -- a length that needs another number of packets, or in row order of tables
    rows_not : g.order ≡ 0 → (start n : ℕ) (out : List ℕ) → (tables_of g.rows n ≡ tables_of g.rows (length file) → ⊥)
        → hand_contents (place_of g (count_of g (length file)) start) c n out ≡ refusing Size out
    rows_not o start n out d =
        carried_hand c (sentPart g file) carried (place_of g (count_of g (length file)) start) o n out
        ∙ joined-rows (place_of g (count_of g (length file)) start) (joined c) n out coded
        ∙ ap₂ (λ (m : ℕ) (sent : List ℕ). hand_rows m sent n out) rows (by_rows o)
        ∙ rows-refused g.rows file n out some-rows d

    pub contents-refused : (start n : ℕ) (out : List ℕ)
        → (count_of g n ≡ count_of g (length file) → ⊥) ⊎ ((g.order ≡ 0) × (tables_of g.rows n ≡ tables_of g.rows (length file) → ⊥))
        → hand_contents (place_of g (count_of g (length file)) start) c n out ≡ refusing Size out
    contents-refused start n out (inr d) = rows_not d.0 start n out d.1
    contents-refused start n out (inl d) = by (eqb g.order 1) refl
      where
        by : (t : Bool) → eqb g.order 1 ≡ t → hand_contents (place_of g (count_of g (length file)) start) c n out ≡ refusing Size out
        by true t = columns_refused (eqb-true g.order 1 t) start (carried_right c (sentPart g file) carried) n out d
        by false t =
            rows_not (row-order g p.fit (eqb-false g.order 1 t)) start n out
            (λ e. d (counted n ∙ ap (λ (x : ℕ). ceil (255 * g.rows * x) g.size) e ∙ sym (counted (length file))))
