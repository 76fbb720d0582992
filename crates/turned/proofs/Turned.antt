-- Wrong programs are turned away, each by a promise that it breaks at one small example: a file of one byte in one packet, over a store with just the room.
-- Assumes nothing.
use mathlib.Core.Path.{◌≡◌, refl, sym, ap, ◌∙◌}
use mathlib.Core.Bool.{Bool, true, false}
use mathlib.Core.List.{List, [], ◌∷◌, ◌++◌}
use Prim.Native.Nat.{ℕ, ◌+◌, ◌-◌, ◌*◌, ◌<◌, ◌≤◌}
use native.Mathlib.Omega.{arith}
use lib.ListN.{length, get_or, replicate}
use Rattle.ground.specs.Bits.{sum}
use Rattle.refusals.specs.declared.Refusal.TheVariants.{Missing}
use Rattle.refusals.specs.Told.{verdict_told}
use Rattle.field.specs.Field.{product, carryless, reduce}
use Rattle.code.specs.Code.{Bytes, Coded, add, scale, distance}
use Rattle.code.specs.Search.{Repaired, lower, remainder}
use Rattle.code.specs.Repair.{Near}
use Rattle.code.specs.Mend.{whole, behind}
use Rattle.code.proofs.Lists.{zeros_bytes, bytes_cons, append-bytes}
use Rattle.code.proofs.Division.{remainder-coded}
use Rattle.code.proofs.Distance.{distance_self, coded_unique}
use Rattle.code.proofs.Exact.{repair-coded}
use Rattle.pack.specs.Pack.{packet_of}
use Rattle.places.specs.declared.Place.{Place}
use Rattle.places.specs.declared.Name.{Name}
use Rattle.places.specs.Places.{settings_name, first_from, fresh_record, place_of, in_rows}
use Rattle.contents.specs.Contents.{Slot as Content, holding, contents}
use Rattle.opening.specs.Open.{Opening}
use Rattle.opening.proofs.PlanLaws.{Taking}
use Rattle.opening.proofs.OpenLaws.{open_empty}
use Rattle.record.specs.Mend.{payload_in}
use Rattle.record.specs.Offer.{packet_name}
use Rattle.record.proofs.OfferCases.{payload_length_lem}
use Rattle.record.proofs.OfferFacts.{read-least}
use Rattle.columns.specs.Handing.{Handing}
use Rattle.handing.specs.Hand.{hand_contents, hand_out_of}
use Rattle.handing.proofs.HandCases.{out-found}
use Rattle.promises.specs.Calls.{Answer, telling, State, Outcome, step, fresh}
use Rattle.promises.specs.Calls.Call.{opening, offering, asking}
use Rattle.promises.specs.Statements.{WholeRows, MendsEachRow, Carries, FromFresh, place_at, Held, slots_told, StatusBySlots, Carried, Accepts, OffersBySlots}
use Rattle.turned.specs.Wrong.{refusing, losing, boasting, invented, inventing, first_row_only}
use Rattle.promises.proofs.Example.{one, byte, protected}
use Rattle.promises.proofs.Own.{some_carry}
use Rattle.promises.proofs.Demand.{Collecting, opened_collecting}
use Rattle.promises.proofs.Fresh.{takes, taken}
use Rattle.promises.proofs.Slots.{held_found, found-held, status_by_slots}
use Rattle.std.specs.Prelude.{Err}
use Rattle.std.specs.Prelude.{Some, None}

-- ---- the example

abbrev pub packet : List ℕ
packet = packet_of one byte 0

carried : Carries one byte (offering packet ∷ [])
carried = some_carry one byte protected

abbrev pub room : List ℕ
room = replicate 257 0

taking_one : Taking fresh_record (length room) one 1 0 0
taking_one = takes one byte protected room (omega arith) (omega arith)

-- its place, just opened
abbrev pub opened : State
opened = (step (opening one 1) (fresh room)).state

pub begun : Collecting one byte protected 0 0 opened
begun = opened_collecting one byte protected (fresh room) 0 0 taking_one

pub held : Held opened (settings_name one) 0
held = found-held opened (settings_name one) 0 begun.sound begun.named

empty : contents (place_at opened 0) opened.store ≡ holding [] ∷ []
unfolding step
empty =
    ap (λ (p : Place). contents p opened.store) begun.place
    ∙ ap (λ (o : Opening). contents (place_of one 1 0) o.store) (taken one byte protected room (omega arith) (omega arith))
    ∙ open_empty fresh_record room one 1 0 0 taking_one

-- ---- one that refuses everything

pub refusing-turned : FromFresh refusing → ⊥
unfolding refusing
refusing-turned d =
    let e = (d one byte protected room (omega arith, omega arith) (offering packet ∷ []) carried).opens in
    let z : ◌≡◌ {A = ℕ} 17 0 = ap (λ (a : Answer). a.told.number) e in
    omega arith

-- ---- one that stores nothing: an answer Stored says that the slot holds the payload, which is not empty; and hand out finds it empty

-- a payload that was carried has bytes
carried_some : (x : State) (q : List ℕ) (i n : ℕ) (b : List ℕ) (m : ℕ) → Carried x q i n b m → 0 < length b
carried_some x q i n b m c = by (in_rows (place_at x i)) refl
  where
    sized : length (payload_in q) ≡ length q - 18
    sized = payload_length_lem q (omega (arith, read-least x.held q c.fields c.read))

    by : (t : Bool) → in_rows (place_at x i) ≡ t → 0 < length b
    by true t = omega (arith, (c.rows t).sized, sized, read-least x.held q c.fields c.read)
    by false t = omega (arith, ap length (c.plain t), sized, read-least x.held q c.fields c.read)

-- Stored changes the store
stored_changes : (x : State) (q v : List ℕ) → Accepts x q x v → v ≡ 0 ∷ [] → ⊥
stored_changes x q v (Accepts.stored i n b m c empty full others) e =
    let same : holding [] ≡ holding b = sym empty ∙ full in
    let none : [] ≡ b = cc in
    omega (arith, carried_some x q i n b m c, ap length none)
stored_changes x q v (Accepts.again i n b m c full same) e = let z : ◌≡◌ {A = ℕ} (2 * m + 1) 0 = ap (λ (l : List ℕ). get_or l 0 0) e in omega arith

pub losing-turned : OffersBySlots losing → ⊥
unfolding losing
losing-turned d = stored_changes opened packet (0 ∷ []) (d opened packet refl) refl

empty-handed : hand_out_of opened.held opened.store (settings_name one) 1 (0 ∷ []) ≡ record { answer = Err (Missing 0); output = 0 ∷ [] }
unfolding hand_contents
empty-handed =
    out-found opened.held opened.store (settings_name one) begun.sound 1 (0 ∷ []) 0 begun.named
    ∙ ap (λ (c : List Content). hand_contents (place_at opened 0) c 1 (0 ∷ [])) empty
    ∙ ap (λ (p : Place). hand_contents p (holding [] ∷ []) 1 (0 ∷ [])) begun.place

pub losing_breaks_demand_3 : FromFresh losing → ⊥
unfolding losing step
losing_breaks_demand_3 d =
    let e = (d one byte protected room (omega arith, omega arith) (offering packet ∷ []) carried).hands (0 ∷ []) (omega arith) in
    let z : ◌≡◌ {A = ℕ} 21 0 = ap (λ (h : Handing). (verdict_told h.answer).number) (sym empty-handed) ∙ ap (λ (a : Answer). a.told.number) e in
    omega arith

-- ---- one that answers Stored always: the file's packet, where no place is open

none_open : (s : List ℕ) (r : Name) (i : ℕ) → Held (fresh s) r i → ⊥
unfolding first_from
none_open s r i h = let e : None ≡ Some i = held_found (fresh s) r i h in let z : ◌≡◌ {A = ℕ} 0 1 = cc in omega arith

accepts_held : (x : State) (q : List ℕ) (y : State) {v : List ℕ} → Accepts x q y v → (r : Name) × (i : ℕ) × Held x r i
accepts_held x q y (Accepts.stored i n b m c empty full others) = (packet_name c.fields, i, c.held)
accepts_held x q y (Accepts.again i n b m c full same) = (packet_name c.fields, i, c.held)

pub boasting-turned : OffersBySlots boasting → ⊥
unfolding boasting
boasting-turned d =
    let h = accepts_held (fresh room) packet (boasting (offering packet) (fresh room)).state (d (fresh room) packet refl) in
    none_open room h.0 h.1 h.2

-- ---- one whose Status invents a number: the place is open, and none of its slots is filled

pub inventing-turned : StatusBySlots inventing → ⊥
unfolding inventing
inventing-turned d =
    let said : (step (asking (settings_name one)) opened).answer ≡ telling (slots_told (holding [] ∷ [])) =
    ap (λ (o : Outcome). o.answer) (status_by_slots opened (settings_name one) 0 held) ∙ ap (λ (c : List Content). telling (slots_told c)) empty in
    let e : invented (telling (slots_told (holding [] ∷ []))) ≡ telling (slots_told (holding [] ∷ [])) =
    ap invented (sym said) ∙ ap (λ (o : Outcome). o.answer) (d opened (settings_name one) 0 held) ∙ ap (λ (c : List Content). telling (slots_told c)) empty in
    let z : ◌≡◌ {A = ℕ} 7 0 = ap (λ (a : Answer). get_or a.told.values 0 0) e in
    omega arith

-- ---- a repair that mends row 0 only: a second row with one wrong byte comes through as it is

abbrev pub zero_row : List ℕ
zero_row = replicate 255 0

abbrev pub wrong_row : List ℕ
wrong_row = 1 ∷ replicate 254 0

abbrev two-rows : List ℕ
two-rows = replicate 14 0 ++ (zero_row ++ (wrong_row ++ replicate 4 0))

pub zero_coded : Coded zero_row
unfolding remainder add scale lower product carryless reduce sum
zero_coded = remainder-coded zero_row refl (zeros_bytes 255) refl

one_wrong : distance wrong_row zero_row ≤ 8
unfolding distance
one_wrong = omega arith

pub wrong-near : Near wrong_row zero_row
wrong-near = record { coded = zero_coded; close = one_wrong }

pub wrong-bytes : Bytes wrong_row
wrong-bytes = bytes_cons 1 (replicate 254 0) (omega arith) (zeros_bytes 254)

mended-wrong : first_row_only 1 two-rows ≡ whole (zero_row ++ wrong_row) 0
unfolding first_row_only
mended-wrong =
    ap (λ (a : Repaired). behind zero_row a 0 (whole wrong_row 0)) (repair-coded zero_row zero_coded)
    ∙ ap (λ (m : ℕ). whole (zero_row ++ wrong_row) (m + 0)) (distance_self zero_row)

rows-there : WholeRows two-rows
rows-there = record {
  bytes = append-bytes (replicate 14 0) (zero_row ++ (wrong_row ++ replicate 4 0)) (zeros_bytes 14)
      (append-bytes zero_row (wrong_row ++ replicate 4 0) (zeros_bytes 255) (append-bytes wrong_row (replicate 4 0) wrong-bytes (zeros_bytes 4)));
  multiple = refl;
}

pub first-row-turned : MendsEachRow first_row_only → ⊥
first-row-turned m =
    let near : Near wrong_row wrong_row = (m.sound two-rows (zero_row ++ wrong_row) 0 rows-there mended-wrong).0.near 1 (omega arith) in
    let same : wrong_row ≡ zero_row = coded_unique wrong_row zero_row near.coded zero_coded (omega (arith, one_wrong)) in
    let z : ◌≡◌ {A = ℕ} 1 0 = ap (λ (l : List ℕ). get_or l 0 0) same in
    omega arith
