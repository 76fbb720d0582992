-- A program that repairs row 0 only breaks demand 3: a file of 478 zeros in one packet of two rows, one byte of row 1 altered. Either the CRC refuses and the slot stays
-- empty, or byte 239 of what is handed out is not the file's. The same packet shows that a program has to tell what it mended. Assumes nothing.
use mathlib.Core.Path.{◌≡◌, refl, sym, ap, ap₂, ◌∙◌, subst}
use mathlib.Core.Logic.{⊎_elim}
use mathlib.Core.Bool.{Bool, true, false, cond}
use mathlib.Core.List.{List, [], ◌∷◌, ◌++◌, flatten}
use Prim.Native.Nat.{ℕ, zero, suc, ◌+◌, ◌-◌, ◌*◌, ◌/◌, ◌%◌, ◌≤◌, ◌<◌}
use native.Mathlib.Omega.{arith}
use borrow.Author.Tests.{eqb-false, eq-eqb}
use lib.ListN.{length, get_or, take, drop, replicate, set, length-append, take-append-drop, length-take, length-drop, drop_of_length-le}
use lib.Seq.{take_at, drop_at, drop-drop}
use Rattle.ground.proofs.Listed.{listed_ext, joined-all}
use Rattle.code.specs.Code.{Bytes, distance}
use Rattle.code.specs.Repair.{checks_of}
use Rattle.code.proofs.Cases.{row_cases_lem}
use Rattle.code.proofs.Distance.{distance_self}
use Rattle.code.proofs.Lists.{zeros_bytes, append-bytes, bytes-parts}
use Rattle.settings.specs.declared.Settings.{Settings}
use Rattle.settings.specs.Settings.{settings_fit}
use Rattle.layout.specs.Layout.{info_of, row_of}
use Rattle.pack.specs.Pack.{payload_of, packet_of}
use Rattle.pack.proofs.Laws.{length_packet, packet_payload, length_payload, payload_row, packet_bytes}
use Rattle.record.specs.Mend.{payload_in}
use Rattle.code.specs.Search.{Repaired}
use Rattle.code.proofs.Exact.{repair-coded}
use Rattle.places.specs.declared.Record.{Record}
use Rattle.places.specs.declared.Place.{Place}
use Rattle.places.proofs.Facts.{named_facts}
use Rattle.places.specs.Places.{settings_name, end_of, good, place_of, fresh_record}
use Rattle.contents.specs.Contents.{Slot as Content, wrong, holding, contents, slot_at, slot_of}
use Rattle.contents.proofs.Bytes.{length-stored}
use Rattle.contents.proofs.Places.{reading_slots, storing-sets}
use Rattle.contents.specs.Slots.{stored}
use Rattle.columns.specs.Handing.{Handing, hand_tables}
use Rattle.handing.specs.Hand.{hand_rows, hand_joined, hand_contents, hand_out_of}
use Rattle.refusals.specs.Told.{accepted_with, verdict_told}
use Rattle.code.specs.Mend.{whole, behind, altered_in}
use Rattle.opening.specs.Open.{Opening, open_of}
use Rattle.opening.proofs.PlanLaws.{Taking}
use Rattle.opening.proofs.OpenLaws.{open_empty}
use Rattle.promises.specs.Calls.{Answer, telling, State, fresh, step}
use Rattle.promises.specs.Calls.Call.{opening, offering}
use Rattle.promises.specs.Statements.{Protected, Copy, row_in, bytes_altered, Fair, AllFair, Offers, Carries, HandsOut, Demand3, FromFresh, GradedFromFresh}
use Rattle.refusals.specs.declared.Refusal.TheVariants.{Crc, Missing}
use lib.Dec.{eqb, ltb}
use Rattle.pack.proofs.Laws.{fields_of, packet_edition}
use Rattle.sealing.specs.Sealing.{agrees}
use Rattle.record.specs.Offer.{Offering, storing, put_into, put, refuse, judge_mended, judge_by, offer_judged, offer_by}
use Rattle.turned.specs.Wrong.{first_row_only, mending_first, hushed, silent}
use Rattle.promises.proofs.Judged.{not_different}
use Rattle.promises.proofs.Demand.{Collecting, copy_reads_there, opened_collecting}
use Rattle.promises.proofs.Fresh.{takes, taken, opens}
use Rattle.turned.proofs.Turned.{zero_row, wrong_row, wrong-bytes, zero_coded}
use Rattle.std.specs.Prelude.{Err}

abbrev two : Settings
two = record { resource = 5; kind = 1; update = 0; protection = 1; rows = 1; size = 510; edition = 2; order = 0 }

abbrev zeros : List ℕ
zeros = replicate 478 0

zeros_checks : checks_of (replicate 239 0) ≡ replicate 16 0
zeros_checks = ap (λ (l : List (List ℕ)). get_or l 0 []) row_cases_lem

zeros_row : (t : ℕ) → t < 2 → row_of 1 zeros t 0 ≡ zero_row
unfolding row_of info_of
zeros_row zero h = ap (λ (c : List ℕ). replicate 239 0 ++ c) zeros_checks
zeros_row (suc zero) h = ap (λ (c : List ℕ). replicate 239 0 ++ c) zeros_checks
zeros_row (suc (suc t)) h = absurd (omega arith)

fit : settings_fit two ≡ true
unfolding settings_fit
fit = refl

protected : Protected two zeros
unfolding settings_fit
protected = record { bytes = zeros_bytes 478; some = omega arith; limit = omega arith; fit = refl; protection = refl; count = omega arith }

long : length (payload_of two zeros 0) ≡ 510
long = length_payload two zeros 0

-- two lists of whole rows, row by row the same
same_rows : (k : ℕ) (x y : List ℕ) → length x ≤ k * 255 → length y ≤ k * 255
    → ((i : ℕ) → i < k → take 255 (drop (i * 255) x) ≡ take 255 (drop (i * 255) y)) → x ≡ y
same_rows k x y hx hy e =
    sym (joined-all x 255 k hx)
    ∙ ap flatten (listed_ext (λ i. take 255 (drop (i * 255) x)) (λ i. take 255 (drop (i * 255) y)) k 0 (λ i p l. e i (omega arith)))
    ∙ joined-all y 255 k hy

zeros_payload : payload_of two zeros 0 ≡ zero_row ++ zero_row
zeros_payload =
    same_rows 2 (payload_of two zeros 0) (zero_row ++ zero_row) (omega (arith, long)) (omega arith)
    (λ i l. at i l)
  where
    at : (i : ℕ) → i < 2 → take 255 (drop (i * 255) (payload_of two zeros 0)) ≡ take 255 (drop (i * 255) (zero_row ++ zero_row))
    at zero l = payload_row two zeros fit refl refl 0 0 (omega (arith, long)) ∙ zeros_row 0 (omega arith)
    at (suc zero) l = payload_row two zeros fit refl refl 0 1 (omega (arith, long)) ∙ zeros_row 1 (omega arith)
    at (suc (suc i)) l = absurd (omega arith)

-- ---- the copy, one byte of row 1 altered

abbrev packet : List ℕ
packet = packet_of two zeros 0

abbrev body : List ℕ
body = zero_row ++ wrong_row

altered : List ℕ
altered = take 14 packet ++ (body ++ drop 524 packet)

whole_length : length (packet_of two zeros 0) ≡ 528
whole_length = length_packet two zeros 0 ∙ omega (arith, long)

front : length (take 14 (packet_of two zeros 0)) ≡ 14
front = length-take 14 (packet_of two zeros 0) ∙ omega (arith, whole_length)

back : length (drop 524 (packet_of two zeros 0)) ≡ 4
back = length-drop 524 (packet_of two zeros 0) ∙ omega (arith, whole_length)

altered_length : length altered ≡ 528
unfolding altered
altered_length = length-append (take 14 packet) (body ++ drop 524 packet) ∙ omega (arith, front, back, length-append body (drop 524 packet))

altered_front : take 14 altered ≡ take 14 (packet_of two zeros 0)
unfolding altered
altered_front = take_at (take 14 packet) (body ++ drop 524 packet) 14 front

altered_behind : drop 14 altered ≡ body ++ drop 524 (packet_of two zeros 0)
unfolding altered
altered_behind = drop_at (take 14 packet) (body ++ drop 524 packet) 14 front

altered_payload : payload_in altered ≡ body
altered_payload =
    ap (λ (n : ℕ). take (n - 18) (drop 14 altered)) altered_length ∙ ap (take 510) altered_behind ∙ take_at body (drop 524 packet) 510 refl

altered_crc : drop 524 altered ≡ drop 524 (packet_of two zeros 0)
altered_crc = sym (drop-drop 510 14 altered) ∙ ap (drop 510) altered_behind ∙ drop_at body (drop 524 packet) 510 refl

altered_bytes : Bytes altered
unfolding altered
altered_bytes =
    let b : Bytes packet = packet_bytes two zeros 0 fit (omega arith) (omega arith) (zeros_bytes 478) in
    append-bytes (take 14 packet) (body ++ drop 524 packet) (bytes-parts (take 14 packet) (drop 14 packet) (subst Bytes (sym (take-append-drop 14 packet)) b)).0
    (append-bytes body (drop 524 packet) (append-bytes zero_row wrong_row (zeros_bytes 255) wrong-bytes)
    (bytes-parts (take 524 packet) (drop 524 packet) (subst Bytes (sym (take-append-drop 524 packet)) b)).1)

near-rows : (i : ℕ) → distance (take 255 (drop (i * 255) body)) (take 255 (drop (i * 255) (zero_row ++ zero_row))) ≤ 1
unfolding distance
near-rows zero = omega arith
near-rows (suc zero) = omega arith
near-rows (suc (suc i)) =
    let e : (l : List ℕ) → length l ≡ 510 → drop (suc (suc i) * 255) l ≡ [] = λ l h. let k : length l ≤ suc (suc i) * 255 = omega arith in drop_of_length-le l k in
    let d : distance (take 255 (drop (suc (suc i) * 255) body)) (take 255 (drop (suc (suc i) * 255) (zero_row ++ zero_row))) ≡ 0 =
    ap₂ (λ (x y : List ℕ). distance (take 255 x) (take 255 y)) (e body refl) (e (zero_row ++ zero_row) refl) in
    omega (arith, d)

copy : Copy two zeros 0 altered
copy = record {
  bytes = altered_bytes;
  sized = altered_length ∙ sym whole_length;
  header = altered_front;
  crc = rw altered_length altered_crc;
  rows = λ i. omega (arith, rows i);
  as_sent = λ (o : two.order ≡ 1). absurd (omega arith);
}
  where
    rows : (i : ℕ) → distance (row_in altered i) (row_in (packet_of two zeros 0) i) ≤ 1
    rows i =
        rw (altered_payload, packet_payload two zeros 0 ∙ zeros_payload) (near-rows i)

carried : Carries two zeros (offering altered ∷ [])
carried = record {
  fair = AllFair.next (Fair.copy 0 altered (omega arith) copy) AllFair.ended;
  every = λ n l. first n (omega arith);
}
  where
    first : (n : ℕ) → n ≡ 0 → Offers two zeros n (offering altered ∷ [])
    first zero e = Offers.here copy
    first (suc n) e = absurd (omega arith)

-- ---- what the program makes of it

abbrev room : List ℕ
room = replicate 512 0

opens-there : Taking fresh_record (length room) two 1 0 0
opens-there = takes two zeros protected room (omega arith) (omega arith)

abbrev held : Record
held = (open_of fresh_record room two 1).kept.«record»

abbrev store : List ℕ
store = (open_of fresh_record room two 1).store

-- the file's own place, just opened
begun : Collecting two zeros protected 0 0 (record { held = held; store = store })
unfolding step
begun = opened_collecting two zeros protected (fresh room) 0 0 opens-there

empty : contents (place_of two 1 0) store ≡ holding [] ∷ []
empty =
    ap (λ (o : Opening). contents (place_of two 1 0) o.store) (taken two zeros protected room (omega arith) (omega arith))
    ∙ open_empty fresh_record room two 1 0 0 opens-there

first-mended : first_row_only 1 altered ≡ whole body 0
unfolding first_row_only
first-mended = rw altered_payload (ap (λ (a : Repaired). behind zero_row a 0 (whole wrong_row 0)) (repair-coded zero_row zero_coded) ∙ ap (λ (m : ℕ). whole body (m + 0)) (distance_self zero_row))

judged-first : judge_by first_row_only (place_of two 1 0) (fields_of two zeros 0) altered ≡ cond (agrees altered body) (put 0 body 0) (refuse Crc)
unfolding judge_by
judged-first =
    let narrow : ltb 510 (length (payload_in altered)) ≡ false = ap (λ (l : List ℕ). ltb 510 (length l)) altered_payload in
    rw (not_different two zeros 0 0, eq-eqb _ _ (packet_edition two zeros 0 fit protected.count (omega arith)), narrow) (ap (judge_mended 0 altered) first-mended)

offered_first : offer_by first_row_only held store altered ≡ offer_judged (place_of two 1 0) store (cond (agrees altered body) (put 0 body 0) (refuse Crc))
unfolding offer_by
offered_first = rw (begun.sound, copy_reads_there two zeros protected 0 0 0 (omega arith) altered copy _ begun, begun.named, begun.place) (ap (offer_judged (place_of two 1 0) store) judged-first)

-- what is handed out of a store, by what the slot holds
handed_of : (t : List ℕ) (c : Content) → length t ≡ length store → contents (place_of two 1 0) t ≡ c ∷ [] → (out : List ℕ)
    → hand_out_of held t (settings_name two) 478 out ≡ hand_contents (place_of two 1 0) (c ∷ []) 478 out
unfolding hand_out_of
handed_of t c l e out = rw (ap (λ (n : ℕ). good n held.places) l ∙ begun.sound, begun.named, begun.place, e) refl

-- nothing came
missing : hand_contents (place_of two 1 0) (holding [] ∷ []) 478 zeros ≡ record { answer = Err (Missing 0); output = zeros }
unfolding hand_contents
missing = refl

-- the rows came as they were: byte 239 of the file is 1
wrong-file : get_or (hand_contents (place_of two 1 0) (holding body ∷ []) 478 zeros).output 239 0 ≡ 1
unfolding hand_contents hand_joined hand_rows hand_tables
wrong-file = refl

abbrev answer : Handing → Answer
answer h = record { told = verdict_told h.answer; output = h.output }

-- what is handed out is not the file
first-row-lost : HandsOut mending_first two zeros (record { held = held; store = (offer_by first_row_only held store altered).store }) → ⊥
unfolding mending_first step
first-row-lost d = by (agrees altered body) refl
  where
    told : answer (hand_out_of held (offer_by first_row_only held store altered).store (settings_name two) 478 zeros) ≡ record { told = accepted_with []; output = zeros ++ drop 478 zeros }
    told = d zeros (omega arith)

    by : (b : Bool) → agrees altered body ≡ b → ⊥
    by true e =
        let slot : slot_of (place_of two 1 0) store 0 ≡ holding [] = sym (reading_slots (place_of two 1 0) store 0 (omega arith)) ∙ ap (λ (c : List Content). get_or c 0 wrong) empty in
        let after : (offer_by first_row_only held store altered).store ≡ stored store (slot_at (place_of two 1 0) 0) body =
        ap (λ (o : Offering). o.store) (offered_first ∙ ap (λ (b : Bool). offer_judged (place_of two 1 0) store (cond b (put 0 body 0) (refuse Crc))) e
        ∙ ap (λ (c : Content). storing store (slot_at (place_of two 1 0) 0) body (put_into c body 0)) slot) in
        let ends : end_of (place_of two 1 0) ≤ length store = subst (λ (p : Place). end_of p ≤ length store) begun.place (named_facts (length store) held.places begun.sound (settings_name two) 0 begun.named).ends-within in
        let holds : contents (place_of two 1 0) (stored store (slot_at (place_of two 1 0) 0) body) ≡ holding body ∷ [] =
        storing-sets (place_of two 1 0) store 0 body ends (omega arith) refl ∙ ap (λ (c : List Content). set c 0 (holding body)) empty in
        let handed : hand_out_of held (offer_by first_row_only held store altered).store (settings_name two) 478 zeros ≡ hand_contents (place_of two 1 0) (holding body ∷ []) 478 zeros =
        ap (λ (t : List ℕ). hand_out_of held t (settings_name two) 478 zeros) after
        ∙ handed_of (stored store (slot_at (place_of two 1 0) 0) body) (holding body) (length-stored store (slot_at (place_of two 1 0) 0) body) holds zeros in
        let z : ◌≡◌ {A = ℕ} 1 0 = sym wrong-file ∙ ap (λ (h : Handing). get_or h.output 239 0) (sym handed) ∙ ap (λ (a : Answer). get_or a.output 239 0) told in
        omega arith
    by false e =
        let kept : (offer_by first_row_only held store altered).store ≡ store = ap (λ (o : Offering). o.store) (offered_first ∙ ap (λ (b : Bool). offer_judged (place_of two 1 0) store (cond b (put 0 body 0) (refuse Crc))) e) in
        let handed : hand_out_of held (offer_by first_row_only held store altered).store (settings_name two) 478 zeros ≡ record { answer = Err (Missing 0); output = zeros } =
        ap (λ (t : List ℕ). hand_out_of held t (settings_name two) 478 zeros) kept ∙ handed_of store (holding []) refl empty zeros ∙ missing in
        let z : ◌≡◌ {A = ℕ} 21 0 = ap (λ (h : Handing). (verdict_told h.answer).number) (sym handed) ∙ ap (λ (a : Answer). a.told.number) told in
        omega arith

pub first-row_breaks_demand_3 : Demand3 mending_first → ⊥
unfolding mending_first step
first-row_breaks_demand_3 d =
    first-row-lost (d two zeros protected (fresh room) (ap (λ (a : Answer). a.told.number) (opens two zeros protected room (omega arith) (omega arith))) (offering altered ∷ []) carried)

pub first-row_breaks_from_fresh : FromFresh mending_first → ⊥
unfolding mending_first step
first-row_breaks_from_fresh d = first-row-lost (d two zeros protected room (omega arith, omega arith) (offering altered ∷ []) carried).hands

-- ---- the same copy: of its rows one byte is altered, and a program that mends but does not tell breaks promise 18

one_altered : bytes_altered altered (payload_of two zeros 0) ≡ 1
unfolding altered_in distance
one_altered = ap₂ (λ (x y : List ℕ). altered_in (length x / 255) x y) altered_payload zeros_payload

hushed_small : (a : Answer) (v : ℕ) → hushed a ≡ telling (accepted_with (v ∷ [])) → v < 2
hushed_small a v = by (eqb a.told.number 0) refl
  where
    by : (t : Bool) → eqb a.told.number 0 ≡ t → cond t (telling (accepted_with ((get_or a.told.values 0 0 % 2) ∷ []))) a ≡ telling (accepted_with (v ∷ [])) → v < 2
    by true z e =
        let w : get_or a.told.values 0 0 % 2 ≡ v = ap (λ (x : Answer). get_or x.told.values 0 0) e in
        omega arith
    by false z e = absurd (eqb-false a.told.number 0 z (ap (λ (x : Answer). x.told.number) e))

pub silent-turned : GradedFromFresh silent → ⊥
unfolding silent
silent-turned d =
    let x : State = (step (opening two 1) (fresh room)).state in
    ⊎_elim
    (λ e. omega (arith, hushed_small (step (offering altered) x).answer _ e, one_altered))
    (λ e. omega (arith, hushed_small (step (offering altered) x).answer _ e, one_altered))
    (d two zeros protected room (omega arith, omega arith) [] AllFair.ended 0 (omega arith) altered copy)
