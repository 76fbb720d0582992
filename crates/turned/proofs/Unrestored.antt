-- Programs that hand a file in column order out without restoring it are turned away: one that leaves losses 0, and one that repairs instead (document 02, R-8). The example is a
-- file of sixteen bytes 7 in one row, sent in packets of sixteen bytes; the first packet, which is the file itself, never comes.
-- Assumes nothing.
use mathlib.Core.Path.{◌≡◌, refl, sym, ap, ap₂, subst, ◌∙◌}
use mathlib.Core.List.{List, [], ◌∷◌, ◌++◌, map}
use Prim.Native.Nat.{ℕ, zero, suc, ◌+◌, ◌*◌, ◌/◌, ◌%◌, ◌≤◌, ◌<◌}
use native.Mathlib.Omega.{arith}
use borrow.Author.Tests.{ne_eqb, eqb-false}
use lib.Dec.{eqb}
use lib.ListN.{length, get_or, drop, replicate, get_or-append}
use Rattle.ground.specs.Lists.{listed}
use Rattle.ground.proofs.Listed.{length-listed, get_or-listed_0}
use Rattle.code.specs.Code.{Bytes, distance}
use Rattle.code.specs.Search.{Repaired}
use Rattle.code.specs.Search.Repaired.{found, none}
use Rattle.code.specs.Repair.{repair_of, Near}
use Rattle.code.specs.Restore.{lost_of}
use Rattle.code.proofs.Exact.{repair-near}
use Rattle.code.proofs.Lists.{bytes_of}
use Rattle.refusals.specs.Told.{accepted_with}
use Rattle.settings.specs.declared.Settings.{Settings}
use Rattle.settings.specs.Settings.{settings_fit}
use Rattle.pack.specs.Pack.{packet_of}
use Rattle.places.specs.declared.Place.{Place}
use Rattle.places.specs.Places.{settings_name, fresh_record}
use Rattle.opening.specs.Open.{Opening}
use Rattle.opening.proofs.OpenLaws.{open_empty}
use Rattle.contents.specs.Contents.{Slot as Content, wrong, holding, contents}
use Rattle.losses.specs.Losses.{payload_of, sent_at, came_at, row_came}
use Rattle.columns.specs.Columns.{row_in}
use Rattle.promises.specs.Calls.{Call, Answer, State, step, run, fresh}
use Rattle.promises.specs.Calls.Call.{opening, offering, handing}
use Rattle.promises.specs.Statements.{Protected, CarriesEnough, Fair, Demand3Columns}
use Rattle.turned.specs.Wrong.{file_in, handing_by, leaving_zeros, repairing}
use Rattle.promises.proofs.Own.{fair_from, whole_copy, own_offers}
use Rattle.promises.proofs.Demand.{Collecting, own, slot_in_lem, copy_go, copy-leaves, fair-run, opened_collecting}
use Rattle.promises.proofs.Fresh.{takes, taken, opens}
use Rattle.promises.proofs.Columns.{demand_3_columns}

-- ---- the example

abbrev sixteens : Settings
sixteens = record { resource = 5; kind = 1; update = 0; protection = 1; rows = 1; size = 16; edition = 2; order = 1 }

abbrev sevens : List ℕ
sevens = replicate 16 7

protected : Protected sixteens sevens
unfolding settings_fit Bytes
protected = record { bytes = bytes_of sevens (λ c. seven c); some = omega arith; limit = omega arith; fit = refl; protection = refl; count = omega arith }
  where
    seven : (c : ℕ) → get_or sevens c 0 < 256
    seven c = at 16 c
      where
        at : (n c : ℕ) → get_or (replicate n 7) c 0 < 256
        at zero c = omega arith
        at (suc n) zero = omega arith
        at (suc n) (suc c) = at n c

-- the packets that come
abbrev calls : List Call
calls = map offering (listed (packet_of sixteens sevens) 15 1)

carried : CarriesEnough sixteens sevens calls
unfolding lost_of
carried = record {
  fair = fair_from sixteens sevens (packet_of sixteens sevens) 16 (λ i l. Fair.copy i (packet_of sixteens sevens i) l (whole_copy sixteens sevens protected i l)) 15 1 (omega arith);
  gone = λ n. eqb n 0;
  others = λ n l e. own_offers sixteens sevens protected n 15 1 (let d = eqb-false n 0 e in omega arith) l l;
  few = λ q l. let z : q ≡ 0 = omega arith in few q z;
}
  where
    few : (q : ℕ) → q ≡ 0 → lost_of (λ c. eqb (sent_at 1 q c / 16) 0) 255 ≤ 16
    few q z = subst (λ (x : ℕ). lost_of (λ c. eqb (sent_at 1 x c / 16) 0) 255 ≤ 16) (sym z) (omega arith)

abbrev room : List ℕ
room = replicate 288 0

-- ---- what the place then holds

abbrev opened : State
opened = (step (opening sixteens 16) (fresh room)).state

begun : Collecting sixteens sevens protected 0 0 opened
begun = opened_collecting sixteens sevens protected (fresh room) 0 0 (takes sixteens sevens protected room (omega arith) (omega arith))

abbrev place : Place
place = own sixteens sevens protected 0 0

-- at the start slot 0 is empty
first-empty : slot_in_lem sixteens sevens protected 0 0 0 opened ≡ holding []
unfolding step
first-empty =
    ap (λ (c : List Content). get_or c 0 wrong)
    (ap (λ (o : Opening). contents place o.store) (taken sixteens sevens protected room (omega arith) (omega arith))
    ∙ open_empty fresh_record room sixteens 16 0 0 (takes sixteens sevens protected room (omega arith) (omega arith)))

-- no other packet fills it
skips : (k i : ℕ) → 1 ≤ i → i + k ≤ 16 → (x : State) → Collecting sixteens sevens protected 0 0 x
    → slot_in_lem sixteens sevens protected 0 0 0 (run step (map offering (listed (packet_of sixteens sevens) k i)) x).state ≡ slot_in_lem sixteens sevens protected 0 0 0 x
skips zero i a b x c = refl
skips (suc k) i a b x c =
    let below : i < 16 = omega arith in
    let q : List ℕ = packet_of sixteens sevens i in
    let copy = whole_copy sixteens sevens protected i below in
    skips k (suc i) (omega arith) (omega arith) (step (offering q) x).state (copy_go sixteens sevens protected 0 0 i below q copy x c).0.collecting
    ∙ copy-leaves sixteens sevens protected 0 0 i below q copy x c 0 (λ z. omega arith)

abbrev ended : State
ended = (run step calls opened).state

there : Collecting sixteens sevens protected 0 0 ended
there = (fair-run sixteens sevens protected 0 0 carried.fair opened begun).collecting

still_empty : slot_in_lem sixteens sevens protected 0 0 0 ended ≡ holding []
still_empty = skips 15 1 (omega arith) (omega arith) opened begun ∙ first-empty

-- ---- a program that hands out by other rows

offers_same : (row : ℕ → ℕ → List Content → ℕ → List ℕ) (qs : List (List ℕ)) (x : State) → (run (handing_by row) (map offering qs) x).state ≡ (run step (map offering qs) x).state
unfolding handing_by
offers_same row [] x = refl
offers_same row (q ∷ qs) x = offers_same row qs (step (offering q) x).state

abbrev output : List ℕ
output = replicate 16 0

-- the rows of what the place holds at the end
abbrev row_by : (ℕ → ℕ → List Content → ℕ → List ℕ) → List ℕ
row_by row = row 1 16 (contents place ended.store) 0

-- hand out is accepted, and answers what those rows say
by_rows : (row : ℕ → ℕ → List Content → ℕ → List ℕ)
    → (handing_by row (handing (settings_name sixteens) 16 output) ended).answer
    ≡ record { told = accepted_with []; output = file_in 1 (row 1 16 (contents place ended.store)) 16 ++ drop 16 output }
unfolding handing_by
by_rows row =
    let accepted : (step (handing (settings_name sixteens) 16 output) ended).answer.told.number ≡ 0 =
    ap (λ (a : Answer). a.told.number)
    (demand_3_columns sixteens sevens protected refl (fresh room) (ap (λ (a : Answer). a.told.number) (opens sixteens sevens protected room (omega arith) (omega arith))) calls carried output (omega arith)) in
    rw (accepted, there.named)
    (ap (λ (p : Place). record { told = accepted_with []; output = file_in p.rows (row p.rows p.slot (contents p ended.store)) 16 ++ drop 16 output }) there.place)

-- so, if it keeps the demand, each of the first sixteen bytes of its row is 7
each_seven : (row : ℕ → ℕ → List Content → ℕ → List ℕ) → Demand3Columns (handing_by row) → (k : ℕ) → k < 16 → get_or (row_by row) k 0 ≡ 7
unfolding handing_by
each_seven row d k l =
    let hands = d sixteens sevens protected refl (fresh room) (ap (λ (a : Answer). a.told.number) (opens sixteens sevens protected room (omega arith) (omega arith))) calls carried output (omega arith) in
    let same : file_in 1 (row 1 16 (contents place ended.store)) 16 ++ drop 16 output ≡ sevens ++ drop 16 output =
    ap (λ (a : Answer). a.output) (sym (by_rows row) ∙ sym (ap (λ (x : State). (handing_by row (handing (settings_name sixteens) 16 output) x).answer) (offers_same row (listed (packet_of sixteens sevens) 15 1) opened)) ∙ hands) in
    let a : k / (239 * 1) * 1 + k % 1 ≡ 0 = omega arith in
    let b : k % (239 * 1) / 1 ≡ k = omega arith in
    sym (get_or-listed_0 (λ i. get_or (row 1 16 (contents place ended.store) (i / (239 * 1) * 1 + i % 1)) (i % (239 * 1) / 1) 0) 16 k 0 l
    ∙ ap₂ (λ (x y : ℕ). get_or (row 1 16 (contents place ended.store) x) y 0) a b)
    ∙ sym (get_or-append (file_in 1 (row 1 16 (contents place ended.store)) 16) (drop 16 output) 0 k (omega (arith, length-listed (λ i. get_or (row 1 16 (contents place ended.store) (i / (239 * 1) * 1 + i % 1)) (i % (239 * 1) / 1) 0) 16 0)))
    ∙ ap (λ (x : List ℕ). get_or x k 0) same ∙ sevens_at 16 k l
  where
    sevens_at : (n k : ℕ) → k < n → get_or (replicate {A = ℕ} n 7 ++ []) k 0 ≡ 7
    sevens_at zero k h = absurd (omega arith)
    sevens_at (suc n) zero h = refl
    sevens_at (suc n) (suc k) h = sevens_at n k (omega arith)

-- ---- as it came, each of them is 0

came_zero : (k : ℕ) → k < 16 → get_or (row_by row_came) k 0 ≡ 0
unfolding row_came
came_zero k l =
    let s : sent_at 1 0 k / 16 ≡ 0 = omega arith in
    get_or-listed_0 (λ i. came_at 16 (contents place ended.store) (sent_at 1 0 i)) 255 k 0 (omega arith)
    ∙ ap (λ (x : ℕ). get_or (payload_of (get_or (contents place ended.store) x wrong)) (sent_at 1 0 k % 16) 0) s
    ∙ ap (λ (c : Content). get_or (payload_of c) (sent_at 1 0 k % 16) 0) still_empty

pub zeros_turned : Demand3Columns leaving_zeros → ⊥
zeros_turned d = omega (arith, came_zero 0 (omega arith), each_seven row_came d 0 (omega arith))

-- ---- repaired, it is not within eight bytes

-- rows that differ at each of the first n places are n apart
apart : (n : ℕ) (xs ys : List ℕ) → n ≤ length xs → n ≤ length ys → ((k : ℕ) → k < n → get_or xs k 0 ≡ get_or ys k 0 → ⊥) → n ≤ distance xs ys
unfolding distance
apart zero xs ys a b d = omega arith
apart (suc n) [] ys a b d = absurd (omega arith)
apart (suc n) (x ∷ xs) [] a b d = absurd (omega arith)
apart (suc n) (x ∷ xs) (y ∷ ys) a b d =
    let rest : n ≤ distance xs ys = apart n xs ys (omega arith) (omega arith) (λ k l. d (suc k) (omega arith)) in
    rw (ne_eqb x y (d 0 (omega arith))) (omega arith)

not_near : (s : List ℕ) → ((k : ℕ) → k < 16 → get_or s k 0 ≡ 7) → Near (row_by row_came) s → ⊥
unfolding row_came
not_near s sevens-in near =
    let sized : length (row_by row_came) ≡ 255 = length-listed (λ i. came_at 16 (contents place ended.store) (sent_at 1 0 i)) 255 0 in
    let far : 16 ≤ distance (row_by row_came) s =
    apart 16 (row_by row_came) s (omega arith) (omega (arith, near.coded.sized)) (λ k l e. omega (arith, came_zero k l, sevens-in k l)) in
    omega (arith, near.close)

pub repairing-turned : Demand3Columns repairing → ⊥
repairing-turned d = by (repair_of (row_by row_came)) refl
  where
    by : (x : Repaired) → repair_of (row_by row_came) ≡ x → ⊥
    by (found s) e = not_near s (λ k l. ap (λ (x : Repaired). get_or (row_in x) k 0) (sym e) ∙ each_seven (λ m size c q. row_in (repair_of (row_came m size c q))) d k l) (repair-near _ s e)
    by none e =
        let z : ◌≡◌ {A = ℕ} 0 7 = ap (λ (x : Repaired). get_or (row_in x) 0 0) (sym e) ∙ each_seven (λ m size c q. row_in (repair_of (row_came m size c q))) d 0 (omega arith) in
        omega arith
