-- A file and its description under one resource: offers of the one do not show in answers about the other, both come out, and streams go nowhere: document 02, R-1.
-- Assumes nothing.
use mathlib.Core.Path.{◌≡◌, refl, sym, ap, ◌∙◌}
use mathlib.Core.Bool.{Bool, true, false, cond, not}
use mathlib.Core.List.{List, [], ◌∷◌, ◌++◌}
use Prim.Native.Nat.{ℕ, ◌+◌, ◌≤◌, ◌<◌}
use native.Mathlib.Omega.{arith}
use borrow.Author.Tests.{le-leb}
use lib.Dec.{ltb}
use lib.ListN.{length, get_or, set}
use Rattle.std.proofs.lemmas.Bool.{and_parts, false_from_ne_true}
use Rattle.ground.proofs.Truth.{differ, or_right}
use Rattle.refusals.specs.declared.Refusal.TheVariants.{Unknown}
use Rattle.refusals.specs.Told.{accepted_with, refused_as, verdict_told}
use Rattle.settings.specs.declared.Settings.{Settings}
use Rattle.settings.proofs.Laws.{settings_facts}
use Rattle.pack.specs.Pack.{count_of, packet_of}
use Rattle.places.specs.declared.Place.{Place}
use Rattle.places.specs.declared.Name.{Name}
use Rattle.places.specs.Places.{settings_name, unused, in_use, end_of, fresh_record, place_of, first_from, first_unused, place_named}
use Rattle.places.specs.Room.{clear, free, lowest_start}
use Rattle.places.proofs.Named.{in_use_lem, name-same}
use Rattle.places.proofs.Keeping.{at_set}
use Rattle.places.proofs.Starts.{is_free, lowest-none}
use Rattle.places.proofs.Opened.{placed_end, fresh-clear}
use Rattle.places.proofs.Facts.{named_facts}
use Rattle.places.proofs.Holders.{found-names}
use Rattle.opening.specs.Open.{take, plan_of, carried_out, Opening, open_of}
use Rattle.opening.proofs.PlanLaws.{Taking, taking_plan, open_by}
use Rattle.opening.proofs.OpenLaws.{open_good, open_named-other, open_keeps_length}
use Rattle.record.specs.Offer.{packet_name, name_in, Offering, offer_of}
use Rattle.record.specs.Told.{offered_told}
use Rattle.record.proofs.OfferCases.{offer_unknown}
use Rattle.record.proofs.OfferFacts.{no_stream}
use Rattle.promises.specs.Calls.{Call, Answer, telling, step, fresh, names}
use Rattle.promises.specs.Calls.Call.{packing, opening, offering, asking, handing, closing}
use Rattle.promises.specs.Statements.{Protected, Fair, AllFair, Offers, Alike, the_file, the_description, without, SideBySide, opened, BothComeOut, SomeCarryBoth, room_of, BothFromFresh, StreamsUnknown}
use Rattle.promises.proofs.Judged.{copy-names}
use Rattle.promises.proofs.Own.{fair_each, whole_copy, own, own-before, own_behind}
use Rattle.promises.proofs.Sequences.{two_sequences}
use Rattle.promises.proofs.Demand.{demand_3}
use Rattle.promises.proofs.Fresh.{within-usable, counted, takes, taken, opens}
use Rattle.std.specs.Prelude.{Option}
use Rattle.std.specs.Prelude.{Some, None}

-- a packet names one resource and type alone
one_name : (o r : Name) (q : List ℕ) → (o ≡ r → ⊥) → names o q ≡ true → names r q ≡ false
one_name o r q d e =
    false_from_ne_true (names r q)
    (λ n. d (sym (name-same (name_in q) o (and_parts (ltb 12 (length q)) _ e).1) ∙ name-same (name_in q) r (and_parts (ltb 12 (length q)) _ n).1))

-- ---- side by side

-- the calls without the offers that name o are alike for every other name
without_alike : (o r : Name) → (o ≡ r → ⊥) → (cs : List Call) → Alike r cs (without o cs)
without_alike o r d [] = Alike.ended
without_alike o r d (packing file g n out ∷ cs) = Alike.both (packing file g n out) (without_alike o r d cs)
without_alike o r d (opening g count ∷ cs) = Alike.both (opening g count) (without_alike o r d cs)
without_alike o r d (offering q ∷ cs) = by (names o q) refl (without_alike o r d cs)
  where
    by : (t : Bool) → names o q ≡ t → Alike r cs (without o cs) → Alike r (offering q ∷ cs) (cond t (without o cs) (offering q ∷ without o cs))
    by true e a = Alike.left q (one_name o r q d e) a
    by false e a = Alike.both (offering q) a
without_alike o r d (asking x ∷ cs) = Alike.both (asking x) (without_alike o r d cs)
without_alike o r d (handing x n out ∷ cs) = Alike.both (handing x n out) (without_alike o r d cs)
without_alike o r d (closing x ∷ cs) = Alike.both (closing x) (without_alike o r d cs)

two_kinds : (resource : ℕ) → the_description resource ≡ the_file resource → ⊥
two_kinds resource e = let z : ◌≡◌ {A = ℕ} 2 1 = ap (λ (n : Name). n.kind) e in omega arith

pub side_by_side : SideBySide step
side_by_side resource s cs = record {
  file = two_sequences (the_file resource) s cs _ (without_alike (the_description resource) (the_file resource) (two_kinds resource) cs);
  description = two_sequences (the_description resource) s cs _ (without_alike (the_file resource) (the_description resource) (λ e. two_kinds resource (sym e)) cs);
}

-- ---- both come out

pub both_come_out : BothComeOut step
both_come_out g d file text pg pd x ag ad cs cg cd = (
  demand_3 g file pg x ag (opening d (count_of d (length text)) ∷ cs)
      (record { fair = AllFair.next (Fair.opens d (count_of d (length text))) cg.fair; every = λ n l. Offers.later (cg.every n l) }),
  demand_3 d text pd (opened step g file x) ad cs cd,
)

-- the packets of a file under another name do not name this one
other-fair : (g d : Settings) (file text : List ℕ) → Protected d text → (settings_name d ≡ settings_name g → ⊥) → AllFair g file (own d text)
other-fair g d file text p e =
    fair_each g file (packet_of d text) (count_of d (length text))
    (λ i l. Fair.other (packet_of d text i) (one_name (settings_name d) (settings_name g) (packet_of d text i) e (copy-names d text p i l (packet_of d text i) (whole_copy d text p i l))))

pub some_carry_both : SomeCarryBoth
some_carry_both g d file text pg pd e = (
  own g file ++ own d text,
  own-before g file pg (other-fair g d file text pd (λ z. e (sym z))),
  own_behind d text pd (other-fair d g text file pg e),
)

-- ---- from a fresh record: the second place finds room behind the first

module _ (g d : Settings) (file text : List ℕ) (pg : Protected g file) (pd : Protected d text) (apart : settings_name g ≡ settings_name d → ⊥)
    (s : List ℕ) (fits : room_of g file + room_of d text ≤ length s) (limit : room_of g file + room_of d text ≤ 16777216) where
  abbrev first : Place
  first = place_of g (count_of g (length file)) 0

  abbrev one_open : List Place
  one_open = set fresh_record.places 0 first

  taking_first : Taking fresh_record (length s) g (count_of g (length file)) 0 0
  taking_first = takes g file pg s (omega (arith, fits)) (omega (arith, limit))

  first_used : in_use first ≡ true
  first_used = in_use_lem first (λ z. omega (arith, (settings_facts g pg.fit).resource))

  next-unused : first_unused one_open ≡ Some 1
  unfolding first_from
  next-unused = rw first_used

  absent : place_named one_open (settings_name d) ≡ None
  unfolding first_from
  absent = open_named-other fresh_record (length s) g (count_of g (length file)) 0 0 taking_first (settings_name d) apart

  behind-first : clear (room_of g file) (room_of d text) first ≡ true
  unfolding clear
  behind-first = or_right (not (in_use first)) (rw (le-leb (end_of first) (room_of g file) (omega (arith, placed_end g (count_of g (length file)) 0))))

  free-behind : free (length s) (room_of d text) one_open (room_of g file) ≡ true
  free-behind =
      is_free (length s) (room_of d text) one_open (room_of g file)
      (record {
        ends = within-usable (room_of g file + room_of d text) (length s) fits limit;
        clears = λ i l. at_set fresh_record.places 0 first (λ q. clear (room_of g file) (room_of d text) q ≡ true) i l (λ z. behind-first) (λ z. fresh-clear (room_of g file) (room_of d text) i l);
      })

  second : (start : ℕ) × Taking (record { places = one_open }) (length s) d (count_of d (length text)) 1 start
  second = by (lowest_start (length s) (room_of d text) one_open) refl
    where
      by : (w : Option ℕ) → lowest_start (length s) (room_of d text) one_open ≡ w → (start : ℕ) × Taking (record { places = one_open }) (length s) d (count_of d (length text)) 1 start
      by (Some start) e = (
        start,
        record {
          fitting = record { sound = open_good fresh_record (length s) g (count_of g (length file)) 0 0 taking_first; fits = pd.fit; counted = counted d text pd };
          absent = absent;
          unused = next-unused;
          lowest = e;
        },
      )
      by None e = differ (sym free-behind ∙ lowest-none (length s) (room_of d text) one_open e (room_of g file))

  opens-beside : (step (opening d (count_of d (length text))) (opened step g file (fresh s))).answer ≡ telling (accepted_with [])
  unfolding step
  opens-beside =
      let n : ℕ = count_of d (length text) in
      let done : open_of fresh_record s g (count_of g (length file)) ≡ carried_out fresh_record s g (count_of g (length file)) (take 0 0) =
      taken g file pg s (omega (arith, fits)) (omega (arith, limit)) in
      let after : List ℕ = (carried_out fresh_record s g (count_of g (length file)) (take 0 0)).store in
      let sized : length after ≡ length s = sym (ap (λ (o : Opening). length o.store) done) ∙ open_keeps_length fresh_record s g (count_of g (length file)) in
      let plan : plan_of (record { places = one_open }) (length after) d n ≡ take 1 second.0 =
      ap (λ (m : ℕ). plan_of (record { places = one_open }) m d n) sized ∙ taking_plan (record { places = one_open }) (length s) d n 1 second.0 second.1 in
      ap (λ (o : Opening). telling (verdict_told (open_of o.kept.«record» o.store d n).kept.verdict)) done
      ∙ ap (λ (o : Opening). telling (verdict_told o.kept.verdict)) (open_by (record { places = one_open }) after d n (take 1 second.0) plan)

pub both_from_fresh : BothFromFresh step
both_from_fresh g d file text pg pd apart s fits limit cs cg cd =
    let first = opens g file pg s (omega (arith, fits)) (omega (arith, limit)) in
    let beside = opens-beside g d file text pg pd apart s fits limit in
    let hands = both_come_out g d file text pg pd (fresh s) (ap (λ (a : Answer). a.told.number) first) (ap (λ (a : Answer). a.told.number) beside) cs cg cd in
    record { opens = first; beside = beside; hands = hands.0; hands-beside = hands.1 }

-- ---- streams

pub streams_unknown : StreamsUnknown step
unfolding step
streams_unknown x q f g read stream = by (place_named x.held.places (packet_name f)) refl
  where
    by : (w : Option ℕ) → place_named x.held.places (packet_name f) ≡ w → offered_told (offer_of x.held x.store q).answer ≡ refused_as Unknown
    by None e = ap (λ (o : Offering). offered_told o.answer) (offer_unknown x.held x.store q g f read e)
    by (Some i) e =
        let some : 0 < f.kind =
        no_stream (length x.store) (get_or x.held.places i unused) f (named_facts (length x.store) x.held.places g (packet_name f) i e) (found-names x.held.places (packet_name f) i e).1 in
        absurd (omega arith)
