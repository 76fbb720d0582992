-- After open and close the bytes hold the record that the call on records answers: its places come from bytes, are unused, or are good, and so each field fits its bytes.
-- Assumes nothing.
use mathlib.Core.Path.{◌≡◌, refl, sym, subst, ◌∙◌}
use mathlib.Core.Logic.{⊎_elim}
use mathlib.Core.Bool.{Bool, true, false, cond, not}
use mathlib.Core.List.{List}
use Prim.Native.Nat.{ℕ, ◌+◌, ◌*◌, ◌<◌}
use native.Mathlib.Omega.{arith}
use borrow.Author.Tests.{eq-eqb}
use lib.ListN.{length, get_or, set, length-set}
use Rattle.ground.proofs.Listed.{length-listed, get_or-listed_0}
use Rattle.code.specs.Code.{Bytes}
use Rattle.code.proofs.Lists.{bytes_at_lem}
use Rattle.refusals.specs.declared.Refusal.{Refusal}
use Rattle.settings.specs.declared.Settings.{Settings}
use Rattle.places.specs.declared.Place.{Place}
use Rattle.places.specs.declared.Record.{Record}
use Rattle.places.specs.declared.Name.{Name}
use Rattle.places.specs.Places.{settings_name, unused, place_of, good, place_named}
use Rattle.places.proofs.Facts.{PlaceFacts, named_facts, end_sum}
use Rattle.places.proofs.Keeping.{at_set}
use Rattle.opening.specs.Open.{Plan, refuse, take, plan_of, open_of, closed_at, close_of}
use Rattle.opening.proofs.PlanLaws.{taking, open_by}
use Rattle.opening.proofs.OpenLaws.{open_good, open_named, open_own, refused-record}
use Rattle.holding.specs.Layout.{place_length, record_length, two, four, place_in, record_in}
use Rattle.face.specs.Face.{open_says, close_says}
use Rattle.face.specs.Statements.{RecordsFollow}
use Rattle.holding.proofs.LayoutLaws.{Typed, record-again}
use Rattle.std.specs.Prelude.{Option}
use Rattle.std.specs.Prelude.{Err}
use Rattle.std.specs.Prelude.{Some, None}

-- ---- places whose fields fit

facts_typed : (n : ℕ) (p : Place) → PlaceFacts n p → Typed p
facts_typed n p f = record {
  resource = omega (arith, f.resource-most);
  kind = ⊎_elim (λ e. omega arith) (λ e. omega arith) f.kind_either;
  update = omega (arith, f.update-most);
  count = omega (arith, f.count_most);
  protection = omega (arith, f.protection-most);
  rows = omega (arith, f.rows-most);
  slot = omega (arith, f.slot-most);
  start = omega (arith, f.ends-limit, end_sum p);
  edition = ⊎_elim (λ e. omega arith) (λ e. omega arith) f.edition_either;
  order = omega (arith, f.order-most);
}

unused_typed : Typed unused
unused_typed = record {
  resource = omega arith;
  kind = omega arith;
  update = omega arith;
  count = omega arith;
  protection = omega arith;
  rows = omega arith;
  slot = omega arith;
  start = omega arith;
  edition = omega arith;
  order = omega arith;
}

-- eight places whose fields fit
record Eight (ps : List Place) : Type 0 where
  long : length ps ≡ 8
  each : (k : ℕ) → k < 8 → Typed (get_or ps k unused)

module _ (b : List ℕ) (bytes : Bytes b) where
  two-short : (at : ℕ) → two b at < 65536
  two-short at = omega (arith, bytes_at_lem b bytes at, bytes_at_lem b bytes (at + 1))

  four-short : (at : ℕ) → four b at < 4294967296
  four-short at = omega (arith, two-short at, two-short (at + 2))

  place_typed : (at : ℕ) → Typed (place_in b at)
  unfolding place_in
  place_typed at = record {
    resource = two-short at;
    kind = bytes_at_lem b bytes (at + 2);
    update = bytes_at_lem b bytes (at + 3);
    count = four-short (at + 4);
    protection = bytes_at_lem b bytes (at + 8);
    rows = bytes_at_lem b bytes (at + 9);
    slot = two-short (at + 10);
    start = four-short (at + 12);
    edition = two-short (at + 16);
    order = two-short (at + 18);
  }

  eight_in : Eight (record_in b).places
  unfolding record_in
  eight_in = record {
    long = length-listed (λ i. place_in b (i * place_length)) 8 0;
    each = λ k h. subst Typed (sym (get_or-listed_0 (λ i. place_in b (i * place_length)) 8 k unused h)) (place_typed (k * place_length));
  }

eight_set : (ps : List Place) (i : ℕ) (p : Place) → Eight ps → Typed p → Eight (set ps i p)
eight_set ps i p e t = record {
  long = length-set ps i p ∙ e.long;
  each = λ k h. at_set ps i p Typed k (omega (arith, e.long)) (λ d. t) (λ d. e.each k h);
}

-- ---- open and close

open_eight : (h : Record) (s : List ℕ) (g : Settings) (count : ℕ) → Eight h.places → Eight (open_of h s g count).kept.«record».places
open_eight h s g count e = by (plan_of h (length s) g count) refl
  where
    by : (p : Plan) → plan_of h (length s) g count ≡ p → Eight (open_of h s g count).kept.«record».places
    by (refuse r) d = rw (refused-record h s g count r d) e
    by (take i start) d =
        let t = taking h (length s) g count i start d in
        let f = named_facts (length s) (set h.places i (place_of g count start)) (open_good h (length s) g count i start t) (settings_name g) i (open_named h (length s) g count i start t) in
        rw (open_by h s g count (take i start) d)
        (eight_set h.places i (place_of g count start) e (subst Typed (open_own h (length s) g count i start t) (facts_typed (length s) _ f)))

close_eight : (h : Record) (s : List ℕ) (x : Name) → Eight h.places → Eight (close_of h s x).«record».places
unfolding close_of
close_eight h s x e = by (not (good (length s) h.places)) (place_named h.places x)
  where
    by : (b : Bool) (f : Option ℕ) → Eight (cond b (record { «record» = h; verdict = Err Refusal.Record }) (closed_at h f)).«record».places
    by true f = e
    by false None = e
    by false (Some i) = eight_set h.places i unused e unused_typed

-- ---- through the bytes

module _ (h s : List ℕ) (bytes : Bytes h) (n : length h ≡ record_length) where
  open_follows : (g : Settings) (count : ℕ) → record_in (open_says h s g count).held ≡ (open_of (record_in h) s g count).kept.«record»
  unfolding open_says
  open_follows g count =
      let e = open_eight (record_in h) s g count (eight_in h bytes) in
      rw (eq-eqb (length h) record_length n) (record-again (open_of (record_in h) s g count).kept.«record» e.long e.each)

  close_follows : (x : Name) → record_in (close_says h s x).held ≡ (close_of (record_in h) s x).«record»
  unfolding close_says
  close_follows x =
      let e = close_eight (record_in h) s x (eight_in h bytes) in
      rw (eq-eqb (length h) record_length n) (record-again (close_of (record_in h) s x).«record» e.long e.each)

pub records_follow : RecordsFollow
records_follow = record {
  «open» = λ h s g count bytes n. open_follows h s bytes n g count;
  close = λ h s x bytes n. close_follows h s bytes n x;
}
