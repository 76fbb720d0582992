-- A refusal changes nothing: each definition gives back what it was lent wherever its answer is not accepted.
-- Assumes nothing.
use mathlib.Core.Path.{◌≡◌, refl, ap}
use mathlib.Core.Bool.{Bool, true, false, cond, not}
use mathlib.Core.List.{List}
use Prim.Native.Nat.{ℕ}
use native.Mathlib.Omega.{arith}
use lib.ListN.{length}
use Rattle.refusals.specs.declared.Refusal.{Refusal}
use Rattle.refusals.specs.Told.{Told, verdict_told}
use Rattle.settings.specs.declared.Settings.{Settings}
use Rattle.pack.specs.Pack.{pack_of}
use Rattle.pack.specs.Told.{packed_told}
use Rattle.pack.proofs.Plans.{pack-refused}
use Rattle.places.specs.declared.Record.{Record}
use Rattle.places.specs.declared.Name.{Name}
use Rattle.places.specs.Places.{good, place_named}
use Rattle.opening.specs.Open.{Kept}
use Rattle.record.specs.declared.Offered.{Offered}
use Rattle.opening.specs.Open.{Plan, refuse, take, plan_of, carried_out, open_of, closed_at, close_of}
use Rattle.record.specs.Offer.{offer_of}
use Rattle.record.specs.Told.{offered_told}
use Rattle.handing.specs.Hand.{hand_out_of}
use Rattle.record.proofs.OfferLaws.{offer_unstored}
use Rattle.handing.proofs.HandLaws.{hand_refused}
use Rattle.promises.specs.Calls.{Call, State, step}
use Rattle.promises.specs.Calls.Call.{packing, opening, offering, asking, handing, closing}
use Rattle.promises.specs.Statements.{Unchanged, RefusalsChangeNothing}
use Rattle.std.specs.Prelude.{Result}
use Rattle.std.specs.Prelude.{Option}
use Rattle.std.specs.Prelude.{Ok, Err}
use Rattle.std.specs.Prelude.{Some, None}

same-state : (x : State) (h : Record) (s : List ℕ) → h ≡ x.held → s ≡ x.store → ◌≡◌ {A = State} record { held = h; store = s } x
same-state x h s d e i = record { held = d i; store = e i }

abbrev Turned : Told → Type 0
Turned t = t.number ≡ 0 → ⊥

-- ---- packing and handing out: the output

pack_keeps : (file : List ℕ) (g : Settings) (n : ℕ) (out : List ℕ) → Turned (packed_told (pack_of file g n out).answer) → (pack_of file g n out).output ≡ out
pack_keeps file g n out = by (pack_of file g n out).answer refl
  where
    by : (a : Result ℕ Refusal) → (pack_of file g n out).answer ≡ a → Turned (packed_told a) → (pack_of file g n out).output ≡ out
    by (Ok k) z d = absurd (d refl)
    by (Err t) z d = pack-refused file g n out t z

hand_keeps : (h : Record) (s : List ℕ) (r : Name) (n : ℕ) (out : List ℕ) → Turned (verdict_told (hand_out_of h s r n out).answer) → (hand_out_of h s r n out).output ≡ out
hand_keeps h s r n out = by (hand_out_of h s r n out).answer refl
  where
    by : (v : Result (Unit {0}) Refusal) → (hand_out_of h s r n out).answer ≡ v → Turned (verdict_told v) → (hand_out_of h s r n out).output ≡ out
    by (Ok tt) z d = absurd (d refl)
    by (Err t) z d = hand_refused out h s r n t z

-- ---- offer: the store

offer_keeps : (h : Record) (s q : List ℕ) → Turned (offered_told (offer_of h s q).answer) → (offer_of h s q).store ≡ s
offer_keeps h s q d = offer_unstored h s q (λ m z. d (ap (λ (a : Result Offered Refusal). (offered_told a).number) z))

-- ---- open and close: the record and the store

open_keeps : (h : Record) (s : List ℕ) (g : Settings) (count : ℕ) (p : Plan) → Turned (verdict_told (carried_out h s g count p).kept.verdict)
    → ((carried_out h s g count p).kept.«record» ≡ h) × ((carried_out h s g count p).store ≡ s)
open_keeps h s g count (refuse r) d = (refl, refl)
open_keeps h s g count (take i start) d = absurd (d refl)

abbrev CloseKeeps : Record → Kept → Type 0
CloseKeeps h k = Turned (verdict_told k.verdict) → k.«record» ≡ h

close_by : (b : Bool) (h : Record) (f : Option ℕ) → CloseKeeps h (cond b (record { «record» = h; verdict = Err Refusal.Record }) (closed_at h f))
close_by true h f d = refl
close_by false h (Some i) d = absurd (d refl)
close_by false h None d = refl

close_keeps : (h : Record) (s : List ℕ) (r : Name) → CloseKeeps h (close_of h s r)
unfolding close_of
close_keeps h s r = close_by (not (good (length s) h.places)) h (place_named h.places r)

-- ---- all calls

step_keeps : (c : Call) (x : State) → Turned (step c x).answer.told → Unchanged step c x
unfolding step open_of
step_keeps (packing file g n out) x e = record { state = refl; output-kept = pack_keeps file g n out e }
step_keeps (opening g count) x e =
    let k = open_keeps x.held x.store g count (plan_of x.held (length x.store) g count) e in
    record { state = same-state x _ _ k.0 k.1; output-kept = refl }
step_keeps (offering q) x e =
    record { state = same-state x _ _ refl (offer_keeps x.held x.store q e); output-kept = refl }
step_keeps (asking r) x e = record { state = refl; output-kept = refl }
step_keeps (handing r n out) x e = record { state = refl; output-kept = hand_keeps x.held x.store r n out e }
step_keeps (closing r) x e =
    record { state = same-state x _ _ (close_keeps x.held x.store r e) refl; output-kept = refl }

pub refusals_change_nothing : RefusalsChangeNothing step
refusals_change_nothing c x d = step_keeps c x (λ z. d (omega arith))
