-- What a call that is not about a resource and type leaves alone: their place, and what its slots hold.
-- Assumes nothing.
use mathlib.Core.Path.{◌≡◌, refl, sym, ap, ◌∙◌}
use mathlib.Core.Bool.{Bool, true, false}
use mathlib.Core.List.{List}
use Prim.Native.Nat.{ℕ}
use borrow.Author.Tests.{lt-ltb}
use lib.ListN.{length, get_or}
use Rattle.settings.specs.declared.Settings.{Settings}
use Rattle.places.specs.declared.Record.{Record}
use Rattle.places.specs.declared.Name.{Name}
use Rattle.places.specs.Places.{place_name, settings_name, unused, in_use, good, place_named}
use Rattle.ground.proofs.Truth.{differ, and_join}
use Rattle.places.proofs.Named.{same_name_lem, name-other, names_in_use, names-name}
use Rattle.places.proofs.Holders.{found-names, unused-at}
use Rattle.contents.specs.Contents.{contents}
use Rattle.opening.specs.Open.{Plan, refuse, take, plan_of, open_of, close_of}
use Rattle.record.specs.Offer.{name_in, offer_of}
use Rattle.opening.proofs.PlanLaws.{taking, open_by}
use Rattle.opening.proofs.OpenLaws.{open_named-other, open_others, open_keeps_length, refused-record, refused-store}
use Rattle.opening.proofs.CloseLaws.{close-record, close_unknown, close-found, close-others, close-named-other}
use Rattle.record.proofs.OfferLaws.{offer-length, offer-other}
use Rattle.promises.specs.Calls.{Call, State, step, names, about}
use Rattle.promises.specs.Calls.Call.{packing, opening, offering, asking, handing, closing}
use Rattle.std.specs.Prelude.{Option}
use Rattle.std.specs.Prelude.{Some, None}

-- the place of r, and what it holds, are as they were
pub record Kept (r : Name) (h : Record) (s : List ℕ) (h' : Record) (s' : List ℕ) : Type 0 where
  pub named : place_named h'.places r ≡ place_named h.places r
  pub same_place : (i : ℕ) → place_named h.places r ≡ Some i → get_or h'.places i unused ≡ get_or h.places i unused
  pub same-contents : (i : ℕ) → place_named h.places r ≡ Some i → contents (get_or h.places i unused) s' ≡ contents (get_or h.places i unused) s

kept-all : (r : Name) (h : Record) (s : List ℕ) → Kept r h s h s
kept-all r h s = record { named = refl; same_place = λ i e. refl; same-contents = λ i e. refl }

-- ---- offer

pub offer-leaves : (r : Name) (h : Record) (s q : List ℕ) → names r q ≡ false → Kept r h s h (offer_of h s q).store
offer-leaves r h s q n = record {
  named = refl;
  same_place = λ i e. refl;
  same-contents = λ i e. offer-other h s q r i e (λ l z. differ (sym (and_join (lt-ltb 12 (length q) l) (same_name_lem (name_in q) r z)) ∙ n));
}

-- ---- open

pub open_leaves : (h : Record) (s : List ℕ) (g : Settings) (count : ℕ) (r : Name) → (settings_name g ≡ r → ⊥) → Kept r h s (open_of h s g count).kept.«record» (open_of h s g count).store
open_leaves h s g count r d = by (plan_of h (length s) g count) refl
  where
    by : (p : Plan) → plan_of h (length s) g count ≡ p → Kept r h s (open_of h s g count).kept.«record» (open_of h s g count).store
    by (refuse t) e = rw (refused-record h s g count t e, refused-store h s g count t e) (kept-all r h s)
    by (take i start) e =
        let t = taking h (length s) g count i start e in
        let away : (j : ℕ) → place_named h.places r ≡ Some j → j ≡ i → ⊥ = λ j n z.
        differ (sym (names_in_use (get_or h.places j unused) r (found-names h.places r j n).1)
        ∙ ap (λ (x : ℕ). in_use (get_or h.places x unused)) z ∙ (unused-at h.places i t.unused).1) in
        rw (open_by h s g count (take i start) e) (record {
          named = open_named-other h (length s) g count i start t r d;
          same_place = λ j n. (open_others h s g count i start t j (found-names h.places r j n).0 (away j n)
              (names_in_use (get_or h.places j unused) r (found-names h.places r j n).1)).0;
          same-contents = λ j n. (open_others h s g count i start t j (found-names h.places r j n).0 (away j n)
              (names_in_use (get_or h.places j unused) r (found-names h.places r j n).1)).1;
        })

-- ---- close

pub close-leaves : (h : Record) (s : List ℕ) (x r : Name) → (x ≡ r → ⊥) → Kept r h s (close_of h s x).«record» s
close-leaves h s x r d = sound (good (length s) h.places) refl
  where
    at : good (length s) h.places ≡ true → (f : Option ℕ) → place_named h.places x ≡ f → Kept r h s (close_of h s x).«record» s
    at g None e = rw (close_unknown h s x g e) (kept-all r h s)
    at g (Some i) e =
        let away : (j : ℕ) → place_named h.places r ≡ Some j → j ≡ i → ⊥ = λ j n z.
        d (sym (names-name (get_or h.places i unused) x (found-names h.places x i e).1)
        ∙ ap (λ (k : ℕ). place_name (get_or h.places k unused)) (sym z) ∙ names-name (get_or h.places j unused) r (found-names h.places r j n).1) in
        rw (close-found h s x g i e) (record {
          named = close-named-other h.places x i e r d;
          same_place = λ j n. close-others h.places x i e j (away j n);
          same-contents = λ j n. refl;
        })

    sound : (b : Bool) → good (length s) h.places ≡ b → Kept r h s (close_of h s x).«record» s
    sound true g = at g (place_named h.places x) refl
    sound false g = rw (close-record h s x g) (kept-all r h s)

-- ---- any call that is not about r

pub step-leaves : (r : Name) (c : Call) (x : State) → about r c ≡ false → Kept r x.held x.store (step c x).state.held (step c x).state.store
unfolding step
step-leaves r (packing file g n out) x e = kept-all r x.held x.store
step-leaves r (opening g count) x e = open_leaves x.held x.store g count r (name-other (settings_name g) r e)
step-leaves r (offering q) x e = offer-leaves r x.held x.store q e
step-leaves r (asking y) x e = kept-all r x.held x.store
step-leaves r (handing y n out) x e = kept-all r x.held x.store
step-leaves r (closing y) x e = close-leaves x.held x.store y r (name-other y r e)

-- the store keeps its length
pub step-length : (c : Call) (x : State) → length (step c x).state.store ≡ length x.store
unfolding step
step-length (packing file g n out) x = refl
step-length (opening g count) x = open_keeps_length x.held x.store g count
step-length (offering q) x = offer-length x.held x.store q
step-length (asking y) x = refl
step-length (handing y n out) x = refl
step-length (closing y) x = refl
