-- Two sequences: two states with one record whose stores show the same at the place of a resource and type answer every call about them alike, and stay so.
-- Assumes nothing.
use mathlib.Core.Path.{◌≡◌, refl, sym, ap, ap₂, ◌∙◌, subst}
use mathlib.Core.Bool.{Bool, true, false, cond, not}
use mathlib.Core.List.{List, ◌∷◌}
use Prim.Native.Nat.{ℕ}
use native.Mathlib.Omega.{arith}
use lib.Dec.{ltb}
use lib.ListN.{length, get_or, set}
use Rattle.std.proofs.lemmas.Bool.{and_parts}
use Rattle.refusals.specs.declared.Refusal.{Refusal}
use Rattle.refusals.specs.Told.{verdict_told}
use Rattle.settings.specs.declared.Settings.{Settings}
use Rattle.places.specs.declared.Place.{Place}
use Rattle.places.specs.declared.Record.{Record}
use Rattle.places.specs.declared.Name.{Name}
use Rattle.places.specs.Places.{settings_name, unused, good, place_named, place_of}
use Rattle.ground.proofs.Truth.{differ}
use Rattle.places.proofs.Named.{name-same}
use Rattle.contents.specs.Contents.{contents}
use Rattle.opening.specs.Open.{Kept as Record-kept}
use Rattle.opening.specs.Open.{Plan, refuse, take, plan_of, carried_out, Opening, open_of, closed_at, close_of}
use Rattle.record.specs.declared.Offered.{Offered}
use Rattle.record.specs.Offer.{name_in, offer_of}
use Rattle.record.specs.Told.{offered_told}
use Rattle.standing.specs.declared.Standing.{Standing}
use Rattle.standing.specs.Status.{status_of}
use Rattle.standing.specs.Told.{standing_told}
use Rattle.standing.proofs.StatusLaws.{status_same}
use Rattle.columns.specs.Handing.{Handing}
use Rattle.handing.specs.Hand.{hand_out_of}
use Rattle.opening.proofs.PlanLaws.{taking, open_by}
use Rattle.opening.proofs.OpenLaws.{open_named, open_own, open_empty, open_keeps_length, refused-record, refused-store}
use Rattle.opening.proofs.CloseLaws.{close-record, close_unknown, close-found, close-named}
use Rattle.record.proofs.OfferLaws.{offer-length, alike_answer, alike_holds}
use Rattle.handing.proofs.HandLaws.{hand_same}
use Rattle.promises.specs.Calls.{Call, telling, State, step, fresh, names, about}
use Rattle.promises.specs.Calls.Call.{packing, opening, offering, asking, handing, closing}
use Rattle.promises.specs.Statements.{Alike, answers_about, TwoSequences}
use Rattle.promises.proofs.Views.{Kept, offer-leaves, step-leaves, step-length}
use Rattle.std.specs.Prelude.{Option}
use Rattle.std.specs.Prelude.{Err}
use Rattle.std.specs.Prelude.{Some, None}
use Rattle.std.specs.Prelude.{Result}

-- two stores of one length that show the same at r's place
pub record Like (r : Name) (h : Record) (s t : List ℕ) : Type 0 where
  pub sized : length s ≡ length t
  pub seen : (i : ℕ) → place_named h.places r ≡ Some i → contents (get_or h.places i unused) s ≡ contents (get_or h.places i unused) t

-- two states so
pub record LikeStates (r : Name) (x y : State) : Type 0 where
  pub same-held : x.held ≡ y.held
  pub like : Like r x.held x.store y.store

found-same : (i j : ℕ) → Some i ≡ Some j → i ≡ j
found-same i j e = cc

nothing-found : {A : Type 0} (i : ℕ) (f : Option ℕ) → f ≡ None → f ≡ Some i → A
nothing-found i f p q = absurd (let z : ◌≡◌ {A = ℕ} 0 1 = cc in omega arith)

module _ (r : Name) (h : Record) (s t : List ℕ) (l : Like r h s t) where
  -- ---- close

  like_close : (x : Name) → close_of h s x ≡ close_of h t x
  unfolding close_of
  like_close x = ap (λ (n : ℕ). cond (not (good n h.places)) (record { «record» = h; verdict = Err Refusal.Record }) (closed_at h (place_named h.places x))) l.sized

  -- r itself closed: either nothing happened, or it has no place any more
  close-own_like : Like r (close_of h s r).«record» s t
  close-own_like = sound (good (length s) h.places) refl
    where
      at : good (length s) h.places ≡ true → (f : Option ℕ) → place_named h.places r ≡ f → Like r (close_of h s r).«record» s t
      at g None e = rw (close_unknown h s r g e) l
      at g (Some i) e =
          rw (close-found h s r g i e)
          (record { sized = l.sized; seen = λ j n. nothing-found j (place_named (set h.places i unused) r) (close-named h.places r i e (length s) g) n })

      sound : (b : Bool) → good (length s) h.places ≡ b → Like r (close_of h s r).«record» s t
      sound true g = at g (place_named h.places r) refl
      sound false g = rw (close-record h s r g) l

  -- ---- open

  carried_kept : (g : Settings) (count : ℕ) (p : Plan) → (carried_out h s g count p).kept ≡ (carried_out h t g count p).kept
  carried_kept g count (refuse q) = refl
  carried_kept g count (take i start) = refl

  like_open : (g : Settings) (count : ℕ) → (open_of h s g count).kept ≡ (open_of h t g count).kept
  unfolding open_of
  like_open g count =
      carried_kept g count (plan_of h (length s) g count) ∙ ap (λ (n : ℕ). (carried_out h t g count (plan_of h n g count)).kept) l.sized

  -- r itself opened: refused on both sides, or empty on both
  open_own_like : (g : Settings) (count : ℕ) → settings_name g ≡ r → Like r (open_of h s g count).kept.«record» (open_of h s g count).store (open_of h t g count).store
  open_own_like g count own = by (plan_of h (length s) g count) refl
    where
      there : (p : Plan) → plan_of h (length s) g count ≡ p → plan_of h (length t) g count ≡ p
      there p e = ap (λ (n : ℕ). plan_of h n g count) (sym l.sized) ∙ e

      by : (p : Plan) → plan_of h (length s) g count ≡ p → Like r (open_of h s g count).kept.«record» (open_of h s g count).store (open_of h t g count).store
      by (refuse q) e =
          rw (refused-record h s g count q e, refused-store h s g count q e, refused-store h t g count q (there (refuse q) e)) l
      by (take i start) e =
          let a = taking h (length s) g count i start e in
          let b = taking h (length t) g count i start (there (take i start) e) in
          record {
            sized = open_keeps_length h s g count ∙ l.sized ∙ sym (open_keeps_length h t g count);
            seen = λ j n.
                let named : place_named (open_of h s g count).kept.«record».places r ≡ Some i =
                ap (λ (o : Opening). place_named o.kept.«record».places r) (open_by h s g count (take i start) e)
                ∙ ap (place_named (set h.places i (place_of g count start))) (sym own) ∙ open_named h (length s) g count i start a in
                let same : j ≡ i = found-same j i (sym n ∙ named) in
                let place : get_or (open_of h s g count).kept.«record».places j unused ≡ place_of g count start =
                ap₂ (λ (o : Opening) (k : ℕ). get_or o.kept.«record».places k unused) (open_by h s g count (take i start) e) same
                ∙ open_own h (length s) g count i start a in
                ap₂ contents place (ap (λ (o : Opening). o.store) (open_by h s g count (take i start) e)) ∙ open_empty h s g count i start a
                ∙ sym (ap₂ contents place (ap (λ (o : Opening). o.store) (open_by h t g count (take i start) (there (take i start) e))) ∙ open_empty h t g count i start b);
          }

  -- ---- offer of a packet that names r

  like_offer : (q : List ℕ) → names r q ≡ true → (offer_of h s q).answer ≡ (offer_of h t q).answer
  like_offer q own =
      let named : name_in q ≡ r = name-same (name_in q) r (and_parts (ltb 12 (length q)) _ own).1 in
      alike_answer h s t q l.sized (λ i n. l.seen i (ap (place_named h.places) (sym named) ∙ n))

  offer-own_like : (q : List ℕ) → Like r h (offer_of h s q).store (offer_of h t q).store
  offer-own_like q = record {
    sized = offer-length h s q ∙ l.sized ∙ sym (offer-length h t q);
    seen = λ i n. alike_holds h s t q l.sized r i n (l.seen i n);
  }

-- ---- any call

-- a call that is not about r, on both sides
unnamed_like : (r : Name) (h h' : Record) (s t s' t' : List ℕ) → Like r h s t → Kept r h s h' s' → length s' ≡ length s
    → ((i : ℕ) → place_named h.places r ≡ Some i → contents (get_or h.places i unused) t' ≡ contents (get_or h.places i unused) t) → length t' ≡ length t → Like r h' s' t'
unnamed_like r h h' s t s' t' l k es kt et = record {
  sized = es ∙ l.sized ∙ sym et;
  seen = λ i n.
      let m : place_named h.places r ≡ Some i = sym k.named ∙ n in
      ap (λ (p : Place). contents p s') (k.same_place i m) ∙ k.same-contents i m ∙ l.seen i m ∙ sym (kt i m) ∙ sym (ap (λ (p : Place). contents p t') (k.same_place i m));
}

-- what is to be shown of a call: the states stay alike, and what is about r is answered alike
record StepAlike (r : Name) (c : Call) (x y : State) : Type 0 where
  states : LikeStates r (step c x).state (step c y).state
  answers : about r c ≡ true → (step c x).answer ≡ (step c y).answer

-- the record after a call depends on the record and the store's length
held_after_lem : (r : Name) (c : Call) (h : Record) (s t : List ℕ) → Like r h s t → (step c (record { held = h; store = s })).state.held ≡ (step c (record { held = h; store = t })).state.held
unfolding step
held_after_lem r (packing file g n out) h s t l = refl
held_after_lem r (opening g count) h s t l = ap (λ (k : Record-kept). k.«record») (like_open r h s t l g count)
held_after_lem r (offering q) h s t l = refl
held_after_lem r (asking x) h s t l = refl
held_after_lem r (handing x n out) h s t l = refl
held_after_lem r (closing x) h s t l = ap (λ (k : Record-kept). k.«record») (like_close r h s t l x)

-- about r, on both sides
named_step : (r : Name) (c : Call) (h : Record) (s t : List ℕ) → Like r h s t → about r c ≡ true
    → ((step c (record { held = h; store = s })).answer ≡ (step c (record { held = h; store = t })).answer)
    × Like r (step c (record { held = h; store = s })).state.held (step c (record { held = h; store = s })).state.store (step c (record { held = h; store = t })).state.store
unfolding step
named_step r (packing file g n out) h s t l e = (refl, l)
named_step r (opening g count) h s t l e =
    (ap (λ (k : Record-kept). telling (verdict_told k.verdict)) (like_open r h s t l g count), open_own_like r h s t l g count (name-same (settings_name g) r e))
named_step r (offering q) h s t l e = (ap (λ (a : Result Offered Refusal). telling (offered_told a)) (like_offer r h s t l q e), offer-own_like r h s t l q)
named_step r (asking x) h s t l e =
    let same : x ≡ r = name-same x r e in
    (ap (λ (a : Result Standing Refusal). telling (standing_told a)) (ap (status_of h s) same ∙ status_same h s t r l.sized l.seen ∙ sym (ap (status_of h t) same)), l)
named_step r (handing x n out) h s t l e =
    let same : x ≡ r = name-same x r e in (
      ap (λ (a : Handing). record { told = verdict_told a.answer; output = a.output })
          (ap (λ (y : Name). hand_out_of h s y n out) same ∙ hand_same h s t r l.sized l.seen n out ∙ sym (ap (λ (y : Name). hand_out_of h t y n out) same)),
      l,
    )
named_step r (closing x) h s t l e =
    let same : x ≡ r = name-same x r e in (
      ap (λ (k : Record-kept). telling (verdict_told k.verdict)) (like_close r h s t l x),
      subst (λ (y : Name). Like r (close_of h s y).«record» s t) (sym same) (close-own_like r h s t l),
    )

common : (r : Name) (c : Call) (h : Record) (s t : List ℕ) → Like r h s t → StepAlike r c (record { held = h; store = s }) (record { held = h; store = t })
common r c h s t l = by (about r c) refl
  where
    by : (b : Bool) → about r c ≡ b → StepAlike r c (record { held = h; store = s }) (record { held = h; store = t })
    by true e =
        let k = named_step r c h s t l e in
        record { states = record { same-held = held_after_lem r c h s t l; like = k.1 }; answers = λ _. k.0 }
    by false e = record {
      states = record {
        same-held = held_after_lem r c h s t l;
        like = unnamed_like r h (step c (record { held = h; store = s })).state.held s t (step c (record { held = h; store = s })).state.store (step c (record { held = h; store = t })).state.store
            l (step-leaves r c (record { held = h; store = s }) e) (step-length c (record { held = h; store = s }))
            (step-leaves r c (record { held = h; store = t }) e).same-contents (step-length c (record { held = h; store = t }));
      };
      answers = λ z. differ (sym z ∙ e);
    }

step_alike : (r : Name) (c : Call) (x y : State) → LikeStates r x y → StepAlike r c x y
step_alike r c x y k =
    let same : record { held = x.held; store = y.store } ≡ y = λ i. record { held = k.same-held i; store = y.store } in
    subst (StepAlike r c x) same (common r c x.held x.store y.store k.like)

-- ---- runs

-- an offer that does not name r, on one side alone
one_side : (r : Name) (q : List ℕ) (x y : State) → names r q ≡ false → LikeStates r x y → LikeStates r (step (offering q) x).state y
unfolding step
one_side r q x y n k =
    let o = offer-leaves r x.held x.store q n in
    record {
      same-held = k.same-held;
      like = record {
        sized = offer-length x.held x.store q ∙ k.like.sized;
        seen = λ i e. o.same-contents i e ∙ k.like.seen i e;
      };
    }

turned : (r : Name) (x y : State) → LikeStates r x y → LikeStates r y x
turned r x y k = record {
  same-held = sym k.same-held;
  like = subst (λ (h : Record). Like r h y.store x.store) k.same-held (record { sized = sym k.like.sized; seen = λ i e. sym (k.like.seen i e) });
}

runs : (r : Name) {cs ds : List Call} → Alike r cs ds → (x y : State) → LikeStates r x y → answers_about step r cs x ≡ answers_about step r ds y
runs r Alike.ended x y k = refl
runs r (Alike.both {cs} {ds} c a) x y k =
    let p = step_alike r c x y k in
    by (about r c) refl p.answers (runs r a (step c x).state (step c y).state p.states)
  where
    by : (b : Bool) → about r c ≡ b → (about r c ≡ true → (step c x).answer ≡ (step c y).answer)
        → answers_about step r cs (step c x).state ≡ answers_about step r ds (step c y).state
        → cond (about r c) ((step c x).answer ∷ answers_about step r cs (step c x).state) (answers_about step r cs (step c x).state)
        ≡ cond (about r c) ((step c y).answer ∷ answers_about step r ds (step c y).state) (answers_about step r ds (step c y).state)
    by true e f g = rw e (ap₂ ◌∷◌ (f e) g)
    by false e f g = rw e g
runs r (Alike.left {cs} {ds} q n a) x y k =
    rw n (runs r a (step (offering q) x).state y (one_side r q x y n k))
runs r (Alike.right {cs} {ds} q n a) x y k =
    rw n (runs r a x (step (offering q) y).state (turned r (step (offering q) y).state x (one_side r q y x n (turned r x y k))))

pub two_sequences : TwoSequences step
two_sequences r s cs ds a =
    runs r a (fresh s) (fresh s) (record { same-held = refl; like = record { sized = refl; seen = λ i e. refl } })
