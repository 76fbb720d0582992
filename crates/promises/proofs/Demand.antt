-- Demand 3. While a file is collected each slot of its place is empty or holds its packet's payload; a copy fills its slot, nothing empties one; when all are
-- filled, hand out undoes the tables and gives the file. Assumes nothing.
use mathlib.Core.Path.{◌≡◌, refl, sym, ap, ◌∙◌, subst}
use mathlib.Core.Logic.{◌⊎◌, inl, inr, ⊎_elim}
use mathlib.Core.Bool.{Bool, true, false, not}
use mathlib.Core.List.{List, []}
use Prim.Native.Nat.{ℕ, ◌<◌}
use native.Mathlib.Omega.{arith}
use lib.Dec.{eqb, ltb}
use lib.ListN.{length, get_or, replicate, get_or-replicate}
use Rattle.std.proofs.lemmas.Bool.{and_parts, cases_eq}
use Rattle.refusals.specs.declared.Refusal.TheVariants.{Size}
use Rattle.refusals.specs.Told.{refused_as, verdict_told}
use Rattle.refusals.proofs.Told.{verdict_accepted}
use Rattle.packet.specs.declared.Packet.{Packet}
use Rattle.settings.specs.declared.Settings.{Settings}
use Rattle.packet.specs.Packet.{read_by}
use Rattle.layout.specs.Layout.{tables_of}
use Rattle.pack.specs.Pack.{count_of, payload_of}
use Rattle.pack.proofs.Laws.{fields_of}
use Rattle.places.specs.declared.Place.{Place}
use Rattle.places.specs.Places.{settings_name, same_name, unused, good, place_named, place_of}
use Rattle.places.proofs.Named.{name-same, other_name}
use Rattle.contents.specs.Contents.{Slot as Content, wrong, holding, contents}
use Rattle.contents.proofs.Places.{length-contents}
use Rattle.opening.specs.Open.{Plan, refuse, take as taken, plan_of, carried_out, Opening, open_of}
use Rattle.record.specs.Offer.{packet_name, name_in, read_for, Offering, Judged, refuse as refuse-packet, put, judge, differs, offer_judged, offer_of, judge_by}
use Rattle.columns.specs.Handing.{Handing}
use Rattle.handing.specs.Hand.{hand_contents, hand_out_of}
use Rattle.opening.proofs.PlanLaws.{Taking, taking, taking_plan, open_by}
use Rattle.opening.proofs.OpenLaws.{open_named, open_own, open_empty, open_keeps, open_keeps_length, accepted_plan, refused-record, refused-store}
use Rattle.opening.proofs.CloseLaws.{close_keeps_good}
use Rattle.record.proofs.OfferCases.{offer_unread, offer-placed}
use Rattle.record.proofs.OfferFacts.{read_name}
use Rattle.record.proofs.OfferReads.{read_found}
use Rattle.record.proofs.OfferLaws.{Placed, Sound, held_after, held_after_lem, slots_kept, offer-sound, offer-holds, offer-length}
use Rattle.handing.proofs.HandCases.{out-found}
use Rattle.promises.specs.Calls.{Call, State, step, run, names, about}
use Rattle.promises.specs.Calls.Call.{packing, opening, offering, asking, handing, closing}
use Rattle.promises.specs.Statements.{Protected, Copy, BringsNoOther, Fair, AllFair, Offers, Carries, HandsOut, Demand3}
use Rattle.promises.proofs.Judged.{copy_reads, copy-judged, copy_name}
use Rattle.promises.proofs.Whole.{contents-handed, contents-refused}
use Rattle.promises.proofs.Views.{Kept, step-leaves}
use Rattle.refusals.specs.declared.Refusal.{Refusal}
use Rattle.std.specs.Prelude.{Result}
use Rattle.std.specs.Prelude.{Ok, Err}
use Rattle.std.specs.Prelude.{Some, None}

-- ---- a good record stays good

step-good : (c : Call) (x : State) → good (length x.store) x.held.places ≡ true → good (length (step c x).state.store) (step c x).state.held.places ≡ true
unfolding step
step-good (packing file g n out) x k = k
step-good (opening g count) x k =
    ap (λ (n : ℕ). good n (open_of x.held x.store g count).kept.«record».places) (open_keeps_length x.held x.store g count)
    ∙ open_keeps x.held x.store g count k
step-good (offering q) x k = ap (λ (n : ℕ). good n x.held.places) (offer-length x.held x.store q) ∙ k
step-good (asking y) x k = k
step-good (handing y n out) x k = k
step-good (closing y) x k = close_keeps_good x.held x.store y k

-- ---- while a file is collected

module _ (g : Settings) (file : List ℕ) (p : Protected g file) (i start : ℕ) where
  -- its place
  abbrev pub own : Place
  own = place_of g (count_of g (length file)) start

  -- the start of a place does not count in the judgement
  judge_start : (f : Packet) (q : List ℕ) → judge (place_of g (count_of g (length file)) 0) f q ≡ judge own f q
  unfolding judge_by differs
  judge_start f q = refl

  -- what slot k of it holds
  abbrev pub slot_in_lem : ℕ → State → Content
  slot_in_lem k x = get_or (contents own x.store) k wrong

  pub record Collecting (x : State) : Type 0 where
    pub sound : good (length x.store) x.held.places ≡ true
    pub named : place_named x.held.places (settings_name g) ≡ Some i
    pub place : get_or x.held.places i unused ≡ own
    pub slots : (k : ℕ) → k < count_of g (length file) → (slot_in_lem k x ≡ holding []) ⊎ (slot_in_lem k x ≡ holding (payload_of g file k))

  -- packet k is there
  abbrev pub Has : ℕ → State → Type 0
  Has k x = slot_in_lem k x ≡ holding (payload_of g file k)

  -- what a call does to it: it goes on, and no packet is lost
  pub record GoesOn (x y : State) : Type 0 where
    pub collecting : Collecting y
    pub keeps : (k : ℕ) → Has k x → Has k y

  stays : (x : State) → Collecting x → GoesOn x x
  stays x c = record { collecting = c; keeps = λ k h. h }

  -- contents as they were
  same-contents_go : (x y : State) → Collecting x → good (length y.store) y.held.places ≡ true → Kept (settings_name g) x.held x.store y.held y.store → GoesOn x y
  same-contents_go x y c sound k =
      let same : contents own y.store ≡ contents own x.store =
      ap (λ (o : Place). contents o y.store) (sym c.place) ∙ k.same-contents i c.named ∙ ap (λ (o : Place). contents o x.store) c.place in
      record {
        collecting = record {
          sound = sound;
          named = k.named ∙ c.named;
          place = k.same_place i c.named ∙ c.place;
          slots = λ n l. rw same (c.slots n l);
        };
        keeps = λ n h. rw same h;
      }

  unnamed_go : (c : Call) (x : State) → Collecting x → about (settings_name g) c ≡ false → GoesOn x (step c x).state
  unnamed_go c x k e = same-contents_go x (step c x).state k (step-good c x k.sound) (step-leaves (settings_name g) c x e)

  -- a resource and type that are held are not opened again
  open_go : (s : Settings) (count : ℕ) (x : State) → Collecting x → GoesOn x (step (opening s count) x).state
  unfolding step
  open_go s count x c = by (same_name (settings_name s) (settings_name g)) refl
    where
      refusal : settings_name s ≡ settings_name g → (q : Plan) → plan_of x.held (length x.store) s count ≡ q
          → GoesOn x (record { held = (open_of x.held x.store s count).kept.«record»; store = (open_of x.held x.store s count).store })
      refusal o (refuse r) e = rw (refused-record x.held x.store s count r e, refused-store x.held x.store s count r e) (stays x c)
      refusal o (taken j at) e =
          let t = taking x.held (length x.store) s count j at e in
          let n : Some i ≡ None = sym c.named ∙ ap (place_named x.held.places) (sym o) ∙ t.absent in
          let z : ◌≡◌ {A = ℕ} 0 1 = cc in
          absurd (omega arith)

      by : (b : Bool) → same_name (settings_name s) (settings_name g) ≡ b
          → GoesOn x (record { held = (open_of x.held x.store s count).kept.«record»; store = (open_of x.held x.store s count).store })
      by true e = refusal (name-same _ _ e) (plan_of x.held (length x.store) s count) refl
      by false e = unnamed_go (opening s count) x c e

  -- an offer that leaves the store
  unmoved_go : (q : List ℕ) (x : State) → Collecting x → (offer_of x.held x.store q).store ≡ x.store → GoesOn x (step (offering q) x).state
  unfolding step
  unmoved_go q x c z =
      same-contents_go x (step (offering q) x).state c (step-good (offering q) x c.sound)
      (record { named = refl; same_place = λ j m. refl; same-contents = λ j m. ap (contents (get_or x.held.places j unused)) z })

  -- ---- an offer that is judged to bring packet n's payload fills its slot

  -- an offer that names the file is read as the file's place has it read
  pub read-there : (x : State) → Collecting x → (q : List ℕ) → name_in q ≡ settings_name g → read_for x.held q ≡ read_by (not (eqb g.order 1)) q
  read-there x c q z =
      read_found x.held q (Some i) (ap (place_named x.held.places) z ∙ c.named) ∙ ap (λ (o : Place). read_by (not (eqb o.order 1)) q) c.place

  module _ (x : State) (c : Collecting x) (q : List ℕ) (f : Packet) (read : read_for x.held q ≡ Ok f) (of : packet_name f ≡ settings_name g) where
    found-there : place_named x.held.places (packet_name f) ≡ Some i
    found-there = ap (place_named x.held.places) of ∙ c.named

    module _ (n m : ℕ) (brings : judge own f q ≡ put n (payload_of g file n) m) where
      placed : Placed own f n (payload_of g file n)
      placed =
          subst (Sound own f) brings
          (subst (λ (o : Place). Sound o f (judge o f q)) c.place (offer-sound x.held x.store q c.sound f read i found-there))

      after : contents own (offer_of x.held x.store q).store ≡ held_after (put n (payload_of g file n) m) (contents own x.store)
      after =
          subst (λ (o : Place). contents o (offer_of x.held x.store q).store ≡ held_after (judge o f q) (contents o x.store)) c.place
          (offer-holds x.held x.store q c.sound f read i found-there)
          ∙ ap (λ (j : Judged). held_after j (contents own x.store)) brings

      -- its slot holds it afterwards
      fills : Has n (step (offering q) x).state
      unfolding step
      fills =
          ap (λ (l : List Content). get_or l n wrong) after
          ∙ held_after_lem (contents own x.store) n (payload_of g file n) m (omega (arith, length-contents own x.store, placed.below)) (c.slots n placed.below)

      -- every other slot is as it was
      leaves : (k : ℕ) → (k ≡ n → ⊥) → slot_in_lem k (step (offering q) x).state ≡ slot_in_lem k x
      unfolding step
      leaves k d =
          ap (λ (l : List Content). get_or l k wrong) after
          ∙ slots_kept own f x.store (put n (payload_of g file n) m) placed (contents own x.store) k (λ z. d (z ∙ sym placed.number))

      brought_go : GoesOn x (step (offering q) x).state
      unfolding step
      brought_go =
          let there : (k : ℕ) → k ≡ n → Has k (step (offering q) x).state = λ k z. subst (λ (j : ℕ). Has j (step (offering q) x).state) (sym z) fills in
          record {
            collecting = record {
              sound = step-good (offering q) x c.sound;
              named = c.named;
              place = c.place;
              slots = λ k l. ⊎_elim (λ z. inr (there k z)) (λ d. rw (leaves k d) (c.slots k l)) (cases_eq k n);
            };
            keeps = λ k h. ⊎_elim (there k) (λ d. leaves k d ∙ h) (cases_eq k n);
          }

    -- refused, or it brings what the file has there
    judged_go : BringsNoOther g file q → (j : Judged) → judge own f q ≡ j → GoesOn x (step (offering q) x).state
    judged_go none (refuse-packet r) e =
        unmoved_go q x c (ap (λ (o : Offering). o.store) (offer-placed x.held x.store q c.sound f read i found-there
        ∙ ap (offer_judged (get_or x.held.places i unused) x.store) (ap (λ (o : Place). judge o f q) c.place ∙ e)))
    judged_go none (put n b m) e =
        let own_read : read_by (not (eqb g.order 1)) q ≡ Ok f = sym (read-there x c q (sym (read_name x.held q f read) ∙ of)) ∙ read in
        let same : b ≡ payload_of g file n = cc (none f own_read n b m (judge_start f q ∙ e)) in
        brought_go n m (e ∙ ap (λ (l : List ℕ). put n l m) same)

  pub copy_reads_there : (n : ℕ) → n < count_of g (length file) → (q : List ℕ) → Copy g file n q → (x : State) → Collecting x → read_for x.held q ≡ Ok (fields_of g file n)
  copy_reads_there n below q cp x c = read-there x c q (copy_name g file p n below q cp) ∙ copy_reads g file p n below q cp

  pub copy_go : (n : ℕ) (below : n < count_of g (length file)) (q : List ℕ) → Copy g file n q → (x : State) → Collecting x
      → GoesOn x (step (offering q) x).state × Has n (step (offering q) x).state
  copy_go n below q cp x c =
      let reads = copy_reads_there n below q cp x c in
      let judged = copy-judged g file p n below q cp start in
      (brought_go x c q (fields_of g file n) reads refl n _ judged, fills x c q (fields_of g file n) reads refl n _ judged)

  -- and leaves every other slot
  pub copy-leaves : (n : ℕ) (below : n < count_of g (length file)) (q : List ℕ) → Copy g file n q → (x : State) → Collecting x
      → (k : ℕ) → (k ≡ n → ⊥) → slot_in_lem k (step (offering q) x).state ≡ slot_in_lem k x
  copy-leaves n below q cp x c = leaves x c q (fields_of g file n) (copy_reads_there n below q cp x c) refl n _ (copy-judged g file p n below q cp start)

  -- ---- any other offer

  noise_go : (q : List ℕ) → BringsNoOther g file q → (x : State) → Collecting x → GoesOn x (step (offering q) x).state
  noise_go q none x c = by (names (settings_name g) q) refl
    where
      reading : name_in q ≡ settings_name g → (a : Result Packet Refusal) → read_for x.held q ≡ a → GoesOn x (step (offering q) x).state
      reading z (Ok f) e = judged_go x c q f e (read_name x.held q f e ∙ z) none (judge own f q) refl
      reading z (Err r) e = unmoved_go q x c (ap (λ (o : Offering). o.store) (offer_unread x.held x.store q c.sound r e))

      by : (t : Bool) → names (settings_name g) q ≡ t → GoesOn x (step (offering q) x).state
      by true e = reading (name-same (name_in q) (settings_name g) (and_parts (ltb 12 (length q)) _ e).1) (read_for x.held q) refl
      by false e = unnamed_go (offering q) x c e

  -- ---- any fair call

  fair_go : (c : Call) → Fair g file c → (x : State) → Collecting x → GoesOn x (step c x).state
  unfolding step
  fair_go c (Fair.copy n q below cp) x k = (copy_go n below q cp x k).0
  fair_go c (Fair.other q e) x k = unnamed_go (offering q) x k e
  fair_go c (Fair.noise q none) x k = noise_go q none x k
  fair_go c (Fair.packs a s n out) x k = stays x k
  fair_go c (Fair.opens s count) x k = open_go s count x k
  fair_go c (Fair.asks r) x k = stays x k
  fair_go c (Fair.hands r n out) x k = stays x k
  fair_go c (Fair.closes r d) x k = unnamed_go (closing r) x k (other_name r (settings_name g) d)

  pub fair-run : {cs : List Call} → AllFair g file cs → (x : State) → Collecting x → GoesOn x (run step cs x).state
  fair-run AllFair.ended x k = stays x k
  fair-run (AllFair.next {c} {cs} f fs) x k =
      let a = fair_go c f x k in
      let b = fair-run fs (step c x).state a.collecting in
      record { collecting = b.collecting; keeps = λ n h. b.keeps n (a.keeps n h) }

  -- a copy somewhere in the list leaves its packet there
  pub offered_run : (n : ℕ) {cs : List Call} → n < count_of g (length file) → Offers g file n cs → AllFair g file cs → (x : State) → Collecting x → Has n (run step cs x).state
  offered_run n below (Offers.here {q} {cs} cp) (AllFair.next f fs) x k =
      let a = copy_go n below q cp x k in
      (fair-run fs (step (offering q) x).state a.0.collecting).keeps n a.1
  offered_run n below (Offers.later {c} {cs} o) (AllFair.next f fs) x k =
      offered_run n below o fs (step c x).state (fair_go c f x k).collecting

  -- ---- hand out

  -- at any length, by what the place holds
  pub handed : (x : State) → Collecting x → (n : ℕ) (out : List ℕ) → hand_out_of x.held x.store (settings_name g) n out ≡ hand_contents own (contents own x.store) n out
  handed x c n out =
      out-found x.held x.store (settings_name g) c.sound n out i c.named
      ∙ ap (λ (o : Place). hand_contents o (contents o x.store) n out) c.place

  -- when every packet is there
  module _ (x : State) (c : Collecting x) (all : (k : ℕ) → k < count_of g (length file) → Has k x) where
    hands : HandsOut step g file x
    unfolding step
    hands out room =
        ap (λ (h : Handing). record { told = verdict_told h.answer; output = h.output })
        (handed x c (length file) out ∙ contents-handed g file p (contents own x.store) (length-contents own x.store) all start out room)

    pub refuses : (n : ℕ) (out : List ℕ)
        → (count_of g n ≡ count_of g (length file) → ⊥) ⊎ ((g.order ≡ 0) × (tables_of g.rows n ≡ tables_of g.rows (length file) → ⊥))
        → (step (handing (settings_name g) n out) x).answer ≡ record { told = refused_as Size; output = out }
    unfolding step
    refuses n out d =
        ap (λ (h : Handing). record { told = verdict_told h.answer; output = h.output })
        (handed x c n out ∙ contents-refused g file p (contents own x.store) (length-contents own x.store) all start n out d)

-- a place just opened is one in which the file is collected
pub opened_collecting : (g : Settings) (file : List ℕ) (p : Protected g file) (x : State) (i start : ℕ) → Taking x.held (length x.store) g (count_of g (length file)) i start
    → Collecting g file p i start (step (opening g (count_of g (length file))) x).state
unfolding step
opened_collecting g file p x i start t =
    let n : ℕ = count_of g (length file) in
    let done : open_of x.held x.store g n ≡ carried_out x.held x.store g n (taken i start) =
    open_by x.held x.store g n (taken i start) (taking_plan x.held (length x.store) g n i start t) in
    let empty : contents (place_of g n start) (open_of x.held x.store g n).store ≡ replicate n (holding []) =
    ap (λ (o : Opening). contents (place_of g n start) o.store) done ∙ open_empty x.held x.store g n i start t in
    record {
      sound = step-good (opening g n) x t.fitting.sound;
      named = ap (λ (o : Opening). place_named o.kept.«record».places (settings_name g)) done ∙ open_named x.held (length x.store) g n i start t;
      place = ap (λ (o : Opening). get_or o.kept.«record».places i unused) done ∙ open_own x.held (length x.store) g n i start t;
      slots = λ k l. inl (ap (λ (c : List Content). get_or c k wrong) empty ∙ get_or-replicate n k (holding []) wrong l);
    }

-- ---- the demand

-- after a list that carries the file its place holds every packet
pub record Collected (g : Settings) (file : List ℕ) (p : Protected g file) (x : State) : Type 0 where
  pub place : ℕ
  pub start : ℕ
  pub collecting : Collecting g file p place start x
  pub all : (k : ℕ) → k < count_of g (length file) → Has g file p place start k x

-- where open is accepted, a place and a start at which the file is collected from then on
pub begun : (g : Settings) (file : List ℕ) (p : Protected g file) (x : State) → (step (opening g (count_of g (length file))) x).answer.told.number ≡ 0
    → (i : ℕ) × (start : ℕ) × Collecting g file p i start (step (opening g (count_of g (length file))) x).state
unfolding step
begun g file p x answer =
    let t = accepted_plan x.held x.store g (count_of g (length file)) (verdict_accepted (open_of x.held x.store g (count_of g (length file))).kept.verdict answer) in
    (t.0, t.1, opened_collecting g file p x t.0 t.1 t.2)

pub collected : (g : Settings) (file : List ℕ) (p : Protected g file) (x : State) → (step (opening g (count_of g (length file))) x).answer.told.number ≡ 0
    → (cs : List Call) → Carries g file cs → Collected g file p (run step cs (step (opening g (count_of g (length file))) x).state).state
collected g file p x answer cs carried =
    let b = begun g file p x answer in
    record {
      place = b.0;
      start = b.1;
      collecting = (fair-run g file p b.0 b.1 carried.fair _ b.2).collecting;
      all = λ k l. offered_run g file p b.0 b.1 k l (carried.every k l) carried.fair _ b.2;
    }

pub demand_3 : Demand3 step
demand_3 g file p x answer cs carried =
    let c = collected g file p x answer cs carried in
    hands g file p c.place c.start _ c.collecting c.all
