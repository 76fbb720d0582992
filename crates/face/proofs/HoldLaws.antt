-- What the calls on a record say through the face: of bytes that are no record 9; else what the call on the record in them says, its record as bytes again.
-- Assumes nothing.
use mathlib.Core.Path.{◌≡◌, ap, ◌∙◌}
use mathlib.Core.Bool.{true, false}
use mathlib.Core.List.{List}
use Prim.Native.Nat.{ℕ}
use borrow.Author.Tests.{eq-eqb, ne_eqb}
use lib.Dec.{eqb}
use lib.ListN.{length}
use Rattle.settings.specs.declared.Settings.{Settings}
use Rattle.places.specs.declared.Record.{Record}
use Rattle.places.specs.declared.Name.{Name}
use Rattle.record.specs.declared.Offered.{Offered}
use Rattle.opening.specs.Open.{open_of, close_of}
use Rattle.refusals.specs.Told.{verdict_told}
use Rattle.record.specs.Offer.{offer_of}
use Rattle.record.specs.Told.{offered_told}
use Rattle.handing.specs.Hand.{hand_out_of}
use Rattle.holding.specs.Layout.{record_length, record_in, record_bytes}
use Rattle.face.specs.Face.{answer_of, Says, Keeps, bad_record, open_says, close_says, offer_says, hand_says}
use Rattle.refusals.specs.declared.Refusal.{Refusal}
use Rattle.std.specs.Prelude.{Result}

module _ (h s : List ℕ) where
  module _ (g : Settings) (count : ℕ) (r : ℕ) where
    pub open_bad : (length h ≡ record_length → ⊥) → r ≡ bad_record → Keeps (open_says h s g count) r h s
    unfolding open_says
    open_bad d e =
        let t : eqb (length h) record_length ≡ false = ne_eqb (length h) record_length d in
        record { answers = rw t e; holds = rw t; leaves = rw t }

    pub open_says_lem : (held : Record) (h' s' : List ℕ) → length h ≡ record_length → held ≡ record_in h → s' ≡ (open_of held s g count).store
        → h' ≡ record_bytes (open_of held s g count).kept.«record» → r ≡ answer_of (verdict_told (open_of held s g count).kept.verdict) → Keeps (open_says h s g count) r h' s'
    unfolding open_says
    open_says_lem held h' s' n e o b a =
        let t : eqb (length h) record_length ≡ true = eq-eqb (length h) record_length n in
        record {
          answers = rw t (a ∙ ap (λ (y : Record). answer_of (verdict_told (open_of y s g count).kept.verdict)) e);
          holds = rw t (b ∙ ap (λ (y : Record). record_bytes (open_of y s g count).kept.«record») e);
          leaves = rw t (o ∙ ap (λ (y : Record). (open_of y s g count).store) e);
        }

  module _ (x : Name) (r : ℕ) where
    pub close_bad : (length h ≡ record_length → ⊥) → r ≡ bad_record → Keeps (close_says h s x) r h s
    unfolding close_says
    close_bad d e =
        let t : eqb (length h) record_length ≡ false = ne_eqb (length h) record_length d in
        record { answers = rw t e; holds = rw t; leaves = rw t }

    pub close_says_lem : (held : Record) (h' : List ℕ) → length h ≡ record_length → held ≡ record_in h
        → h' ≡ record_bytes (close_of held s x).«record» → r ≡ answer_of (verdict_told (close_of held s x).verdict) → Keeps (close_says h s x) r h' s
    unfolding close_says
    close_says_lem held h' n e b a =
        let t : eqb (length h) record_length ≡ true = eq-eqb (length h) record_length n in
        record {
          answers = rw t (a ∙ ap (λ (y : Record). answer_of (verdict_told (close_of y s x).verdict)) e);
          holds = rw t (b ∙ ap (λ (y : Record). record_bytes (close_of y s x).«record») e);
          leaves = rw t;
        }

  module _ (q : List ℕ) (r : ℕ) where
    pub offer_bad : (length h ≡ record_length → ⊥) → r ≡ bad_record → Keeps (offer_says h s q) r h s
    unfolding offer_says
    offer_bad d e =
        let t : eqb (length h) record_length ≡ false = ne_eqb (length h) record_length d in
        record { answers = rw t e; holds = rw t; leaves = rw t }

    pub offer_says_lem : (held : Record) (o : Result Offered Refusal) (s' : List ℕ) → length h ≡ record_length → held ≡ record_in h → o ≡ (offer_of held s q).answer → s' ≡ (offer_of held s q).store
        → r ≡ answer_of (offered_told o) → Keeps (offer_says h s q) r h s'
    unfolding offer_says
    offer_says_lem held o s' n e a l d =
        let t : eqb (length h) record_length ≡ true = eq-eqb (length h) record_length n in
        record {
          answers = rw t (d ∙ ap (λ (y : Result Offered Refusal). answer_of (offered_told y)) (a ∙ ap (λ (y : Record). (offer_of y s q).answer) e));
          holds = rw t;
          leaves = rw t (l ∙ ap (λ (y : Record). (offer_of y s q).store) e);
        }

  module _ (x : Name) (n : ℕ) (out : List ℕ) (r : ℕ) where
    pub hand_bad : (length h ≡ record_length → ⊥) → r ≡ bad_record → Says (hand_says h s x n out) r out
    unfolding hand_says
    hand_bad d e = let t : eqb (length h) record_length ≡ false = ne_eqb (length h) record_length d in record { answers = rw t e; leaves = rw t }

    pub hand_says_lem : (held : Record) (v : Result (Unit {0}) Refusal) (out' : List ℕ) → length h ≡ record_length → held ≡ record_in h → v ≡ (hand_out_of held s x n out).answer
        → out' ≡ (hand_out_of held s x n out).output → r ≡ answer_of (verdict_told v) → Says (hand_says h s x n out) r out'
    unfolding hand_says
    hand_says_lem held v out' k e a l d =
        let t : eqb (length h) record_length ≡ true = eq-eqb (length h) record_length k in
        record {
          answers = rw t (d ∙ ap (λ (y : Result (Unit {0}) Refusal). answer_of (verdict_told y)) (a ∙ ap (λ (y : Record). (hand_out_of y s x n out).answer) e));
          leaves = rw t (l ∙ ap (λ (y : Record). (hand_out_of y s x n out).output) e);
        }
