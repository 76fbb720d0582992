-- What an offer comes to by the place that a packet's own bytes name, before its fields are read: document 01, section 5; document 02, R-8.
-- Assumes nothing.
use mathlib.Core.Path.{◌≡◌, refl, sym, ap, ◌∙◌}
use mathlib.Core.Bool.{Bool, true, not}
use mathlib.Core.List.{List}
use Prim.Native.Nat.{ℕ, ◌<◌}
use borrow.Author.Tests.{lt-ltb}
use lib.Dec.{eqb}
use lib.ListN.{length, get_or}
use Rattle.refusals.specs.declared.Refusal.{Refusal}
use Rattle.refusals.specs.declared.Refusal.TheVariants.{Short}
use Rattle.packet.specs.declared.Packet.{Packet}
use Rattle.packet.specs.Packet.{read_by, read_of}
use Rattle.places.specs.declared.Record.{Record}
use Rattle.places.specs.Places.{unused, good, place_named}
use Rattle.record.specs.declared.Offered.{Offered}
use Rattle.record.specs.Offer.{packet_name, name_in, in_columns, read_for, judge, offer_judged, offer_of}
use Rattle.record.specs.InnerOffer.{nowhere}
use Rattle.record.proofs.OfferCases.{said, offer_unread, offer_unknown, offer-placed}
use Rattle.record.proofs.OfferFacts.{read_name}
use Rattle.std.specs.Prelude.{Result}
use Rattle.std.specs.Prelude.{Option}
use Rattle.std.specs.Prelude.{Ok, Err}
use Rattle.std.specs.Prelude.{Some, None}

-- how it is read, by the place that was found
pub read_found : (h : Record) (q : List ℕ) (w : Option ℕ) → place_named h.places (name_in q) ≡ w → read_for h q ≡ read_by (not (in_columns h.places w)) q
unfolding read_for
read_found h q w e = ap (λ (x : Option ℕ). read_by (not (in_columns h.places x)) q) e

-- too short a packet is read in no way
read_short : (rows : Bool) (q : List ℕ) → length q < 19 → read_by rows q ≡ Err Short
unfolding read_by
read_short rows q l = rw (lt-ltb (length q) 19 l)

module _ (h : Record) (s q : List ℕ) (g : good (length s) h.places ≡ true) where
  pub offer-short : length q < 19 → offer_of h s q ≡ said (Err Short) s
  offer-short l = offer_unread h s q g Short (read_found h q (place_named h.places (name_in q)) refl ∙ read_short _ q l)

  -- no place holds what it names
  pub offer-nowhere : place_named h.places (name_in q) ≡ None → (a : Result Offered Refusal) → a ≡ nowhere (read_of q) → offer_of h s q ≡ said a s
  offer-nowhere w a e = by (read_of q) refl ∙ ap (λ (x : Result Offered Refusal). said x s) (sym e)
    where
      by : (x : Result Packet Refusal) → read_of q ≡ x → offer_of h s q ≡ said (nowhere (read_of q)) s
      by (Err r) z =
          offer_unread h s q g r (read_found h q None w ∙ z) ∙ ap (λ (x : Result Packet Refusal). said (nowhere x) s) (sym z)
      by (Ok f) z =
          let read : read_for h q ≡ Ok f = read_found h q None w ∙ z in
          offer_unknown h s q g f read (ap (place_named h.places) (read_name h q f read) ∙ w) ∙ ap (λ (x : Result Packet Refusal). said (nowhere x) s) (sym z)

  -- place i holds it
  module _ (i : ℕ) (w : place_named h.places (name_in q) ≡ Some i) where
    pub offer_unread_at : (r : Refusal) → read_by (not (eqb (get_or h.places i unused).order 1)) q ≡ Err r → offer_of h s q ≡ said (Err r) s
    offer_unread_at r e = offer_unread h s q g r (read_found h q (Some i) w ∙ e)

    module _ (f : Packet) (e : read_by (not (eqb (get_or h.places i unused).order 1)) q ≡ Ok f) where
      pub named-at : packet_name f ≡ name_in q
      named-at = read_name h q f (read_found h q (Some i) w ∙ e)

      pub offer-read-at : offer_of h s q ≡ offer_judged (get_or h.places i unused) s (judge (get_or h.places i unused) f q)
      offer-read-at = offer-placed h s q g f (read_found h q (Some i) w ∙ e) i (ap (place_named h.places) named-at ∙ w)
