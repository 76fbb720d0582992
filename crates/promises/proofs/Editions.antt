-- The two editions (document 02, R-9): what is packed shows its own, a place refuses the other, and so the packets of one are noise at a place of the other.
-- Assumes nothing.
use mathlib.Core.Path.{◌≡◌, refl, sym, ◌∙◌}
use mathlib.Core.Bool.{Bool, true, false}
use mathlib.Core.List.{List, ◌++◌}
use Prim.Native.Nat.{ℕ, ◌<◌}
use lib.ListN.{length}
use Rattle.refusals.specs.declared.Refusal.TheVariants.{Other, Edition}
use Rattle.packet.specs.Edition.{edition_of}
use Rattle.settings.specs.declared.Settings.{Settings}
use Rattle.pack.specs.Pack.{count_of, packet_of}
use Rattle.pack.proofs.Laws.{fields_of, packet_reads, packet_edition}
use Rattle.places.specs.Places.{place_of}
use Rattle.record.specs.Offer.{differs}
use Rattle.record.proofs.OfferCases.{judge-other, judge-edition}
use Rattle.promises.specs.Calls.{step}
use Rattle.promises.specs.Statements.{BringsNoOther, Protected, Fair, AllFair, place_at, ShowsEdition, OwnEdition, DifferentEditions}
use Rattle.promises.proofs.Noise.{refused_is_noise}
use Rattle.promises.proofs.Own.{fair_each, own, own-before, own_behind}
use Rattle.promises.proofs.Slots.{refused-there}

pub shows_edition : ShowsEdition
shows_edition g file n fit few below = (fields_of g file n, packet_reads g file n fit few below, packet_edition g file n fit few below)

pub own-edition : OwnEdition step
own-edition x q f i read h d z = refused-there x q f i Edition read h (judge-edition (place_at x i) f q d z)

-- ---- two files, carried by one list

module _ (g d : Settings) (a b : List ℕ) (p : Protected d b) (z : g.edition ≡ d.edition → ⊥) where
  -- a packet of b is refused at the place of a: as Other if it is of another file, and else as of another edition
  is_noise : (i : ℕ) → i < count_of d (length b) → BringsNoOther g a (packet_of d b i)
  is_noise i below = by (differs (place_of g (count_of g (length a)) 0) (fields_of d b i)) refl
    where
      by : (t : Bool) → differs (place_of g (count_of g (length a)) 0) (fields_of d b i) ≡ t → BringsNoOther g a (packet_of d b i)
      by true e =
          refused_is_noise g a (packet_of d b i) Other false (fields_of d b i) (packet_reads d b i p.fit p.count below)
          (judge-other (place_of g (count_of g (length a)) 0) (fields_of d b i) (packet_of d b i) e)
      by false e =
          refused_is_noise g a (packet_of d b i) Edition false (fields_of d b i) (packet_reads d b i p.fit p.count below)
          (judge-edition (place_of g (count_of g (length a)) 0) (fields_of d b i) (packet_of d b i) e
          (λ (s : edition_of (fields_of d b i) ≡ g.edition). z (sym s ∙ packet_edition d b i p.fit p.count below)))

  noise-fair : AllFair g a (own d b)
  noise-fair = fair_each g a (packet_of d b) (count_of d (length b)) (λ i below. Fair.noise (packet_of d b i) (is_noise i below))

pub different_editions : DifferentEditions
different_editions g d a b pa pb z = (
  own g a ++ own d b,
  own-before g a pa (noise-fair g d a b pb z),
  own_behind d b pb (noise-fair d g b a pa (λ e. z (sym e))),
)
