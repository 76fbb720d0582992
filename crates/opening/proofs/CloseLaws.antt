-- What close does: the place that holds the resource and type becomes unused, and every other place stays as it was. The store is only read, so its contents stay too.
-- Assumes nothing.
use mathlib.Core.Path.{◌≡◌, refl, sym, ap, ◌∙◌}
use mathlib.Core.Bool.{true, false}
use mathlib.Core.List.{List}
use Prim.Native.Nat.{ℕ, ◌<◌}
use lib.ListN.{length, get_or, set}
use lib.Seq.{get_or-set_same, get_or-set_other}
use Rattle.refusals.specs.declared.Refusal.{Refusal}
use Rattle.refusals.specs.declared.Refusal.TheVariants.{Unknown}
use Rattle.places.specs.declared.Place.{Place}
use Rattle.places.specs.declared.Record.{Record}
use Rattle.places.specs.declared.Name.{Name}
use Rattle.places.specs.Places.{unused, good, place_named}
use Rattle.places.proofs.Holders.{found-names, named-gone, named-left}
use Rattle.places.proofs.Keeping.{good_unset}
use Rattle.opening.specs.Open.{closed_at, close_of}
use Rattle.std.specs.Prelude.{Option}
use Rattle.std.specs.Prelude.{Ok, Err}
use Rattle.std.specs.Prelude.{Some, None}

-- ---- case by case, in the order 9, 10

module _ (h : Record) (s : List ℕ) (x : Name) where
  pub close-record : good (length s) h.places ≡ false → close_of h s x ≡ record { «record» = h; verdict = Err Refusal.Record }
  unfolding close_of
  close-record b = rw b

  module _ (b : good (length s) h.places ≡ true) where
    close-good : close_of h s x ≡ closed_at h (place_named h.places x)
    unfolding close_of
    close-good = rw b

    pub close_unknown : place_named h.places x ≡ None → close_of h s x ≡ record { «record» = h; verdict = Err Unknown }
    close_unknown a = close-good ∙ ap (closed_at h) a

    pub close-found : (i : ℕ) → place_named h.places x ≡ Some i
        → close_of h s x ≡ record { «record» = record { places = set h.places i unused }; verdict = (Ok tt) }
    close-found i a = close-good ∙ ap (closed_at h) a

-- ---- an accepted close of place i

module _ (ps : List Place) (x : Name) (i : ℕ) (a : place_named ps x ≡ Some i) where
  pub close-below : i < length ps
  close-below = (found-names ps x i a).0

  pub close-own : get_or (set ps i unused) i unused ≡ unused
  close-own = get_or-set_same ps i unused unused close-below

  pub close-others : (j : ℕ) → (j ≡ i → ⊥) → get_or (set ps i unused) j unused ≡ get_or ps j unused
  close-others j d = get_or-set_other ps i j unused unused d

  -- every other is found where it was
  pub close-named-other : (r : Name) → (x ≡ r → ⊥) → place_named (set ps i unused) r ≡ place_named ps r
  close-named-other r d = named-left ps x r i a (λ e. d (sym e))

  module _ (n : ℕ) (b : good n ps ≡ true) where
    -- this one no more
    pub close-named : place_named (set ps i unused) x ≡ None
    close-named = named-gone ps n x i b a

    -- the record stays good
    pub close_keeps : good n (set ps i unused) ≡ true
    close_keeps = good_unset n ps i b

-- ---- whatever is answered, a good record stays good

pub close_keeps_good : (h : Record) (s : List ℕ) (x : Name) → good (length s) h.places ≡ true → good (length s) (close_of h s x).«record».places ≡ true
close_keeps_good h s x b = by (place_named h.places x) refl
  where
    by : (f : Option ℕ) → place_named h.places x ≡ f → good (length s) (close_of h s x).«record».places ≡ true
    by (Some i) a = rw (close-found h s x b i a) (close_keeps h.places x i a (length s) b)
    by None a = rw (close_unknown h s x b a) b
