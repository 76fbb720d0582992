-- A good record stays good when a place is opened in it: document 01, section 5, Open.
-- Assumes nothing.
use mathlib.Core.Path.{◌≡◌, refl, sym, ◌∙◌}
use mathlib.Core.Logic.{⊎_elim}
use mathlib.Core.Bool.{Bool, true, false, cond, not, ◌&&◌, ◌||◌}
use mathlib.Core.List.{List}
use Prim.Native.Nat.{ℕ, ◌+◌, ◌<◌, ◌≤◌}
use native.Mathlib.Omega.{arith}
use borrow.Author.Tests.{le-leb, eq-eqb}
use lib.Dec.{eqb, leb}
use lib.ListN.{get_or, set, get_or-replicate}
use Rattle.std.proofs.lemmas.Bool.{false_from_ne_true}
use Rattle.settings.specs.declared.Settings.{Settings}
use Rattle.settings.specs.Settings.{settings_fit}
use Rattle.settings.proofs.Laws.{settings_facts}
use Rattle.places.specs.declared.Place.{Place}
use Rattle.places.specs.Places.{unused, fresh_record, in_use, place_name, settings_name, names, usable, cover_of, end_of, settings_in, place_of, count_fits, ranges_fit, fits, agree, good, place_named}
use Rattle.places.specs.Room.{clear, free, lowest_start}
use Rattle.ground.proofs.Truth.{differ, and_join, or_right}
use Rattle.places.proofs.Named.{in_use_lem, names-yes}
use Rattle.places.proofs.Agreeing.{agree_right, agree-before, agree-behind}
use Rattle.places.proofs.Keeping.{good-set}
use Rattle.places.proofs.Holders.{missing_names}
use Rattle.places.proofs.Starts.{clear_apart, free_is, is_free, lowest-free, none-lowest}
use Rattle.places.proofs.Candidates.{lowest_zero}
use Rattle.std.specs.Prelude.{Some, None}

-- ---- the new place fits

held-judged : (b : Bool) (m : ℕ) → (b || (leb 1 (cond b 0 m) && leb (cond b 0 m) 255)) ≡ (b || (leb 1 m && leb m 255))
held-judged true m = refl
held-judged false m = refl

held_twice : (b : Bool) (m : ℕ) → cond b 0 m ≡ cond b 0 (cond b 0 m)
held_twice true m = refl
held_twice false m = refl

module _ (g : Settings) (count start : ℕ) where
  -- the settings that it holds are judged as those asked for
  pub placed_settings : settings_fit (settings_in (place_of g count start)) ≡ settings_fit g
  unfolding settings_fit
  placed_settings = rw (held-judged (eqb g.protection 0) g.rows)

  pub placed_ranges : settings_fit g ≡ true → count_fits count ≡ true → ranges_fit (place_of g count start) ≡ true
  unfolding ranges_fit
  placed_ranges s k =
      and_join (placed_settings ∙ s) (and_join (eq-eqb _ _ (held_twice (eqb g.protection 0) g.rows)) k)

  -- its bytes are those asked for
  pub placed_end : end_of (place_of g count start) ≡ start + cover_of count g.size
  unfolding end_of
  placed_end = refl

  pub placed-fits : (n : ℕ) → settings_fit g ≡ true → count_fits count ≡ true → start + cover_of count g.size ≤ usable n → fits n (place_of g count start) ≡ true
  unfolding fits
  placed-fits n s k h =
      or_right (not (in_use (place_of g count start))) (and_join (placed_ranges s k) (le-leb (end_of (place_of g count start)) (usable n) (rw placed_end h)))

  -- ---- and agrees with every other

  pub placed-agrees : (q : Place) → (g.resource ≡ 0 → ⊥) → names q (settings_name g) ≡ false → clear start (cover_of count g.size) q ≡ true → agree (place_of g count start) q ≡ true
  placed-agrees q r d c = by (in_use q) refl
    where
      by : (b : Bool) → in_use q ≡ b → agree (place_of g count start) q ≡ true
      by false u = agree_right (place_of g count start) q u
      by true u =
          let p = place_of g count start in
          let d' : place_name p ≡ place_name q → ⊥ = λ z. differ (sym (names-yes q (settings_name g) r (sym z)) ∙ d) in
          ⊎_elim
          (λ h. agree-behind p q (in_use_lem p r) u d' h)
          (λ h. agree-before p q (in_use_lem p r) u d' (rw placed_end h))
          (clear_apart start (cover_of count g.size) q u c)

-- a resource that fits is not 0
settings_resource : (g : Settings) → settings_fit g ≡ true → g.resource ≡ 0 → ⊥
settings_resource g s z = omega (arith, (settings_facts g s).resource)

-- a good record stays good where a place of a name that no place holds is set on free bytes
module _ (n : ℕ) (ps : List Place) (g : Settings) (count start i : ℕ) (s : settings_fit g ≡ true) (k : count_fits count ≡ true) (m : place_named ps (settings_name g) ≡ None) (h : good n ps ≡ true) where
  pub placed-good : free n (cover_of count g.size) ps start ≡ true → good n (set ps i (place_of g count start)) ≡ true
  placed-good f =
      let r = free_is n (cover_of count g.size) ps start f in
      good-set n ps i (place_of g count start) h (placed-fits g count start n s k r.ends)
      (λ j l d. placed-agrees g count start (get_or ps j unused) (settings_resource g s) (missing_names ps (settings_name g) m j l) (r.clears j l))

  -- as Open does, at the lowest start
  pub opened-good : lowest_start n (cover_of count g.size) ps ≡ Some start → good n (set ps i (place_of g count start)) ≡ true
  opened-good e = placed-good (lowest-free n (cover_of count g.size) ps start e)

-- over a fresh record any size that fits the store starts at 0, and no other has a start
pub fresh-clear : (s size : ℕ) (i : ℕ) → i < 8 → clear s size (get_or fresh_record.places i unused) ≡ true
unfolding clear
fresh-clear s size i h = rw (get_or-replicate 8 i unused unused h)

pub fresh-lowest : (n size : ℕ) → size ≤ usable n → lowest_start n size fresh_record.places ≡ Some 0
fresh-lowest n size h =
    lowest_zero n size fresh_record.places
    (is_free n size fresh_record.places 0 (record { ends = omega arith; clears = fresh-clear 0 size }))

pub fresh-nowhere : (n size : ℕ) → usable n < size → lowest_start n size fresh_record.places ≡ None
fresh-nowhere n size h =
    none-lowest n size fresh_record.places
    (λ s. false_from_ne_true (free n size fresh_record.places s) (λ f. absurd (omega (arith, (free_is n size fresh_record.places s f).ends))))
