-- Open and Close: document 01, section 5; by resource and type, document 02, R-1. Refusals in the orders 9, 17, 18, 19, 20 and 9, 10.
-- Assumes nothing.
use Rattle.std.specs.Prelude.{◌≡◌, cond, not, ◌&&◌, List, ℕ, ◌+◌, length, set, Option, Some, None, Result, Ok, Err}
use Rattle.refusals.specs.declared.Refusal.{Refusal}
use Rattle.refusals.specs.declared.Refusal.TheVariants.{Unknown, Field, Held, Full, Room}
use Rattle.refusals.specs.Refusals.{answered}
use Rattle.settings.specs.declared.Settings.{Settings}
use Rattle.settings.specs.Settings.{settings_fit}
use Rattle.places.specs.declared.Record.{Record}
use Rattle.places.specs.declared.Name.{Name}
use Rattle.places.specs.Places.{settings_name, unused, cover_of, place_of, count_fits, good, place_named, first_unused}
use Rattle.places.specs.Room.{lowest_start}
use Rattle.contents.specs.Slots.{cleared}

-- ---- open

-- what open comes to: a refusal, or a place of the record and a start in the store
pub data Plan : Type 0 where
  refuse : Refusal → Plan
  take : ℕ → ℕ → Plan

abbrev pub with_start : ℕ → Option ℕ → Plan
with_start i (Some start) = take i start
with_start i None = refuse Room

abbrev pub with_unused : Record → ℕ → ℕ → Option ℕ → Plan
with_unused h n size (Some i) = with_start i (lowest_start n size h.places)
with_unused h n size None = refuse Full

abbrev pub with_holder : Record → ℕ → ℕ → Option ℕ → Plan
with_holder h n size (Some i) = refuse Held
with_holder h n size None = with_unused h n size (first_unused h.places)

-- n is the store's length
unfoldable pub plan_of : Record → ℕ → Settings → ℕ → Plan
plan_of h n g count =
    cond (not (good n h.places)) (refuse Refusal.Record)
    (cond (not (settings_fit g && count_fits count)) (refuse Field)
    (with_holder h n (cover_of count g.size) (place_named h.places (settings_name g))))

-- the record after open or close, and what is answered; beside a refusal the record is as it came
pub record Kept : Type 0 where
  pub «record» : Record
  pub verdict : Result (Unit {0}) Refusal

-- as one result, whose caller holds the record that came
abbrev pub renewed : Kept → Result Record Refusal
renewed k = answered k.verdict k.«record»

-- what is answered with the record, and what the store then holds
pub record Opening : Type 0 where
  pub kept : Kept
  pub store : List ℕ

abbrev pub carried_out : Record → List ℕ → Settings → ℕ → Plan → Opening
carried_out h s g count (refuse r) = record { kept = record { «record» = h; verdict = Err r }; store = s }
carried_out h s g count (take i start) = record {
  kept = record { «record» = record { places = set h.places i (place_of g count start) }; verdict = Ok tt };
  store = cleared s start count (g.size + 2);
}

unfoldable pub open_of : Record → List ℕ → Settings → ℕ → Opening
open_of h s g count = carried_out h s g count (plan_of h (length s) g count)

-- a result of open and the store at its exit
pub record Opens (h : Record) (s : List ℕ) (g : Settings) (count : ℕ) (kept : Result Record Refusal) (store : List ℕ) : Type 0 where
  pub answers : kept ≡ renewed (open_of h s g count).kept
  pub leaves : store ≡ (open_of h s g count).store

-- ---- close

abbrev pub closed_at : Record → Option ℕ → Kept
closed_at h (Some i) = record { «record» = record { places = set h.places i unused }; verdict = Ok tt }
closed_at h None = record { «record» = h; verdict = Err Unknown }

unfoldable pub close_of : Record → List ℕ → Name → Kept
close_of h s x =
    cond (not (good (length s) h.places)) (record { «record» = h; verdict = Err Refusal.Record })
    (closed_at h (place_named h.places x))
