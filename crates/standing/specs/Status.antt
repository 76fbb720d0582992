-- Status: document 01, section 5; by resource and type, document 02, R-1. Refusals in the order 9, 10, 15.
-- Assumes nothing.
use Rattle.std.specs.Prelude.{cond, List, ℕ, length, get_or, Option, Some, None, Result, Ok, Err}
use Rattle.refusals.specs.declared.Refusal.{Refusal}
use Rattle.refusals.specs.declared.Refusal.TheVariants.{Unknown, Slot}
use Rattle.places.specs.declared.Record.{Record}
use Rattle.places.specs.declared.Name.{Name}
use Rattle.places.specs.Places.{unused, good, place_named}
use Rattle.contents.specs.Contents.{Slot as Content, contents, any_wrong, filled, lowest_empty}
use Rattle.standing.specs.declared.Standing.{Standing}

-- by the slots alone
unfoldable pub standing_in : List Content → Result Standing Refusal
standing_in c = cond (any_wrong c) (Err Slot) (Ok (record { filled = filled c; lowest = lowest_empty c 0 }))

abbrev pub status_found : Record → List ℕ → Option ℕ → Result Standing Refusal
status_found h s (Some i) = standing_in (contents (get_or h.places i unused) s)
status_found h s None = Err Unknown

unfoldable pub status_of : Record → List ℕ → Name → Result Standing Refusal
status_of h s x =
    cond (good (length s) h.places) (status_found h s (place_named h.places x)) (Err Refusal.Record)
