-- The example of document 01, section 8, computed: a store of 100 bytes, S 8, count 5, no protection. Two places open at 0 and 50, a
-- third has no start; after the first is closed, a third opens at 0.
-- Assumes nothing.
use mathlib.Core.Path.{◌≡◌, refl}
use mathlib.Core.Bool.{true}
use mathlib.Core.List.{List}
use Prim.Native.Nat.{ℕ}
use lib.ListN.{set}
use Rattle.settings.specs.declared.Settings.{Settings}
use Rattle.settings.specs.Settings.{settings_fit}
use Rattle.places.specs.declared.Place.{Place}
use Rattle.places.specs.declared.Name.{Name}
use Rattle.places.specs.Places.{unused, fresh_record, same_name, cover_of, end_of, meets, place_of, ranges_fit, fits, agree, good, first_from, place_named, first_unused}
use Rattle.places.specs.Room.{clear, free, lowest_from, lowest_start}
use Rattle.std.specs.Prelude.{Option}
use Rattle.std.specs.Prelude.{Some, None}

abbrev asked : ℕ → Settings
asked resource = record { resource = resource; kind = 1; update = 0; protection = 0; rows = 0; size = 8; edition = 2; order = 0 }

abbrev file : ℕ → Name
file resource = record { resource = resource; kind = 1 }

abbrev description : ℕ → Name
description resource = record { resource = resource; kind = 2 }

abbrev one : List Place
one = set fresh_record.places 0 (place_of (asked 7) 5 0)

abbrev two : List Place
two = set one 1 (place_of (asked 9) 5 50)

abbrev closed : List Place
closed = set two 0 unused

abbrev room : List Place → Option ℕ
room ps = lowest_start 100 (cover_of 5 8) ps

opens : (room fresh_record.places ≡ Some 0) × (room one ≡ Some 50) × (room two ≡ None) × (room closed ≡ Some 0)
unfolding lowest_start lowest_from free clear end_of
opens = (refl, refl, refl, refl)

judged : (good 100 two ≡ true) × (good 100 closed ≡ true)
unfolding good fits agree same_name meets ranges_fit settings_fit end_of
judged = (refl, refl)

found : (first_unused two ≡ Some 2) × (first_unused closed ≡ Some 0) × (place_named two (file 9) ≡ Some 1) × (place_named two (description 9) ≡ None) × (place_named closed (file 7) ≡ None)
unfolding first_from same_name
found = (refl, refl, refl, refl, refl)
