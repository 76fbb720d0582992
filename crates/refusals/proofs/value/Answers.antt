-- `refusals::value` meets its contract: the four refusals that carry a value give it, and the rest, told by their tags, give 0.
-- Assumes nothing.
use native.Mathlib.Omega.{arith}
use mathlib.Core.Path.{◌≡◌, refl}
use mathlib.Core.List.{List, [], ◌∷◌}
use Prim.Native.Nat.{ℕ}
use types.Run.{OneOf, miss}
use denote.Enum.Declared.{tag_of}
use Rattle.refusals.specs.declared.Refusal.{Refusal}
use Rattle.refusals.specs.contracts.Refusal.{the_type}
use Rattle.refusals.specs.declared.Refusal.TheVariants.{Short, Mark, Length, «Type», Protection, Number, Rows, Resource, Record, Unknown, Other, Wide, Repair, Crc, Slot, Conflict, Field, Held, Full, Room, Missing, Shape, Size, Padding, Count, Output, Line, Extra, Lost, Code, Edition}
use Rattle.refusals.specs.Refusals.{value_of}
use Rattle.refusals.proofs.value.Goals as goal

abbrev bare : List ℕ
bare = 0 ∷ 1 ∷ 2 ∷ 3 ∷ 4 ∷ 5 ∷ 6 ∷ 7 ∷ 8 ∷ 9 ∷ 10 ∷ 11 ∷ 13 ∷ 14 ∷ 15 ∷ 16 ∷ 17 ∷ 18 ∷ 19 ∷ 21 ∷ 22 ∷ 23 ∷ 24 ∷ 25 ∷ 27 ∷ 29 ∷ 30 ∷ []

of_bare : (r : Refusal) → OneOf bare (tag_of the_type r) → 0 ≡ value_of r
of_bare Short k = refl
of_bare Mark k = refl
of_bare Length k = refl
of_bare «Type» k = refl
of_bare Protection k = refl
of_bare Number k = refl
of_bare Rows k = refl
of_bare Resource k = refl
of_bare Record k = refl
of_bare Unknown k = refl
of_bare Other k = refl
of_bare Wide k = refl
of_bare (Repair v) k = absurd (miss bare 12 tt k)
of_bare Crc k = refl
of_bare Slot k = refl
of_bare Conflict k = refl
of_bare Field k = refl
of_bare Held k = refl
of_bare Full k = refl
of_bare Room k = refl
of_bare (Missing v) k = absurd (miss bare 20 tt k)
of_bare Shape k = refl
of_bare Size k = refl
of_bare Padding k = refl
of_bare Count k = refl
of_bare Output k = refl
of_bare (Line v) k = absurd (miss bare 26 tt k)
of_bare Extra k = refl
of_bare (Lost v) k = absurd (miss bare 28 tt k)
of_bare Code k = refl
of_bare Edition k = refl

pub enum_known-r : goal.enum_known-r
enum_known-r c = omega arith

pub enum_known-r-in-Missing-1 : goal.enum_known-r-in-Missing-1
enum_known-r-in-Missing-1 c = omega arith

pub enum_known-r-in-Line-1 : goal.enum_known-r-in-Line-1
enum_known-r-in-Line-1 c = omega arith

pub enum_known-r-in-Lost-1 : goal.enum_known-r-in-Lost-1
enum_known-r-in-Lost-1 c = omega arith
