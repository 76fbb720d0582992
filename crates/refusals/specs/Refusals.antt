-- Each refusal's number and values, and what a verdict tells: document 01, section 6, and document 02, R-4, R-8 and R-9.
-- Assumes nothing.
use Rattle.std.specs.Prelude.{List, [], ◌∷◌, ℕ, get_or, Result, Ok, Err}
use Rattle.refusals.specs.declared.Refusal.{Refusal}
use Rattle.refusals.specs.declared.Refusal.TheVariants.{Short, Mark, Length, «Type», Protection, Number, Rows, Resource, Record, Unknown, Other, Wide, Repair, Crc, Slot, Conflict, Field, Held, Full, Room, Missing, Shape, Size, Padding, Count, Output, Line, Extra, Lost, Code, Edition}

-- the number of a refusal
abbrev pub number_of : Refusal → ℕ
number_of Short = 1
number_of Mark = 2
number_of Length = 3
number_of «Type» = 4
number_of Protection = 5
number_of Number = 6
number_of Rows = 7
number_of Resource = 8
number_of Record = 9
number_of Unknown = 10
number_of Other = 11
number_of Wide = 12
number_of (Repair v) = 13
number_of Crc = 14
number_of Slot = 15
number_of Conflict = 16
number_of Field = 17
number_of Held = 18
number_of Full = 19
number_of Room = 20
number_of (Missing v) = 21
number_of Shape = 22
number_of Size = 23
number_of Padding = 24
number_of Count = 25
number_of Output = 26
number_of (Line v) = 29
number_of Extra = 30
number_of (Lost v) = 31
number_of Code = 32
number_of Edition = 33

-- the values that it returns beside its number: of Repair the first row that has no coded row within eight bytes, of Missing the lowest empty slot, of Line the line that has a fault, of Lost the first row that lacks more than sixteen bytes; the others have none
abbrev pub values_of : Refusal → List ℕ
values_of Short = []
values_of Mark = []
values_of Length = []
values_of «Type» = []
values_of Protection = []
values_of Number = []
values_of Rows = []
values_of Resource = []
values_of Record = []
values_of Unknown = []
values_of Other = []
values_of Wide = []
values_of (Repair v) = v ∷ []
values_of Crc = []
values_of Slot = []
values_of Conflict = []
values_of Field = []
values_of Held = []
values_of Full = []
values_of Room = []
values_of (Missing v) = v ∷ []
values_of Shape = []
values_of Size = []
values_of Padding = []
values_of Count = []
values_of Output = []
values_of (Line v) = v ∷ []
values_of Extra = []
values_of (Lost v) = v ∷ []
values_of Code = []
values_of Edition = []

-- its extra value, 0 where none is named
abbrev pub value_of : Refusal → ℕ
value_of r = get_or (values_of r) 0 0

-- what a call hands over where a verdict accepts, and the verdict's refusal where it does not
abbrev pub answered : {A : Type 0} → Result (Unit {0}) Refusal → A → Result A Refusal
answered (Ok tt) x = Ok x
answered (Err r) x = Err r
