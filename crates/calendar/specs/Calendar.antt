-- Real Gregorian dates with a time of day: document 02, R-4, 'year 0001 on, seconds to 59'. And which of two comes first.
-- Assumes nothing.
use Rattle.std.specs.Prelude.{Bool, true, false, cond, not, ◌&&◌, ◌||◌, List, [], ◌∷◌, ℕ, ◌%◌, eqb, leb, ltb}
use Rattle.ground.specs.Ranges.{between}
use Rattle.slices.specs.Slices.{same}
use Rattle.calendar.specs.declared.Time.{Time}

-- every fourth year, of the centuries every fourth
unfoldable pub leap : ℕ → Bool
leap year = eqb (year % 4) 0 && (not (eqb (year % 100) 0) || eqb (year % 400) 0)

-- the days of a month
unfoldable pub days_in : ℕ → ℕ → ℕ
days_in year month =
    cond (eqb month 2) (cond (leap year) 29 28)
    (cond (eqb month 4 || (eqb month 6 || (eqb month 9 || eqb month 11))) 30 31)

-- a date of the calendar, of four digits, and a time of day
unfoldable pub real : Time → Bool
real t =
    between 1 9999 t.year && (between 1 12 t.month && (between 1 (days_in t.year t.month) t.day
    && (leb t.hour 23 && (leb t.minute 59 && leb t.second 59))))

-- year, month, day, hour, minute, second
abbrev pub fields : Time → List ℕ
fields t = t.year ∷ t.month ∷ t.day ∷ t.hour ∷ t.minute ∷ t.second ∷ []

-- a time that is not given is told by zeros, which are no date
abbrev pub no_time : Time
no_time = record { year = 0; month = 0; day = 0; hour = 0; minute = 0; second = 0 }

abbrev pub not_given : Time → Bool
not_given t = same (fields t) (fields no_time)

-- the first field in which two differ decides; the same are not after each other
abbrev pub not_after_by : List ℕ → List ℕ → Bool
not_after_by [] b = true
not_after_by (x ∷ a) [] = false
not_after_by (x ∷ a) (y ∷ b) = cond (eqb x y) (not_after_by a b) (ltb x y)

unfoldable pub not_after : Time → Time → Bool
not_after a b = not_after_by (fields a) (fields b)
