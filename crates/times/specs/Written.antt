-- How a time is written: document 02, R-4, and source document 001, section 7.2, yyyy.mm.dd/hh:mm:ss.
-- Assumes nothing.
use Rattle.std.specs.Prelude.{Bool, true, false, cond, ◌&&◌, List, [], ◌∷◌, ◌++◌, ℕ, ◌+◌, ◌-◌, ◌*◌, ◌/◌, ◌%◌, eqb, get_or}
use Rattle.ground.specs.Ranges.{is_digit}
use Rattle.calendar.specs.declared.Time.{Time}
use Rattle.calendar.specs.Calendar.{real}

-- two digits
abbrev pub two : ℕ → List ℕ
two n = (n / 10 % 10 + 48) ∷ (n % 10 + 48) ∷ []

-- a full stop is 46, a slash 47, a colon 58
unfoldable pub time_text : Time → List ℕ
time_text t =
    two (t.year / 100) ++ (two (t.year % 100) ++ (46 ∷ (two t.month ++ (46 ∷ (two t.day
    ++ (47 ∷ (two t.hour ++ (58 ∷ (two t.minute ++ (58 ∷ two t.second))))))))))

-- yyyy.mm.dd/hh:mm:ss with 0 where a digit stands
abbrev pub form : List ℕ
form = 0 ∷ 0 ∷ 0 ∷ 0 ∷ 46 ∷ 0 ∷ 0 ∷ 46 ∷ 0 ∷ 0 ∷ 47 ∷ 0 ∷ 0 ∷ 58 ∷ 0 ∷ 0 ∷ 58 ∷ 0 ∷ 0 ∷ []

-- bytes of that form
abbrev pub formed : List ℕ → List ℕ → Bool
formed [] [] = true
formed [] (b ∷ v) = false
formed (f ∷ fs) [] = false
formed (f ∷ fs) (b ∷ v) = cond (eqb f 0) (is_digit b) (eqb b f) && formed fs v

-- the number of the two digits at i
abbrev pub two_at : List ℕ → ℕ → ℕ
two_at v i = (get_or v i 0 - 48) * 10 + (get_or v (i + 1) 0 - 48)

-- the time of bytes of that form
unfoldable pub time_at : List ℕ → Time
time_at v = record {
  year = two_at v 0 * 100 + two_at v 2;
  month = two_at v 5;
  day = two_at v 8;
  hour = two_at v 11;
  minute = two_at v 14;
  second = two_at v 17;
}

-- stands for a value that writes no real time
abbrev pub wrong_time : Time
wrong_time = record { year = 0; month = 1; day = 0; hour = 0; minute = 0; second = 0 }

-- the real time that a value writes
unfoldable pub time_in : List ℕ → Time
time_in v = cond (formed form v && real (time_at v)) (time_at v) wrong_time
