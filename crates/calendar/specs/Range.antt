-- A real time as plain bounds: what a crate above may know of one.
-- Assumes nothing.
use Rattle.std.specs.Prelude.{◌≤◌}
use Rattle.calendar.specs.declared.Time.{Time}
use Rattle.calendar.specs.Calendar.{days_in}

pub record RealTime (t : Time) : Type 0 where
  pub year_first : 1 ≤ t.year
  pub year_last : t.year ≤ 9999
  pub month_first : 1 ≤ t.month
  pub month_last : t.month ≤ 12
  pub day_first : 1 ≤ t.day
  pub day_last : t.day ≤ days_in t.year t.month
  pub hour_last : t.hour ≤ 23
  pub minute_last : t.minute ≤ 59
  pub second_last : t.second ≤ 59
