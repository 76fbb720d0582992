-- Of a real time: its bounds, and back. And that no month has more than 31 days.
-- Assumes nothing.
use mathlib.Core.Path.{◌≡◌}
use mathlib.Core.Bool.{Bool, true, false, cond, ◌||◌}
use Prim.Native.Nat.{ℕ, ◌≤◌}
use native.Mathlib.Omega.{arith}
use borrow.Author.Tests.{leb-true, le-leb}
use lib.Dec.{eqb, leb}
use Rattle.std.proofs.lemmas.Bool.{and_parts}
use Rattle.ground.specs.Ranges.{between}
use Rattle.ground.proofs.Truth.{and_join}
use Rattle.ground.proofs.RangeLaws.{between_bounds, bounds_between}
use Rattle.calendar.specs.declared.Time.{Time}
use Rattle.calendar.specs.Calendar.{leap, days_in, real}
use Rattle.calendar.specs.Range.{RealTime}

pub days_most : (y m : ℕ) → days_in y m ≤ 31
unfolding days_in
days_most y m = by (eqb m 2) (leap y) (eqb m 4 || (eqb m 6 || (eqb m 9 || eqb m 11)))
  where
    by : (a b c : Bool) → cond a (cond b 29 28) (cond c 30 31) ≤ 31
    by true true c = omega arith
    by true false c = omega arith
    by false b true = omega arith
    by false b false = omega arith

pub real-range : (t : Time) → real t ≡ true → RealTime t
unfolding real
real-range t e =
    let w = and_parts (between 1 9999 t.year) _ e in
    let x = and_parts (between 1 12 t.month) _ w.1 in
    let y = and_parts (between 1 (days_in t.year t.month) t.day) _ x.1 in
    let z = and_parts (leb t.hour 23) _ y.1 in
    let q = and_parts (leb t.minute 59) (leb t.second 59) z.1 in
    let year = between_bounds 1 9999 t.year w.0 in
    let month = between_bounds 1 12 t.month x.0 in
    let day = between_bounds 1 (days_in t.year t.month) t.day y.0 in
    record {
      year_first = year.0;
      year_last = year.1;
      month_first = month.0;
      month_last = month.1;
      day_first = day.0;
      day_last = day.1;
      hour_last = leb-true t.hour 23 z.0;
      minute_last = leb-true t.minute 59 q.0;
      second_last = leb-true t.second 59 q.1;
    }

pub range-real : (t : Time) → RealTime t → real t ≡ true
unfolding real
range-real t r =
    and_join (bounds_between 1 9999 t.year r.year_first r.year_last)
    (and_join (bounds_between 1 12 t.month r.month_first r.month_last)
    (and_join
    (bounds_between 1 (days_in t.year t.month) t.day r.day_first r.day_last)
    (and_join (le-leb t.hour 23 r.hour_last)
    (and_join (le-leb t.minute 59 r.minute_last) (le-leb t.second 59 r.second_last)))))
