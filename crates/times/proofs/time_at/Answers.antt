-- Field by field, two digits each, the year by two pairs.
use Prim.Native.Nat.{◌+◌, ◌*◌}
use Rattle.times.specs.Written.{time_at}
use Rattle.times.proofs.time_at.Goals as goal

pub returns : goal.returns
unfolding time_at
returns c =
    λ i. record {
      year = c.two_at.ensures.0 i * 100 + c.two_at-2.ensures.0 i;
      month = c.two_at-month.ensures.0 i;
      day = c.two_at-day.ensures.0 i;
      hour = c.two_at-hour.ensures.0 i;
      minute = c.two_at-minute.ensures.0 i;
      second = c.two_at-second.ensures.0 i;
    }
