-- The columns are copied m bytes apart. Invariant, `Copying`: the columns from c to x stand before `end`, and the row holds what it held and their bytes; byte j
-- is column x. The measure is how many columns of the row are left.
use Rattle.std.proofs.Common.{◌≡◌, ◌+◌, ◌-◌, ◌*◌, ◌≤◌}
use Rattle.losses.proofs.Walking.{Copying}
use Rattle.losses.proofs.runs.copy_run.Given as goal

abbrev pub invariant-loop-j : goal.invariant-loop-j
invariant-loop-j l =
    record {
      on : l.c ≤ l.x;
      copying : Copying l.first l.m l.d l.end l.store l.c l.initial.row l.row l.x;
      place : l.j ≡ l.first + l.x * l.m;
    }

abbrev pub decreases-loop-j : goal.decreases-loop-j
decreases-loop-j l = 255 - l.x
