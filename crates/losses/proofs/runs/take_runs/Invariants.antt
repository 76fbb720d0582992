-- One run a turn. Invariant: all columns before c are gathered, and k is a number that times the size stays far below 64 bits. The measure is how many columns are left.
use Prim.Native.Nat.{◌-◌}
use Rattle.losses.proofs.Gathering.{Onward}
use Rattle.losses.proofs.runs.take_runs.Given as goal

abbrev pub invariant-loop-c : goal.invariant-loop-c
invariant-loop-c l = Onward l.p l.store l.first l.c l.lost l.k l.row l.at

abbrev pub decreases-loop-c : goal.decreases-loop-c
decreases-loop-c l = 255 - l.c
