-- `pack::put_coded` meets its contract: each turn writes a run of rows behind those that stand already. The invariant: `done` rows are written.
-- The measure is what is left of the count. Assumes nothing.
use mathlib.Core.Path.{◌≡◌}
use Prim.Native.Nat.{◌-◌, ◌≤◌}
use lib.Seq.{sets}
use Rattle.pack.specs.Inner.{coded_rows}
use Rattle.pack.proofs.put_coded.Given as goal

abbrev pub invariant-loop-done : goal.invariant-loop-done
invariant-loop-done l = (l.done ≤ l.count) × (l.out ≡ sets l.initial.out 0 (coded_rows l.file l.m l.first l.done))

abbrev pub decreases-loop-done : goal.decreases-loop-done
decreases-loop-done l = l.count - l.done
