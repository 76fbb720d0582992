-- Each turn clears one slot. Invariant: clearing the slots that are left gives what clearing all of them in the store as it came gives.
use mathlib.Core.Path.{◌≡◌}
use Prim.Native.Nat.{◌+◌, ◌-◌, ◌*◌}
use Rattle.contents.specs.Slots.{cleared}
use Rattle.opening.proofs.clear_slots.Given as goal

abbrev pub invariant-loop-k : goal.invariant-loop-k
invariant-loop-k l = cleared l.store (l.start + l.k * l.width) (l.count - l.k) l.width ≡ cleared l.initial.store l.start l.count l.width
