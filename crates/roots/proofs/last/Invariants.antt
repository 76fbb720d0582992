-- `roots::last` goes down from the last coefficient while it meets zeros.
-- Assumes nothing.
use mathlib.Core.Path.{◌≡◌}
use Prim.Native.Nat.{ℕ, ◌≤◌}
use lib.ListN.{get_or}
use Rattle.roots.proofs.last.Given as goal

abbrev pub invariant-loop-top : goal.invariant-loop-top
invariant-loop-top l = (m : ℕ) → l.top ≤ m → get_or l.v m 0 ≡ 0
