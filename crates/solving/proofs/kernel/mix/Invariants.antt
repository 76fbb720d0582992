-- `kernel::mix`: in each of the four words the factors are, after each turn, those of the bits that have been taken (`blended_more`).
-- Assumes nothing.
use Prim.Native.Nat.{◌/◌, ◌^◌}
use Rattle.errata.specs.InnerNull.{Blended}
use Rattle.solving.proofs.kernel.mix.Given as goal

abbrev pub invariant-loop-i : goal.invariant-loop-i
invariant-loop-i l =
    Blended (l.x / 2 ^ l.i) (l.y / 2 ^ l.i) l.v.low l.q.low l.low
    × Blended (l.x / 2 ^ l.i) (l.y / 2 ^ l.i) l.v.high l.q.high l.high
    × Blended (l.x / 2 ^ l.i) (l.y / 2 ^ l.i) l.v.first l.q.first l.first
    × Blended (l.x / 2 ^ l.i) (l.y / 2 ^ l.i) l.v.last l.q.last l.last
