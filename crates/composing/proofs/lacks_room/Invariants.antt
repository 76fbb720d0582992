-- Each line's bytes are taken from the room as long as they are there. Invariant: what is left of the room lacks for the lines that are left as the room does for all.
use mathlib.Core.Path.{◌≡◌}
use Prim.Native.Nat.{◌+◌}
use lib.ListN.{drop}
use Rattle.composing.specs.Inner.{pieces, size_by}
use Rattle.composing.proofs.lacks_room.Given as goal

abbrev pub invariant-loop-k : goal.invariant-loop-k
invariant-loop-k l = l.left + size_by (pieces l.d) ≡ l.room + size_by (drop l.k (pieces l.d))
