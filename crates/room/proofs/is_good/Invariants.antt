-- `room::is_good` meets its contract: at every turn what is left of the places gives the same answer. An unused place fits and agrees with all.
-- Assumes nothing.
use mathlib.Core.Path.{◌≡◌}
use lib.ListN.{drop}
use Rattle.places.specs.Places.{good}
use Rattle.room.proofs.is_good.Given as goal

abbrev pub invariant-loop-i : goal.invariant-loop-i
invariant-loop-i l = good l.n (drop l.i l.fn.held.places) ≡ good l.n l.fn.held.places
