-- `values::locate` puts one locator after the other below those before it, the last one first.
-- Assumes nothing.
use Rattle.solving.proofs.Places.{Locating}
use Rattle.solving.proofs.values.locate.Given as goal

abbrev pub invariant-loop-m : goal.invariant-loop-m
invariant-loop-m l = Locating l.at l.from l.w l.m
