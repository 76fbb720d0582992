-- `put_checks` writes the checks of two rows after two rows, and then of the one that may be left. The invariant: what is left to write makes what the whole makes, and
-- behind the rows that are done nothing has changed (`Checking`). Assumes nothing.
use Prim.Native.Nat.{◌*◌}
use Rattle.encoding.proofs.Checking.{Checking}
use Rattle.encoding.proofs.put_checks.Given as goal

abbrev pub invariant-loop-i : goal.invariant-loop-i
invariant-loop-i l = Checking l.initial.rows l.rows l.n (2 * l.i)
