-- Two rows at a time, and then the one that may be left.
-- Assumes nothing.
use mathlib.Core.Path.{refl}
use Prim.Native.Nat.{◌*◌}
use native.Mathlib.Omega.{arith}
use Rattle.encoding.proofs.Checking.{checking_at, checking_more, checking_two, checking_done}
use Rattle.encoding.proofs.put_checks.Goals as goal

pub loop-i-preserved : goal.loop-i-preserved
loop-i-preserved c =
    checking_two _ _ _ (2 * c.loop-i.i) _ (omega arith) c.loop-i.invariant _ (omega arith) (omega arith) c.seal_two.ensures

pub returns-then-n-r : goal.returns-then-n-r
returns-then-n-r c = checking_done _ _ _ (2 * c.loop-i.i) (omega arith) c.loop-i.invariant (omega arith) refl

pub returns : goal.returns
returns c =
    checking_done _ _ _ _ (omega arith)
    (checking_more _ _ _ _ (omega arith) (checking_at _ _ _ (2 * c.loop-i.i) _ (omega arith) c.loop-i.invariant) _ _ c.if-n-r.false c.checks-q.ensures c.put.ensures)
    (omega arith) refl
