-- The places that are looked at are the first n of all sixteen.
-- Assumes nothing.
use mathlib.Core.Path.{◌≡◌}
use mathlib.Core.List.{List}
use Prim.Native.Nat.{ℕ, ◌≤◌, ◌<◌}
use lib.ListN.{length, take, get_or}
use lib.Seq.{get_or-take, length-take-le}
use native.Mathlib.Omega.{arith}
use Rattle.errata.proofs.Places.{descending_more, descending_end, descending_not, too_many}
use Rattle.solving.proofs.losses.falling.Goals as goal

looked : (at : List ℕ) (n k : ℕ) → length at ≡ 16 → n ≤ 16 → k < length (take n at) → (k < n) × (get_or (take n at) k 0 ≡ get_or at k 0)
looked at n k long few h =
    let b : k < n = omega (arith, length-take-le n at (omega arith)) in
    (b, get_or-take n at k 0 b)

pub returns-then-n-gt16 : goal.returns-then-n-gt16
returns-then-n-gt16 c = too_many _ _ (omega arith)

pub returns-then-last-a : goal.returns-then-last-a
returns-then-last-a c =
    let here = looked c.args.at c.args.n c.loop-a.a-index (omega arith) c.loop-a.invariant.few c.loop-a-test.true in
    descending_not c.loop-a.invariant here.0 (omega (arith, here.1, c.if-last-a.true))

pub loop-a-preserved : goal.loop-a-preserved
loop-a-preserved c =
    let here = looked c.args.at c.args.n c.loop-a.a-index (omega arith) c.loop-a.invariant.few c.loop-a-test.true in
    rw here.1 (descending_more c.loop-a.invariant here.0 (omega (arith, here.1, c.if-last-a.false)))

pub returns : goal.returns
returns c =
    descending_end c.loop-a.invariant (omega (arith, c.loop-a-test.false, length-take-le c.args.n c.args.at (omega (arith, c.loop-a.invariant.few))))
