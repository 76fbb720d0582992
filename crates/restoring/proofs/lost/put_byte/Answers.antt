-- Nothing is written of a check column, nor beyond the file.
-- Assumes nothing.
use mathlib.Core.Path.{◌≡◌, ap, subst, ◌∙◌}
use Prim.Native.Nat.{ℕ, ◌+◌, ◌-◌, ◌*◌, ◌≤◌, ◌<◌}
use native.Mathlib.Omega.{arith}
use lib.ListN.{set}
use Rattle.columns.proofs.Putting.{put_check, put-beyond, put-here}
use Rattle.restoring.proofs.lost.put_byte.Goals as goal

pub returns-then-c-ge239 : goal.returns-then-c-ge239
returns-then-c-ge239 c =
    put_check c.args.m c.args.n c.args.base c.args.out.now (254 - c.args.a) c.args.v (omega (arith, c.index-c.ensures.0, c.if-c-ge239.true))

pub returns-then-n-to : goal.returns-then-n-to
returns-then-n-to c =
    let e : c.index-c.result ≡ c.args.a = c.index-c.ensures.0 in
    put-beyond c.args.m c.args.n c.args.base c.args.out.now (254 - c.args.a) c.args.v (subst (λ (x : ℕ). 254 - x < 239) e c.if-c-ge239.false)
    (subst (λ (x : ℕ). c.args.n ≤ c.args.base + (254 - x) * c.args.m) e c.if-n-to.true)

pub returns : goal.returns
returns c =
    let e : c.index-c.result ≡ c.args.a = c.index-c.ensures.0 in
    ap (λ (x : ℕ). set c.args.out.now (c.args.base + (254 - x) * c.args.m) c.args.v) e
    ∙ put-here c.args.m c.args.n c.args.base c.args.out.now (254 - c.args.a) c.args.v (subst (λ (x : ℕ). 254 - x < 239) e c.if-c-ge239.false)
    (subst (λ (x : ℕ). c.args.base + (254 - x) * c.args.m < c.args.n) e c.if-n-to.false)
