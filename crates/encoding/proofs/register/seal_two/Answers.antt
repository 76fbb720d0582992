-- At the end nothing is left to feed to either register, and both are written.
-- Assumes nothing.
use mathlib.Core.Path.{ap, ap₂, ◌∙◌}
use mathlib.Core.List.{List}
use Prim.Native.Nat.{ℕ, ◌+◌}
use lib.Seq.{sets}
use Rattle.encoding.specs.InnerRegister.{sealed}
use Rattle.encoding.proofs.Feeding.{feeding_done}
use Rattle.encoding.proofs.register.seal_two.Goals as goal

pub returns : goal.returns
unfolding sealed
returns c =
    let loop = c.loop-k in
    let s = c.args in
    c.put-2.ensures
    ∙ ap₂ (λ (l b : List ℕ). sets l (s.at + 255 + 239) b)
    (c.put.ensures ∙ ap (sets s.rows.now (s.at + 239)) (feeding_done _ _ _ _ c.loop-k-test.false loop.invariant.0))
    (feeding_done _ _ _ _ c.loop-k-test.false loop.invariant.1)
