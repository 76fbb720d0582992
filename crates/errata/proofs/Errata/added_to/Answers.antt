-- The bytes before place k are those that the definition adds to; behind sixteen it adds nothing.
-- Assumes nothing.
use mathlib.Core.Path.{◌≡◌, ap, ◌∙◌}
use Prim.Native.Nat.{◌-◌}
use native.Mathlib.Omega.{arith}
use Rattle.ground.specs.Bits.{sum}
use Rattle.errata.proofs.Mending.{mended_start, mended-more}
use Rattle.errata.proofs.Keeping.{mended_sixteen}
use Rattle.errata.proofs.Errata.added_to.Goals as goal

pub loop-k-init : goal.loop-k-init
loop-k-init c = mended_start _ _ _

pub loop-k-preserved : goal.loop-k-preserved
unfolding sum
loop-k-preserved c =
    mended-more _ _ _ c.loop-k.k c.saturating_sub-i.result c.loop-k.row c.loop-k.invariant (c.saturating_sub-i.ensures ∙ ap (λ n. 254 - n) c.index.ensures.0)

pub returns : goal.returns
returns c =
    let all : c.loop-k.k ≡ c.min-k-end.result = omega arith in
    c.loop-k.invariant ∙ mended_sixteen _ _ c.args.self.now.values c.args.self.now.n c.loop-k.k (omega arith) (all ∙ c.min-k-end.ensures)
