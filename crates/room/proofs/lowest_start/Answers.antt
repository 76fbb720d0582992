-- What the search leaves of `lowest_start`, by the laws of `Named`, `Steps` and `Candidates`.
use mathlib.Core.Path.{◌≡◌, sym}
use native.Mathlib.Omega.{arith}
use borrow.Author.Rules.{rules}
use lib.ListN.{length, get_or}
use Rattle.places.specs.Places.{unused}
use Rattle.places.proofs.Named.{not_in_use}
use Rattle.places.proofs.Steps.{mapped_length}
use Rattle.places.proofs.Candidates.{best_unused, best_lower, best_met, best_take, best_at, best_nowhere, lowest_zero, free_said}
use Rattle.room.proofs.lowest_start.Goals.{then-p-ne0+then-start-best+then-is_free-2, then-p-ne0+else-start-best, else-start-best-via-then-start-best+else-is_free-2, else-start-best-via-else-start-best, else-p-ne0}
use Rattle.room.proofs.lowest_start.Goals as goal

pub returns-then-is_free : goal.returns-then-is_free
returns-then-is_free c =
    let a = c.args in
    sym (lowest_zero a.n a.size a.held.places (free_said _ _ _ 0 _ c.usable-end.ensures c.is_free.ensures c.if-is_free.true))

pub loop-p-preserved : goal.loop-p-preserved
loop-p-preserved c =
    let a = c.args in
    let ps = a.held.places in
    let i = c.loop-p.p-index in
    let b = c.loop-p.best in
    let h = c.loop-p.invariant in
    elim c.if-p-ne0.branch [
      | then-p-ne0+then-start-best+then-is_free-2 w ↦
          rw w.best-is
          (best_take a.n a.size ps i b h w.end_of-start.result w.end_of-start.ensures w.if-start-best.true
          (free_said _ _ _ _ _ c.usable-end.ensures w.is_free-then-start-best.ensures w.if-is_free-2.true))
      | then-p-ne0+else-start-best w ↦
          rw w.best-is (elim w.else-start-best.branch [
            | else-start-best-via-then-start-best+else-is_free-2 v ↦
                best_met a.n a.size ps i b h w.end_of-start.result w.end_of-start.ensures
                (free_said _ _ _ _ _ c.usable-end.ensures v.is_free-then-start-best.ensures v.if-is_free-2.false)
            | else-start-best-via-else-start-best v ↦ best_lower a.n a.size ps i b h w.end_of-start.result w.end_of-start.ensures v.if-start-best.false
          ])
      | else-p-ne0 w ↦ rw w.best-is (best_unused a.n a.size ps i b h (not_in_use (get_or ps i unused) w.if-p-ne0.false))
    ]

pub returns-then-best-end : goal.returns-then-best-end
returns-then-best-end c =
    let eight : length c.args.held.places ≡ 8 = search (rules, mapped_length) in
    let a = c.args in
    sym (best_at a.n a.size a.held.places c.loop-p.p-index c.loop-p.best c.loop-p.invariant (omega (arith, eight))
    (free_said _ _ _ 0 _ c.usable-end.ensures c.is_free.ensures c.if-is_free.false) (rw c.usable-end.ensures at c.if-best-end.true))

pub returns-else-best-end : goal.returns-else-best-end
returns-else-best-end c =
    let eight : length c.args.held.places ≡ 8 = search (rules, mapped_length) in
    let a = c.args in
    sym (best_nowhere a.n a.size a.held.places c.loop-p.p-index c.loop-p.best c.loop-p.invariant (omega (arith, eight))
    (free_said _ _ _ 0 _ c.usable-end.ensures c.is_free.ensures c.if-is_free.false) (rw c.usable-end.ensures at c.if-best-end.false))
