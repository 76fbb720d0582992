-- The place lies in the store, or nothing is seen; what each slot adds, by its length.
use mathlib.Core.Path.{sym, ◌∙◌}
use mathlib.Core.Logic.{inl, inr}
use native.Mathlib.Omega.{arith}
use Rattle.contents.specs.Contents.{slot_at}
use Rattle.standing.proofs.SurveyLaws.{seen_outside, surveying_first, surveying_few, surveying_end, surveying_wrong, surveying_room, surveying_next}
use Rattle.standing.proofs.survey.Goals.{then-n-ne0, else-n-ne0, then-filled-k, else-filled-k}
use Rattle.standing.proofs.survey.Goals as goal

pub returns-then-store-end_of : goal.returns-then-store-end_of
returns-then-store-end_of c = seen_outside _ _ (omega (arith, c.end_of.ensures))

pub loop-k-init : goal.loop-k-init
loop-k-init c = surveying_first _ _

pub returns-then-not-length_fits : goal.returns-then-not-length_fits
unfolding slot_at
returns-then-not-length_fits c =
    surveying_wrong _ _ _ _ _ _ c.loop-k.invariant c.loop-k-test.true _ c.slot_length-n.ensures (omega (arith, c.end_of.ensures))
    (sym c.length_fits.ensures ∙ c.if-not-length_fits.true)

pub overflow_add-filled : goal.overflow_add-filled
overflow_add-filled c = omega (arith, surveying_few _ _ _ _ _ _ c.loop-k.invariant)

pub overflow_add-bytes : goal.overflow_add-bytes
unfolding slot_at
overflow_add-bytes c =
    omega (arith, surveying_room _ _ _ _ _ _ c.loop-k.invariant c.loop-k-test.true _ c.slot_length-n.ensures (sym c.length_fits.ensures ∙ c.if-not-length_fits.false) (omega (arith, c.end_of.ensures)))

pub loop-k-preserved : goal.loop-k-preserved
unfolding slot_at
loop-k-preserved c =
    surveying_next _ _ _ _ _ _ c.loop-k.invariant c.loop-k-test.true _ c.slot_length-n.ensures
    (sym c.length_fits.ensures ∙ c.if-not-length_fits.false) _ _
    (elim c.if-n-ne0.branch [ then-n-ne0 w ↦ inl (w.if-n-ne0.true, w.filled-is) | else-n-ne0 w ↦ inr (w.if-n-ne0.false, w.filled-is) ])
    (elim c.if-filled-k.branch [ then-filled-k w ↦ inl (w.if-filled-k.true, w.empty-is ∙ w.if-filled-k.true) | else-filled-k w ↦ inr (w.if-filled-k.false, w.empty-is) ])

pub returns : goal.returns
returns c = surveying_end _ _ _ _ _ _ c.loop-k.invariant (omega (arith, c.end_of.ensures)) c.loop-k-test.false
