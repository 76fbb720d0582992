-- The pass over the lengths says what the contents say; where none is wrong, what was seen of them is the answer.
use mathlib.Core.Path.{◌≡◌}
use native.Mathlib.Omega.{arith}
use Rattle.std.specs.Prelude.{Some, None}
use Rattle.std.proofs.lemmas.Result.{err_from_is_err_and}
use Rattle.refusals.specs.declared.Refusal.TheVariants.{Slot}
use Rattle.contents.specs.Contents.{contents}
use Rattle.standing.proofs.SurveyLaws.{Tallied, seen_right, seen_not}
use Rattle.standing.proofs.StatusLaws.{standing_wrong, standing_sound}
use Rattle.standing.proofs.stands.Goals as goal

pub returns-in_err-seen : goal.returns-in_err-seen
returns-in_err-seen c =
    let none : c.survey.result ≡ None = grind arith in
    let refused : c.in_err-seen.field-0.0 ≡ Slot = grind arith in
    let p = err_from_is_err_and c.from_residual.result c.from_residual.ensures.1 in
    rw (p.1, p.2, refused) (standing_wrong _ (seen_not _ _ c.requires _ c.survey.ensures none))

pub returns-then-seen-p : goal.returns-then-seen-p
returns-then-seen-p c =
    let some : c.survey.result ≡ Some c.in_ok-seen.seen = grind arith in
    let t : Tallied c.args.p (contents c.args.p c.args.store.now) c.in_ok-seen.seen = seen_right _ _ c.requires _ _ c.survey.ensures some in
    standing_sound _ _ _ t _ (t.none c.if-seen-p.true)

pub returns-else-seen-p : goal.returns-else-seen-p
returns-else-seen-p c =
    let some : c.survey.result ≡ Some c.in_ok-seen.seen = grind arith in
    let t : Tallied c.args.p (contents c.args.p c.args.store.now) c.in_ok-seen.seen = seen_right _ _ c.requires _ _ c.survey.ensures some in
    standing_sound _ _ _ t _ (t.some c.if-seen-p.false)
