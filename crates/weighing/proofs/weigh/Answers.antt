-- The refusals that lengths tell are ruled out in their order: 9, 15, 23, 22.
-- Assumes nothing.
use mathlib.Core.Bool.{true, false}
use mathlib.Core.List.{[]}
use mathlib.Core.Path.{◌≡◌, sym, ◌∙◌}
use native.Mathlib.Omega.{arith}
use lib.ListN.{length}
use Rattle.std.specs.Prelude.{Some, None}
use Rattle.std.proofs.lemmas.Result.{err_from_is_err_and}
use Rattle.refusals.specs.declared.Refusal.TheVariants.{Slot}
use Rattle.contents.specs.Contents.{contents, any_wrong}
use Rattle.losses.specs.Losses.{tabled}
use Rattle.standing.proofs.SurveyLaws.{seen_right, seen_not}
use Rattle.columns.specs.Columns.{length_serves}
use Rattle.columns.proofs.LengthLaws.{tabled-known}
use Rattle.columns.proofs.HandLaws.{columns_record, columns_slot, columns_size, served, columns_shape, shaped, columns_shaped}
use Rattle.columns.proofs.Weighed.{weighed_as}
use Rattle.weighing.proofs.weigh.Goals as goal

pub returns-then-not-is_tabled : goal.returns-then-not-is_tabled
returns-then-not-is_tabled c = weighed_as _ _ _ _ (columns_record _ _ _ _ (sym c.is_tabled.ensures ∙ c.if-not-is_tabled.true))

pub returns-in_err-ok_or : goal.returns-in_err-ok_or
returns-in_err-ok_or c =
    let placed : tabled c.args.p (length c.args.store.now) ≡ true = sym c.is_tabled.ensures ∙ c.if-not-is_tabled.false in
    let none : c.survey.result ≡ None = grind arith in
    let refused : c.in_err-ok_or.field-0.0 ≡ Slot = grind arith in
    let p = err_from_is_err_and c.from_residual.result c.from_residual.ensures.1 in
    rw (p.1, p.2, refused)
    (weighed_as _ _ _ _ (columns_slot _ _ _ _ placed (seen_not _ _ (tabled-known _ c.args.store.now placed).ends _ c.survey.ensures none)))

pub length_serves-requires : goal.length_serves-requires
length_serves-requires c =
    let placed : tabled c.args.p (length c.args.store.now) ≡ true = sym c.is_tabled.ensures ∙ c.if-not-is_tabled.false in
    let t = tabled-known _ c.args.store.now placed in
    (t.rows, t.slot)

pub returns-then-not-length_serves : goal.returns-then-not-length_serves
returns-then-not-length_serves c =
    let placed : tabled c.args.p (length c.args.store.now) ≡ true = sym c.is_tabled.ensures ∙ c.if-not-is_tabled.false in
    let some : c.survey.result ≡ Some c.in_ok-ok_or.field-0 = grind arith in
    let right : any_wrong (contents c.args.p c.args.store.now) ≡ false = (seen_right _ _ (tabled-known _ c.args.store.now placed).ends _ _ c.survey.ensures some).right in
    weighed_as _ _ _ _ (columns_size _ _ _ _ placed right (sym c.length_serves.ensures ∙ c.if-not-length_serves.true))

pub lengths_fit-requires : goal.lengths_fit-requires
lengths_fit-requires c =
    let placed : tabled c.args.p (length c.args.store.now) ≡ true = sym c.is_tabled.ensures ∙ c.if-not-is_tabled.false in
    let some : c.survey.result ≡ Some c.in_ok-ok_or.field-0 = grind arith in
    let right : any_wrong (contents c.args.p c.args.store.now) ≡ false = (seen_right _ _ (tabled-known _ c.args.store.now placed).ends _ _ c.survey.ensures some).right in
    let serving : length_serves c.args.p c.args.n ≡ true = sym c.length_serves.ensures ∙ c.if-not-length_serves.false in
    served _ _ _ [] placed right serving

pub returns-then-not-lengths_fit : goal.returns-then-not-lengths_fit
returns-then-not-lengths_fit c =
    let placed : tabled c.args.p (length c.args.store.now) ≡ true = sym c.is_tabled.ensures ∙ c.if-not-is_tabled.false in
    let some : c.survey.result ≡ Some c.in_ok-ok_or.field-0 = grind arith in
    let right : any_wrong (contents c.args.p c.args.store.now) ≡ false = (seen_right _ _ (tabled-known _ c.args.store.now placed).ends _ _ c.survey.ensures some).right in
    let serving : length_serves c.args.p c.args.n ≡ true = sym c.length_serves.ensures ∙ c.if-not-length_serves.false in
    weighed_as _ _ _ _
    (columns_shape _ _ _ _ placed right serving (sym c.lengths_fit.ensures ∙ c.if-not-lengths_fit.true))

pub judge-requires : goal.judge-requires
judge-requires c =
    let placed : tabled c.args.p (length c.args.store.now) ≡ true = sym c.is_tabled.ensures ∙ c.if-not-is_tabled.false in
    let some : c.survey.result ≡ Some c.in_ok-ok_or.field-0 = grind arith in
    let right : any_wrong (contents c.args.p c.args.store.now) ≡ false = (seen_right _ _ (tabled-known _ c.args.store.now placed).ends _ _ c.survey.ensures some).right in
    let serving : length_serves c.args.p c.args.n ≡ true = sym c.length_serves.ensures ∙ c.if-not-length_serves.false in
    let t = placed in
    let w = right in
    let l = serving in
    let f = sym c.lengths_fit.ensures ∙ c.if-not-lengths_fit.false in
    (shaped _ _ _ [] t w l f, columns_shaped _ _ _ _ t w l f)
