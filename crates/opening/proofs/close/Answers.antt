-- The tests are those of `close_of`; the place that was found is set to an unused one.
use mathlib.Core.Path.{◌≡◌, sym, ap, ◌∙◌}
use mathlib.Core.Bool.{true}
use native.Mathlib.Omega.{arith}
use borrow.Author.Rules.{rules}
use lib.ListN.{length}
use Rattle.std.specs.Prelude.{Some, None}
use Rattle.std.proofs.lemmas.Result.{err_from_is_err_and}
use Rattle.refusals.specs.declared.Refusal.TheVariants.{Unknown}
use Rattle.places.specs.Places.{good}
use Rattle.places.proofs.Steps.{mapped_length}
use Rattle.opening.specs.Open.{renewed}
use Rattle.opening.proofs.CloseLaws.{close-record, close_unknown, close-found, close-below}
use Rattle.opening.proofs.close.Goals as goal

pub returns-then-not-is_good : goal.returns-then-not-is_good
returns-then-not-is_good c = sym (ap renewed (close-record _ _ _ (sym c.is_good.ensures ∙ c.if-not-is_good.true)))

pub returns-in_err-i : goal.returns-in_err-i
returns-in_err-i c =
    let sound : good (length c.args.store.now) c.args.held.places ≡ true = sym c.is_good.ensures ∙ c.if-not-is_good.false in
    let nowhere : c.find_place.result ≡ None = grind arith in
    let refused : c.in_err-i.field-0.0 ≡ Unknown = grind arith in
    let p = err_from_is_err_and c.from_residual.result c.from_residual.ensures.1 in
    rw (p.1, p.2, refused) (sym (ap renewed (close_unknown _ _ _ sound (sym c.find_place.ensures ∙ nowhere))))

pub offset_bounds-next-i : goal.offset_bounds-next-i
offset_bounds-next-i c =
    let at : c.find_place.result ≡ Some c.in_ok-i.i = grind arith in
    let eight : length c.args.held.places ≡ 8 = search (rules, mapped_length) in
    omega (arith, close-below _ _ _ (sym c.find_place.ensures ∙ at), eight)

pub bounds-next-i : goal.bounds-next-i
bounds-next-i c =
    let at : c.find_place.result ≡ Some c.in_ok-i.i = grind arith in
    let eight : length c.args.held.places ≡ 8 = search (rules, mapped_length) in
    omega (arith, close-below _ _ _ (sym c.find_place.ensures ∙ at), eight)

pub returns : goal.returns
returns c =
    let sound : good (length c.args.store.now) c.args.held.places ≡ true = sym c.is_good.ensures ∙ c.if-not-is_good.false in
    let at : c.find_place.result ≡ Some c.in_ok-i.i = grind arith in
    sym (ap renewed (close-found _ _ _ sound _ (sym c.find_place.ensures ∙ at)))
