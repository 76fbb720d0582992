-- The tests are those of `plan_of`, in its order.
use mathlib.Core.Path.{◌≡◌, sym, ap, ◌∙◌}
use mathlib.Core.Bool.{true}
use Prim.Native.Nat.{ℕ}
use Rattle.settings.specs.Settings.{settings_fit}
use Rattle.places.specs.Places.{count_fits, good, first_unused}
use Rattle.opening.specs.Open.{with_unused}
use Rattle.opening.specs.Inner.{planned}
use Rattle.opening.proofs.PlanLaws.{plan_record, plan_settings, plan_count, plan_held, plan_new}
use Rattle.opening.proofs.plan_open.Goals as goal

pub returns-then-not-is_good : goal.returns-then-not-is_good
returns-then-not-is_good c = sym (ap planned (plan_record _ _ _ _ (sym c.is_good.ensures ∙ c.if-not-is_good.true)))

pub returns-then-not-settings_fit : goal.returns-then-not-settings_fit
returns-then-not-settings_fit c =
    let sound : good c.args.n c.args.held.places ≡ true = sym c.is_good.ensures ∙ c.if-not-is_good.false in
    sym (ap planned (plan_settings _ _ _ _ sound (sym c.settings_fit.ensures ∙ c.if-not-settings_fit.true)))

pub returns-then-not-count_fits : goal.returns-then-not-count_fits
returns-then-not-count_fits c =
    let sound : good c.args.n c.args.held.places ≡ true = sym c.is_good.ensures ∙ c.if-not-is_good.false in
    let fit : settings_fit c.args.settings ≡ true = sym c.settings_fit.ensures ∙ c.if-not-settings_fit.false in
    sym (ap planned (plan_count _ _ _ _ sound fit
    (sym c.count_fits.ensures ∙ c.if-not-count_fits.true)))

pub returns-in-Some : goal.returns-in-Some
returns-in-Some c =
    let sound : good c.args.n c.args.held.places ≡ true = sym c.is_good.ensures ∙ c.if-not-is_good.false in
    let fit : settings_fit c.args.settings ≡ true = sym c.settings_fit.ensures ∙ c.if-not-settings_fit.false in
    let counted : count_fits c.args.count ≡ true = sym c.count_fits.ensures ∙ c.if-not-count_fits.false in
    sym (ap planned (plan_held _ _ _ _ sound fit counted _
    (sym c.find_place.ensures ∙ c.in-Some.is)))

pub returns : goal.returns
returns c =
    let sound : good c.args.n c.args.held.places ≡ true = sym c.is_good.ensures ∙ c.if-not-is_good.false in
    let fit : settings_fit c.args.settings ≡ true = sym c.settings_fit.ensures ∙ c.if-not-settings_fit.false in
    let counted : count_fits c.args.count ≡ true = sym c.count_fits.ensures ∙ c.if-not-count_fits.false in
    let a = c.args in
    c.room_for.ensures
    ∙ ap (λ (size : ℕ). planned (with_unused a.held a.n size (first_unused a.held.places))) c.cover_of.ensures
    ∙ sym (ap planned (plan_new _ _ _ _ sound fit counted
    (sym c.find_place.ensures ∙ c.in_default.is)))
