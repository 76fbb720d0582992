-- `room::ranges::ranges_fit` meets its contract: it takes the definition's three tests in their order.
-- Assumes nothing.
use mathlib.Core.Path.{◌≡◌, sym, ◌∙◌}
use mathlib.Core.Bool.{true}
use borrow.Author.Tests.{eq-eqb, ne_eqb}
use Rattle.settings.specs.Settings.{settings_fit}
use Rattle.places.specs.Places.{settings_in, ranges_fit}
use Rattle.room.proofs.ranges.ranges_fit.Goals as goal

pub returns-then-not-settings_fit : goal.returns-then-not-settings_fit
unfolding ranges_fit
returns-then-not-settings_fit c =
    rw (sym (rw c.settings_in-settings.ensures at c.settings_fit.ensures) ∙ c.if-not-settings_fit.true)

pub returns-then-p-rows_held : goal.returns-then-p-rows_held
unfolding ranges_fit
returns-then-p-rows_held c =
    let fit : settings_fit (settings_in c.args.p) ≡ true = sym (rw c.settings_in-settings.ensures at c.settings_fit.ensures) ∙ c.if-not-settings_fit.false in
    let h = rw c.settings_in-settings.ensures at c.rows_held.ensures in
    rw (fit, ne_eqb _ _ (rw h at c.if-p-rows_held.true))

pub returns : goal.returns
unfolding ranges_fit
returns c =
    let fit : settings_fit (settings_in c.args.p) ≡ true = sym (rw c.settings_in-settings.ensures at c.settings_fit.ensures) ∙ c.if-not-settings_fit.false in
    let h = rw c.settings_in-settings.ensures at c.rows_held.ensures in
    rw (fit, eq-eqb _ _ (rw h at c.if-p-rows_held.false), c.count_fits.ensures)
