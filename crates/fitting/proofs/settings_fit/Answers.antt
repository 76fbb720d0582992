-- `fitting::settings_fit` meets its contract: where it stops, a fact that fitting settings have does not hold, and at the end only
-- the size is left to judge.
-- Assumes nothing.
use mathlib.Core.Path.{◌≡◌, sym, ◌∙◌}
use mathlib.Core.Bool.{true≢false}
use Prim.Native.Nat.{◌<◌}
use native.Mathlib.Omega.{arith}
use borrow.Author.Rules.{rules}
use borrow.Author.Tests.{ltb-true, eqb-true}
use Rattle.settings.proofs.Laws.{by_one, order_facts, order-fit, settings_unfit, settings_by_size}
use Rattle.fitting.proofs.settings_fit.Goals.{then-settings-eq0-2-via-then-settings-eq0-2, then-settings-eq0-2-via-else-settings-eq0-2+then-settings-gt2, then-settings-gt15-via-then-settings-gt15, then-settings-gt15-via-else-settings-gt15+then-settings-gt1, else-settings-eq1-via-then-settings-eq1+else-settings-eq0-3, else-settings-eq1-via-else-settings-eq1, then-settings-eq0-4-via-then-settings-eq0-4, then-settings-eq0-4-via-else-settings-eq0-4+then-settings-gt2-2}
use Rattle.fitting.proofs.settings_fit.Goals as goal

pub returns-then-settings-eq0 : goal.returns-then-settings-eq0
returns-then-settings-eq0 c = sym (settings_unfit _ (λ s. omega arith))

pub returns-then-settings-eq0-3 : goal.returns-then-settings-eq0-3
returns-then-settings-eq0-3 c = sym (settings_unfit _ (λ s. let m = s.rows (search rules) in omega (arith, eqb-true)))

pub returns-then-not-order_fits : goal.returns-then-not-order_fits
returns-then-not-order_fits c = sym (settings_unfit _ (λ s. true≢false (sym (order-fit _ s) ∙ sym c.order_fits.ensures ∙ c.if-not-order_fits.true)))

pub returns-then-settings-eq0-2 : goal.returns-then-settings-eq0-2
returns-then-settings-eq0-2 c =
    sym (settings_unfit _ (λ s. elim c.then-settings-eq0-2.branch [
      | then-settings-eq0-2-via-then-settings-eq0-2 w ↦ omega arith
      | then-settings-eq0-2-via-else-settings-eq0-2+then-settings-gt2 w ↦ omega (arith, ltb-true)
    ]))

pub returns-then-settings-gt15 : goal.returns-then-settings-gt15
returns-then-settings-gt15 c =
    sym (settings_unfit _ (λ s. elim c.then-settings-gt15.branch [
      | then-settings-gt15-via-then-settings-gt15 w ↦ omega arith
      | then-settings-gt15-via-else-settings-gt15+then-settings-gt1 w ↦ omega (arith, ltb-true)
    ]))

pub returns-then-settings-eq0-4 : goal.returns-then-settings-eq0-4
returns-then-settings-eq0-4 c =
    sym (settings_unfit _ (λ s. elim c.then-settings-eq0-4.branch [
      | then-settings-eq0-4-via-then-settings-eq0-4 w ↦ omega arith
      | then-settings-eq0-4-via-else-settings-eq0-4+then-settings-gt2-2 w ↦ omega (arith, ltb-true)
    ]))

pub returns : goal.returns
returns c =
    let g = c.args.settings in
    let rows : g.protection ≡ 1 → 0 < g.rows =
    λ o. elim c.else-settings-eq1.branch [
      | else-settings-eq1-via-then-settings-eq1+else-settings-eq0-3 w ↦ omega arith
      | else-settings-eq1-via-else-settings-eq1 w ↦ absurd (w.if-settings-eq1.false o)
    ] in
    let order = order_facts g.protection g.order (sym c.order_fits.ensures ∙ c.if-not-order_fits.false) in
    c.size_fits.ensures
    ∙ sym (settings_by_size g (λ s. record {
      resource = search rules;
      resource-most = search rules;
      kind = search rules;
      kind-most = search rules;
      update = search rules;
      protection = search rules;
      rows = rows;
      rows-most = λ o. search rules;
      edition = search rules;
      edition-most = search rules;
      order-most = order.0;
      ordered = λ o. by_one g.protection (search rules) (order.1 o);
      size = s;
    }))
