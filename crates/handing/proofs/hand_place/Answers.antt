-- A place in column order is handed out as such; a place that no record has over this store is refused; of another what it holds is handed out.
-- Assumes nothing.
use mathlib.Core.Bool.{true}
use mathlib.Core.Path.{◌≡◌, sym, ◌∙◌}
use lib.ListN.{length}
use Rattle.handing.specs.Hand.{usable_in}
use Rattle.columns.proofs.HandLaws.{comes_from}
use Rattle.handing.proofs.HandCases.{usable-known, place_columns, place-refused, place-usable}
use Rattle.handing.proofs.hand_place.Goals as goal

pub returns-then-p-eq1 : goal.returns-then-p-eq1
returns-then-p-eq1 c = comes_from (place_columns _ _ _ _ c.if-p-eq1.true) c.hand_columns.ensures

pub returns-then-not-is_usable : goal.returns-then-not-is_usable
returns-then-not-is_usable c = place-refused _ _ _ _ c.if-p-eq1.false (sym c.is_usable.ensures ∙ c.if-not-is_usable.true)

pub hand_usable-requires : goal.hand_usable-requires
hand_usable-requires c =
    let usable : usable_in c.args.p (length c.args.store.now) ≡ true = sym c.is_usable.ensures ∙ c.if-not-is_usable.false in
    usable-known _ _ usable

pub returns : goal.returns
returns c =
    let usable : usable_in c.args.p (length c.args.store.now) ≡ true = sym c.is_usable.ensures ∙ c.if-not-is_usable.false in
    comes_from (place-usable _ _ _ _ usable) c.hand_usable.ensures
