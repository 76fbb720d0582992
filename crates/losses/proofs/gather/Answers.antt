-- A place that is none such is answered for at once; of any other the row is gathered run after run, and what came is the row's definition (`gathered_came`).
use mathlib.Core.Path.{◌≡◌, sym, ◌∙◌}
use mathlib.Core.Bool.{true}
use lib.ListN.{length}
use Rattle.losses.specs.Losses.{tabled}
use Rattle.losses.proofs.Gathering.{gathered-nothing, gathered_came}
use Rattle.losses.proofs.Tabling.{tabled_facts, came_nothing, came_tabled}
use Rattle.losses.proofs.gather.Goals as goal

pub returns-then-not-is_tabled : goal.returns-then-not-is_tabled
returns-then-not-is_tabled c = came_nothing _ _ _ (sym c.is_tabled.ensures ∙ c.if-not-is_tabled.true)

pub first_byte-first-requires : goal.first_byte-first-requires
first_byte-first-requires c =
    let is : tabled c.args.p (length c.args.store.now) ≡ true = sym c.is_tabled.ensures ∙ c.if-not-is_tabled.false in
    (tabled_facts _ _ is).rows

pub take_row-lost-requires : goal.take_row-lost-requires
take_row-lost-requires c =
    let is : tabled c.args.p (length c.args.store.now) ≡ true = sym c.is_tabled.ensures ∙ c.if-not-is_tabled.false in
    (tabled_facts _ _ is, c.first_byte-first.ensures.1, gathered-nothing _ _ _)

pub returns : goal.returns
returns c =
    let is : tabled c.args.p (length c.args.store.now) ≡ true = sym c.is_tabled.ensures ∙ c.if-not-is_tabled.false in
    gathered_came _ c.first_byte-first.ensures.0 c.take_row-lost.ensures ∙ came_tabled _ _ _ is
