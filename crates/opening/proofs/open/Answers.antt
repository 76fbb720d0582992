-- A plan to refuse is answered; a plan to take clears the slots, which lie in the store, and sets the place.
use mathlib.Core.Path.{◌≡◌, sym, ap, ◌∙◌}
use native.Mathlib.Omega.{arith}
use borrow.Author.Rules.{rules}
use lib.ListN.{length, set}
use Rattle.std.specs.Prelude.{Ok}
use Rattle.std.proofs.lemmas.Result.{err_from_is_err_and}
use Rattle.places.specs.declared.Place.{Place}
use Rattle.places.proofs.Steps.{mapped_length}
use Rattle.opening.specs.Open.{take, plan_of}
use Rattle.opening.proofs.PlanLaws.{taking, planned-refuse, planned-take, open_refused, open_taken}
use Rattle.opening.proofs.OpenLaws.{open_below, open_room, open_start}
use Rattle.opening.proofs.open.Goals as goal

pub returns-in_err-i : goal.returns-in_err-i
returns-in_err-i c =
    let p = err_from_is_err_and c.from_residual.result c.from_residual.ensures.1 in
    rw (p.1, p.2) (open_refused _ _ _ _ _ (planned-refuse _ _ (sym c.plan_open.ensures ∙ c.in_err-i.was)))

pub clear_slots-requires : goal.clear_slots-requires
clear_slots-requires c =
    let plan_is : plan_of c.args.held (length c.args.store.now) c.args.settings c.args.count ≡ take c.in_ok-i.i c.in_ok-i.start = planned-take _ _ _ (sym c.plan_open.ensures ∙ c.in_ok-i.was) in
    (omega arith, open_room _ _ _ _ _ _ (taking _ _ _ _ _ _ plan_is))

pub overflow_cast-start : goal.overflow_cast-start
overflow_cast-start c =
    let plan_is : plan_of c.args.held (length c.args.store.now) c.args.settings c.args.count ≡ take c.in_ok-i.i c.in_ok-i.start = planned-take _ _ _ (sym c.plan_open.ensures ∙ c.in_ok-i.was) in
    omega (arith, open_start _ _ _ _ _ _ (taking _ _ _ _ _ _ plan_is))

pub offset_bounds-next-i : goal.offset_bounds-next-i
offset_bounds-next-i c =
    let plan_is : plan_of c.args.held (length c.args.store.now) c.args.settings c.args.count ≡ take c.in_ok-i.i c.in_ok-i.start = planned-take _ _ _ (sym c.plan_open.ensures ∙ c.in_ok-i.was) in
    let eight : length c.args.held.places ≡ 8 = search (rules, mapped_length) in
    omega (arith, open_below _ _ _ _ _ _ (taking _ _ _ _ _ _ plan_is), eight)

pub bounds-next-i : goal.bounds-next-i
bounds-next-i c =
    let plan_is : plan_of c.args.held (length c.args.store.now) c.args.settings c.args.count ≡ take c.in_ok-i.i c.in_ok-i.start = planned-take _ _ _ (sym c.plan_open.ensures ∙ c.in_ok-i.was) in
    let eight : length c.args.held.places ≡ 8 = search (rules, mapped_length) in
    omega (arith, open_below _ _ _ _ _ _ (taking _ _ _ _ _ _ plan_is), eight)

pub returns : goal.returns
returns c =
    let plan_is : plan_of c.args.held (length c.args.store.now) c.args.settings c.args.count ≡ take c.in_ok-i.i c.in_ok-i.start = planned-take _ _ _ (sym c.plan_open.ensures ∙ c.in_ok-i.was) in
    let a = c.args in
    let o = open_taken a.held a.store.now a.settings a.count _ _ plan_is in
    record {
      answers = ap (λ (p : Place). Ok (record { places = set a.held.places c.in_ok-i.i p })) c.place_of.ensures ∙ o.answers;
      leaves = c.clear_slots.ensures ∙ o.leaves;
    }
