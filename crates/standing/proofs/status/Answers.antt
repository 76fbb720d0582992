-- The record is judged and the place found; how it stands is said by its slots.
use mathlib.Core.Path.{◌≡◌, sym, ◌∙◌}
use mathlib.Core.Bool.{true}
use Prim.Native.Nat.{◌<◌}
use native.Mathlib.Omega.{arith}
use borrow.Author.Rules.{rules}
use lib.ListN.{length}
use Rattle.places.specs.Places.{good, place_named}
use Rattle.places.proofs.Facts.{named_facts}
use Rattle.places.proofs.Steps.{mapped_length}
use Rattle.places.proofs.Holders.{found-names}
use Rattle.standing.proofs.StatusLaws.{status_record, status_unknown, status_found_lem}
use Rattle.standing.proofs.status.Goals as goal
use Rattle.std.specs.Prelude.{Some, None}
use Rattle.std.proofs.lemmas.Result.{err_from_is_err_and}
use Rattle.refusals.specs.declared.Refusal.TheVariants.{Unknown}

pub returns-then-not-is_good : goal.returns-then-not-is_good
returns-then-not-is_good c = status_record _ _ _ (sym c.is_good.ensures ∙ c.if-not-is_good.true)

pub returns-in_err-i : goal.returns-in_err-i
returns-in_err-i c =
    let sound : good (length c.args.store.now) c.args.held.places ≡ true = sym c.is_good.ensures ∙ c.if-not-is_good.false in
    let nowhere : c.find_place.result ≡ None = grind arith in
    let refused : c.in_err-i.field-0.0 ≡ Unknown = grind arith in
    let p = err_from_is_err_and c.from_residual.result c.from_residual.ensures.1 in
    rw (p.1, p.2, refused) (status_unknown _ _ _ sound (sym c.find_place.ensures ∙ nowhere))

pub offset_bounds-held-i : goal.offset_bounds-held-i
offset_bounds-held-i c =
    let at : c.find_place.result ≡ Some c.in_ok-i.i = grind arith in
    let found : place_named c.args.held.places c.args.name ≡ Some c.in_ok-i.i = sym c.find_place.ensures ∙ at in
    let below : c.in_ok-i.i < 8 = let a = c.args in
    let eight : length a.held.places ≡ 8 = search (rules, mapped_length) in
    omega (arith, (found-names a.held.places _ c.in_ok-i.i found).0) in
    omega (arith, below)

pub bounds-held-i : goal.bounds-held-i
bounds-held-i c =
    let at : c.find_place.result ≡ Some c.in_ok-i.i = grind arith in
    let found : place_named c.args.held.places c.args.name ≡ Some c.in_ok-i.i = sym c.find_place.ensures ∙ at in
    let below : c.in_ok-i.i < 8 = let a = c.args in
    let eight : length a.held.places ≡ 8 = search (rules, mapped_length) in
    omega (arith, (found-names a.held.places _ c.in_ok-i.i found).0) in
    below

pub stands-requires : goal.stands-requires
stands-requires c =
    let sound : good (length c.args.store.now) c.args.held.places ≡ true = sym c.is_good.ensures ∙ c.if-not-is_good.false in
    let at : c.find_place.result ≡ Some c.in_ok-i.i = grind arith in
    let found : place_named c.args.held.places c.args.name ≡ Some c.in_ok-i.i = sym c.find_place.ensures ∙ at in
    (named_facts _ _ sound _ _ found).ends-within

pub returns : goal.returns
returns c =
    let sound : good (length c.args.store.now) c.args.held.places ≡ true = sym c.is_good.ensures ∙ c.if-not-is_good.false in
    let at : c.find_place.result ≡ Some c.in_ok-i.i = grind arith in
    let found : place_named c.args.held.places c.args.name ≡ Some c.in_ok-i.i = sym c.find_place.ensures ∙ at in
    c.stands.ensures ∙ status_found_lem _ _ _ sound _ found
