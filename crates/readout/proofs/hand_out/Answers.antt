-- The record is judged and the place found; what it holds is handed out.
use mathlib.Core.Path.{◌≡◌, sym, ◌∙◌}
use mathlib.Core.Bool.{true}
use Prim.Native.Nat.{◌<◌}
use native.Mathlib.Omega.{arith}
use borrow.Author.Rules.{rules}
use lib.ListN.{length}
use Rattle.places.specs.Places.{good, place_named}
use Rattle.places.proofs.Steps.{mapped_length}
use Rattle.places.proofs.Holders.{found-names}
use Rattle.columns.proofs.HandLaws.{comes_from}
use Rattle.handing.proofs.HandCases.{out-record, out_unknown, out-placed}
use Rattle.readout.proofs.hand_out.Goals as goal
use Rattle.std.specs.Prelude.{Some}

pub returns-then-not-is_good : goal.returns-then-not-is_good
returns-then-not-is_good c = out-record _ _ _ _ _ (sym c.is_good.ensures ∙ c.if-not-is_good.true)

pub enum_known-i : goal.enum_known-i
enum_known-i c = omega arith

pub enum_told-1 : goal.enum_told-1
enum_told-1 c = omega arith

pub returns-in_default : goal.returns-in_default
returns-in_default c =
    let sound : good (length c.args.store.now) c.args.held.places ≡ true = sym c.is_good.ensures ∙ c.if-not-is_good.false in
    out_unknown _ _ _ sound _ _ (sym c.find_place.ensures ∙ c.in_default.is)

pub offset_bounds-held-i : goal.offset_bounds-held-i
offset_bounds-held-i c =
    let found : place_named c.args.held.places c.args.name ≡ Some c.in-Some.i = sym c.find_place.ensures ∙ c.in-Some.is in
    let below : c.in-Some.i < 8 = let a = c.args in
    let eight : length a.held.places ≡ 8 = search (rules, mapped_length) in
    omega (arith, (found-names a.held.places _ c.in-Some.i found).0) in
    omega (arith, below)

pub bounds-held-i : goal.bounds-held-i
bounds-held-i c =
    let found : place_named c.args.held.places c.args.name ≡ Some c.in-Some.i = sym c.find_place.ensures ∙ c.in-Some.is in
    let below : c.in-Some.i < 8 = let a = c.args in
    let eight : length a.held.places ≡ 8 = search (rules, mapped_length) in
    omega (arith, (found-names a.held.places _ c.in-Some.i found).0) in
    below

pub shape_of-out : goal.shape_of-out
shape_of-out c = omega arith

pub returns : goal.returns
returns c =
    let sound : good (length c.args.store.now) c.args.held.places ≡ true = sym c.is_good.ensures ∙ c.if-not-is_good.false in
    let found : place_named c.args.held.places c.args.name ≡ Some c.in-Some.i = sym c.find_place.ensures ∙ c.in-Some.is in
    comes_from (out-placed _ _ _ sound _ found _ _) c.hand_place.ensures
