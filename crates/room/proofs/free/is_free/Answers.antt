-- `room::free::is_free` meets its contract: bytes that pass the end are not free; the others are if they meet no place.
-- Assumes nothing.
use mathlib.Core.Path.{sym, ap, ◌∙◌}
use mathlib.Core.Bool.{Bool, ◌&&◌}
use native.Mathlib.Omega.{arith}
use Prim.Native.Nat.{◌+◌}
use borrow.Author.Tests.{le-leb}
use Rattle.std.proofs.Common.{rules, tests}
use Rattle.std.proofs.lemmas.Iterator.{YieldsList-from_slice}
use Rattle.std.proofs.lemmas.Iterator.Search.{all_from_yields_List}
use Rattle.places.specs.Places.{all}
use Rattle.places.specs.Room.{clear}
use Rattle.places.proofs.Steps.{list_all-all}
use Rattle.room.proofs.free.is_free.Goals as goal

pub returns : goal.returns
returns c =
    let a = c.args in
    let ps = a.held.places in
    let told = all_from_yields_List (clear a.s a.size) _ _ _ c.all.ensures.ran (YieldsList-from_slice ps cc) (λ x b q k. search (rules, tests)) in
    told ∙ list_all-all _ ps ∙ sym (ap (λ (b : Bool). b && all (clear a.s a.size) ps) (le-leb (a.s + a.size) a.end (omega arith)))
