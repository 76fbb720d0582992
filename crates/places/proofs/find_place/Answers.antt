-- `places::find_place` meets its contract: the first place that `holds` passes is the first that the definition finds.
-- Assumes nothing.
use mathlib.Core.Path.{◌∙◌}
use Rattle.std.proofs.Common.{rules, tests}
use Rattle.std.proofs.lemmas.Iterator.{YieldsList-from_slice}
use Rattle.std.proofs.lemmas.Iterator.Search.{position_from_yields_List}
use Rattle.std.proofs.lemmas.Iterator.Adapters.{position_from-zero}
use Rattle.places.specs.declared.Place.{Place}
use Rattle.places.specs.Places.{names}
use Rattle.places.proofs.Searches.{position-first}
use Rattle.places.proofs.find_place.Goals as goal

pub returns : goal.returns
returns c =
    let ps = c.args.held.places in
    let told = position_from_yields_List (λ (p : Place). names p c.args.name) _ _ _ c.position.ensures.ran (YieldsList-from_slice ps cc) (λ x b q k. search (rules, tests)) in
    told ∙ position_from-zero _ ps ∙ position-first _ ps 0
