-- What reading and writing a description tell: document 02, R-4. The attributes are thirty numbers, each text's beginning and length, each time's six numbers.
-- Assumes nothing.
use Rattle.std.specs.Prelude.{List, [], ◌∷◌, ℕ}
use Rattle.refusals.specs.Told.{Told, accepted_with, refused_as, length_told}
use Rattle.attributes.specs.declared.Description.{Description}
use Rattle.refusals.specs.declared.Refusal.{Refusal}
use Rattle.std.specs.Prelude.{Result}
use Rattle.std.specs.Prelude.{Ok, Err}

abbrev pub description_list : Description → List ℕ
description_list d =
    d.service ∷ d.mode ∷ d.resource ∷ d.update ∷ d.name.at ∷ d.name.length
    ∷ d.kind ∷ d.title.at ∷ d.title.length ∷ d.summary.at ∷ d.summary.length
    ∷ d.keywords.at ∷ d.keywords.length ∷ d.charset ∷ d.path.at ∷ d.path.length ∷ d.size
    ∷ d.begins.year ∷ d.begins.month ∷ d.begins.day ∷ d.begins.hour ∷ d.begins.minute ∷ d.begins.second
    ∷ d.ends.year ∷ d.ends.month ∷ d.ends.day ∷ d.ends.hour ∷ d.ends.minute ∷ d.ends.second
    ∷ d.delete ∷ []

abbrev pub described_told : Result Description Refusal → Told
described_told (Ok d) = accepted_with (description_list d)
described_told (Err r) = refused_as r

-- the value is the length that was written
abbrev pub composed_told : Result ℕ Refusal → Told
composed_told = length_told
