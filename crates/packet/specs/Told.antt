-- What reading a packet's fields tells: document 01, sections 2 and 6; with the edition, document 02, R-9.
-- Assumes nothing.
use Rattle.std.specs.Prelude.{List, [], ◌∷◌, ℕ}
use Rattle.refusals.specs.Told.{Told, accepted_with, refused_as}
use Rattle.packet.specs.declared.Packet.{Packet}
use Rattle.packet.specs.Edition.{edition_of}
use Rattle.refusals.specs.declared.Refusal.{Refusal}
use Rattle.std.specs.Prelude.{Result}
use Rattle.std.specs.Prelude.{Ok, Err}

-- every field as sent, in the order of the table: resource, number, update, length, count, type, protection, rows, reserved; then the edition that they show
abbrev pub field_list : Packet → List ℕ
field_list f =
    f.resource ∷ f.number ∷ f.update ∷ f.length ∷ f.count ∷ f.kind ∷ f.protection ∷ f.rows ∷ f.reserved
    ∷ edition_of f ∷ []

abbrev pub reading_told : Result Packet Refusal → Told
reading_told (Ok f) = accepted_with (field_list f)
reading_told (Err r) = refused_as r
