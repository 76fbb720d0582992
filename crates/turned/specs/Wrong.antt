-- Programs that are turned away: document 01, section 7; document 02, R-7, R-8 and R-9. Each is of the calls' own type, and does all else as `step` does; proofs/Turned.antt, FirstRow.antt, Either.antt and Unrestored.antt show which
-- promise each breaks. Assumes nothing.
use Rattle.std.specs.Prelude.{cond, List, [], ◌∷◌, ◌++◌, map, ℕ, ◌+◌, ◌*◌, ◌%◌, eqb, get_or, take, drop}
use Rattle.refusals.specs.declared.Refusal.TheVariants.{Unknown, Field}
use Rattle.refusals.specs.Told.{accepted_with, refused_as}
use Rattle.code.specs.Repair.{repair_of}
use Rattle.code.specs.Mend.{Mended, whole, behind}
use Rattle.packet.specs.Packet.{fields_in}
use Rattle.packet.specs.Edition.{edition_of}
use Rattle.places.specs.declared.Place.{Place}
use Rattle.places.specs.declared.Record.{Record}
use Rattle.places.specs.Places.{unused, in_use, place_named}
use Rattle.ground.specs.Lists.{listed}
use Rattle.layout.specs.Layout.{spot_of}
use Rattle.contents.specs.Contents.{Slot as Content, contents}
use Rattle.losses.specs.Losses.{row_came}
use Rattle.columns.specs.Columns.{row_in}
use Rattle.record.specs.Mend.{payload_in}
use Rattle.record.specs.Offer.{offer_by, offer_of}
use Rattle.record.specs.Told.{offered_told}
use Rattle.promises.specs.Calls.{Answer, telling, State, Outcome, Program, step}
use Rattle.promises.specs.Calls.Call.{packing, opening, offering, asking, handing, closing}
use Rattle.std.specs.Prelude.{Option}
use Rattle.std.specs.Prelude.{Some, None}

-- it refuses everything
unfoldable pub refusing : Program
refusing (packing file g n out) x = record { answer = record { told = refused_as Field; output = out }; state = x }
refusing (opening g count) x = record { answer = telling (refused_as Field); state = x }
refusing (offering q) x = record { answer = telling (refused_as Unknown); state = x }
refusing (asking r) x = record { answer = telling (refused_as Unknown); state = x }
refusing (handing r n out) x = record { answer = record { told = refused_as Unknown; output = out }; state = x }
refusing (closing r) x = record { answer = telling (refused_as Unknown); state = x }

-- `step`, but for offers
abbrev pub offering_by : (List ℕ → State → Outcome) → Program
offering_by o (packing file g n out) x = step (packing file g n out) x
offering_by o (opening g count) x = step (opening g count) x
offering_by o (offering q) x = o q x
offering_by o (asking r) x = step (asking r) x
offering_by o (handing r n out) x = step (handing r n out) x
offering_by o (closing r) x = step (closing r) x

-- it stores nothing, and says that it did
unfoldable pub losing : Program
losing = offering_by (λ q x. record { answer = telling (accepted_with (0 ∷ [])); state = x })

-- it answers Stored always
unfoldable pub boasting : Program
boasting = offering_by (λ q x. record { answer = telling (accepted_with (0 ∷ [])); state = (step (offering q) x).state })

-- it mends, and tells of no byte that it mended: 0 for Stored, 1 for Repeat
abbrev pub hushed : Answer → Answer
hushed a = cond (eqb a.told.number 0) (telling (accepted_with ((get_or a.told.values 0 0 % 2) ∷ []))) a

unfoldable pub silent : Program
silent = offering_by (λ q x. record { answer = hushed (step (offering q) x).answer; state = (step (offering q) x).state })

-- it takes either edition: to an offered packet every place in use is as if it were of the packet's
abbrev pub as_in : ℕ → Place → Place
as_in edition p =
    cond (in_use p)
    (record {
      resource = p.resource;
      kind = p.kind;
      update = p.update;
      count = p.count;
      protection = p.protection;
      rows = p.rows;
      slot = p.slot;
      start = p.start;
      edition = edition;
      order = p.order;
    })
    p

abbrev pub all_in : ℕ → Record → Record
all_in edition h = record { places = map (as_in edition) h.places }

unfoldable pub taking_either : Program
taking_either =
    offering_by (λ q x. record {
      answer = telling (offered_told (offer_of (all_in (edition_of (fields_in q)) x.held) x.store q).answer);
      state = record { held = x.held; store = (offer_of (all_in (edition_of (fields_in q)) x.held) x.store q).store };
    })

-- its Status refuses where it should, and invents a number for every place that is open
abbrev pub invented : Answer → Answer
invented a = cond (eqb a.told.number 0) (telling (accepted_with (7 ∷ []))) a

unfoldable pub inventing : Program
inventing (packing file g n out) x = step (packing file g n out) x
inventing (opening g count) x = step (opening g count) x
inventing (offering q) x = step (offering q) x
inventing (asking r) x = record { answer = invented (step (asking r) x).answer; state = x }
inventing (handing r n out) x = step (handing r n out) x
inventing (closing r) x = step (closing r) x

-- a repair of packets that mends row 0 only and passes the rest through, and the program that offers so
unfoldable pub first_row_only : ℕ → List ℕ → Mended
first_row_only protection q =
    cond (eqb protection 0) (whole (payload_in q) 0) (behind (take 255 (payload_in q)) (repair_of (take 255 (payload_in q))) 0 (whole (drop 255 (payload_in q)) 0))

unfoldable pub mending_first : Program
mending_first =
    offering_by (λ q x. record {
      answer = telling (offered_told (offer_by first_row_only x.held x.store q).answer);
      state = record { held = x.held; store = (offer_by first_row_only x.held x.store q).store };
    })

-- ---- column order: hand out by other rows than the restored ones

-- n bytes of a file, read from the rows of its tables
abbrev pub file_in : ℕ → (ℕ → List ℕ) → ℕ → List ℕ
file_in m row n = listed (λ i. get_or (row ((spot_of m i).table * m + (spot_of m i).row)) (spot_of m i).column 0) n 0

-- where `step` hands out, the file is read from rows that are made of what came in another way
abbrev pub handed_by : (ℕ → ℕ → List Content → ℕ → List ℕ) → State → ℕ → List ℕ → Option ℕ → List ℕ
handed_by row x n out None = out
handed_by row x n out (Some i) =
    file_in (get_or x.held.places i unused).rows
    (row (get_or x.held.places i unused).rows (get_or x.held.places i unused).slot (contents (get_or x.held.places i unused) x.store)) n ++ drop n out

unfoldable pub handing_by : (ℕ → ℕ → List Content → ℕ → List ℕ) → Program
handing_by row (packing file g n out) x = step (packing file g n out) x
handing_by row (opening g count) x = step (opening g count) x
handing_by row (offering q) x = step (offering q) x
handing_by row (asking r) x = step (asking r) x
handing_by row (handing r n out) x = record {
  answer = cond (eqb (step (handing r n out) x).answer.told.number 0)
      (record { told = accepted_with []; output = handed_by row x n out (place_named x.held.places r) }) (step (handing r n out) x).answer;
  state = x;
}
handing_by row (closing r) x = step (closing r) x

-- it leaves losses 0
abbrev pub leaving_zeros : Program
leaving_zeros = handing_by row_came

-- it repairs rows, as if what is lost were wrong, instead of restoring them
abbrev pub repairing : Program
repairing = handing_by (λ m size c q. row_in (repair_of (row_came m size c q)))
