-- Readings of a packet's fields that tell the same are the same: each of the nine fields is read back from the list.
-- Assumes nothing.
use mathlib.Core.Path.{◌≡◌, refl}
use mathlib.Core.List.{List}
use Prim.Native.Nat.{ℕ}
use lib.ListN.{get_or}
use Rattle.refusals.proofs.Told.{answer_in, refused_back, told-apart}
use Rattle.packet.specs.Told.{reading_told}
use Rattle.refusals.specs.declared.Refusal.{Refusal}
use Rattle.packet.specs.declared.Packet.{Packet}
use Rattle.std.specs.Prelude.{Result}
use Rattle.std.specs.Prelude.{Ok, Err}

abbrev sent_in : List ℕ → Result Packet Refusal
sent_in l =
    Ok (record {
      resource = get_or l 0 0;
      number = get_or l 1 0;
      update = get_or l 2 0;
      length = get_or l 3 0;
      count = get_or l 4 0;
      kind = get_or l 5 0;
      protection = get_or l 6 0;
      rows = get_or l 7 0;
      reserved = get_or l 8 0;
    })

reading_back : (x : Result Packet Refusal) → answer_in sent_in Err (reading_told x) ≡ x
reading_back (Ok f) = refl
reading_back (Err r) = refused_back sent_in Err r

pub reading_apart : (x y : Result Packet Refusal) → reading_told x ≡ reading_told y → x ≡ y
reading_apart = told-apart reading_told (answer_in sent_in Err) reading_back
