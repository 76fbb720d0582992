-- Where there is room the payload is copied behind the two bytes of the length, which are written then: the same store as in the order in which they stand.
use mathlib.Core.Bool.{true}
use mathlib.Core.List.{[], ◌∷◌}
use mathlib.Core.Path.{◌≡◌, sym, ◌∙◌}
use Prim.Native.Nat.{◌+◌, ◌/◌, ◌%◌, ◌<◌, ◌≤◌}
use native.Mathlib.Omega.{arith}
use borrow.Author.Rules.{rules}
use lib.ListN.{length}
use Rattle.contents.specs.Slots.{room_for}
use Rattle.contents.proofs.Bytes.{room-known, stored_made, stored_within_lem, stored-nowhere, slot_served, slot-refused}
use Rattle.contents.proofs.put_slot.Goals as goal

pub returns-then-not-has_room : goal.returns-then-not-has_room
returns-then-not-has_room c =
    let a = c.args in
    let none = sym c.has_room.ensures ∙ c.if-not-has_room.true in
    (slot-refused _ _ _ none, sym (stored-nowhere a.store.now a.at a.payload.now none))

pub returns : goal.returns
returns c =
    let a = c.args in
    let tested : room_for (length a.store.now) a.at (length a.payload.now) ≡ true = sym c.has_room.ensures ∙ c.if-not-has_room.false in
    let room : (length a.payload.now < 65536) × (a.at + 2 + length a.payload.now ≤ length a.store.now) = room-known _ _ _ tested in
    let bytes : c.copy_from_slice.new.self ≡ length a.payload.now % 256 ∷ length a.payload.now / 256 ∷ [] = search rules in (
      slot_served _ _ _ tested,
      stored_made a.store.now a.at a.payload.now _ _ _ (omega arith) c.copy_in.ensures (omega arith) bytes
          ∙ sym (stored_within_lem a.store.now a.at a.payload.now tested),
    )
