-- The slot lies in the store and has room, or nothing is looked at. Whether the CRC agrees was told. The slot's length is judged next; an empty slot takes the payload, any other
-- is compared with it.
use mathlib.Core.Path.{◌≡◌, sym, ◌∙◌}
use mathlib.Core.Bool.{true}
use Prim.Native.Nat.{ℕ, ◌+◌, ◌*◌, ◌≤◌}
use native.Mathlib.Nat.{mul-le-mul}
use native.Mathlib.Omega.{arith}
use lib.ListN.{length}
use Rattle.contents.specs.Slots.{stored, stored_within}
use Rattle.contents.specs.Contents.{length_fits}
use Rattle.contents.proofs.Bytes.{room_made, stored_within_lem}
use Rattle.contents.proofs.Slots.{fits-room}
use Rattle.record.specs.Offer.{offer_judged}
use Rattle.record.specs.Put.{judge_crc, put_of}
use Rattle.record.proofs.OfferCases.{told, come, put-nowhere, put-there, put-room, put-crc, put_wrong, put-empty, put_same, put_conflict}
use Rattle.record.proofs.OfferFacts.{slot-sum}
use Rattle.storing.proofs.put_in.Goals as goal

-- no start is too large
short : (n w : ℕ) → n ≤ 4294967295 → w ≤ 65537 → n * w ≤ 4294967295 * 65537
short n w a b = mul-le-mul a b

pub overflow_cast-at : goal.overflow_cast-at
overflow_cast-at c = omega arith

pub overflow_cast-at-3 : goal.overflow_cast-at-3
overflow_cast-at-3 c = omega arith

pub overflow_add-at : goal.overflow_add-at
overflow_add-at c = omega arith

pub overflow_mul-at : goal.overflow_mul-at
overflow_mul-at c = let a = c.args in omega (arith, short a.number (a.p.slot + 2) (omega arith) (omega arith))

pub overflow_add-at-2 : goal.overflow_add-at-2
overflow_add-at-2 c = let a = c.args in omega (arith, short a.number (a.p.slot + 2) (omega arith) (omega arith))

pub slot_has-requires : goal.slot_has-requires
slot_has-requires c = let a = c.args in omega (arith, short a.number (a.p.slot + 2) (omega arith) (omega arith))

pub returns-then-not-slot_has : goal.returns-then-not-slot_has
returns-then-not-slot_has c =
    let a = c.args in
    told (put-nowhere a.p a.store.now a.number a.payload.now a.mended a.agrees _ (sym (slot-sum a.p a.number)) _ c.slot_has.ensures (c.if-not-slot_has.true))

pub returns-then-not-agrees : goal.returns-then-not-agrees
returns-then-not-agrees c =
    let start : ℕ = c.args.p.start + c.args.number * (c.args.p.slot + 2) in
    let there : put_of c.args.p c.args.store.now c.args.number c.args.payload.now c.args.mended c.args.agrees
    ≡ offer_judged c.args.p c.args.store.now (judge_crc c.args.number c.args.payload.now c.args.mended c.args.agrees) = put-there _ _ _ _ _ _ start (sym (slot-sum c.args.p c.args.number)) _ c.slot_has.ensures (c.if-not-slot_has.false) in
    let a = c.args in
    come there (told (put-crc a.p a.store.now a.number a.payload.now a.mended a.agrees (c.if-not-agrees.true)))

pub shape_of-store-then-not-length_fits : goal.shape_of-store-then-not-length_fits
shape_of-store-then-not-length_fits c = omega arith

pub returns-then-not-length_fits : goal.returns-then-not-length_fits
returns-then-not-length_fits c =
    let start : ℕ = c.args.p.start + c.args.number * (c.args.p.slot + 2) in
    let there : put_of c.args.p c.args.store.now c.args.number c.args.payload.now c.args.mended c.args.agrees
    ≡ offer_judged c.args.p c.args.store.now (judge_crc c.args.number c.args.payload.now c.args.mended c.args.agrees) = put-there _ _ _ _ _ _ start (sym (slot-sum c.args.p c.args.number)) _ c.slot_has.ensures (c.if-not-slot_has.false) in
    let a = c.args in
    come there
    (told (put_wrong a.p a.store.now a.number a.payload.now a.mended a.agrees (c.if-not-agrees.false) _ (sym (slot-sum a.p a.number)) _ c.slot_length-n.ensures (sym c.length_fits.ensures ∙ c.if-not-length_fits.true)))

pub shape_of-store-then-n-eq0 : goal.shape_of-store-then-n-eq0
shape_of-store-then-n-eq0 c = omega arith

pub returns-then-n-eq0 : goal.returns-then-n-eq0
returns-then-n-eq0 c =
    let start : ℕ = c.args.p.start + c.args.number * (c.args.p.slot + 2) in
    let there : put_of c.args.p c.args.store.now c.args.number c.args.payload.now c.args.mended c.args.agrees
    ≡ offer_judged c.args.p c.args.store.now (judge_crc c.args.number c.args.payload.now c.args.mended c.args.agrees) = put-there _ _ _ _ _ _ start (sym (slot-sum c.args.p c.args.number)) _ c.slot_has.ensures (c.if-not-slot_has.false) in
    let agreed : c.args.agrees ≡ true = c.if-not-agrees.false in
    let room : (start + (c.args.p.slot + 2) ≤ length c.args.store.now) × (length c.args.payload.now ≤ c.args.p.slot) = put-room _ c.args.store.now c.args.number c.args.payload.now c.args.mended c.args.agrees start (sym (slot-sum c.args.p c.args.number)) _ c.slot_has.ensures (c.if-not-slot_has.false) in
    let at : ℕ = start in
    let taken : stored_within c.args.store.now at c.args.payload.now ≡ stored c.args.store.now at c.args.payload.now = stored_within_lem c.args.store.now at c.args.payload.now
    (room_made (length c.args.store.now) at (length c.args.payload.now) (omega (arith, room.1)) (omega (arith, room.0, room.1))) in
    let a = c.args in
    let w = come there (told (put-empty a.p a.store.now a.number a.payload.now a.mended a.agrees agreed _ (sym (slot-sum a.p a.number)) _ c.slot_length-n.ensures c.if-n-eq0.true)) in
    (w.0, c.put_slot.ensures.1 ∙ taken ∙ w.1)

pub overflow_add-from : goal.overflow_add-from
overflow_add-from c =
    let start : ℕ = c.args.p.start + c.args.number * (c.args.p.slot + 2) in
    let room : (start + (c.args.p.slot + 2) ≤ length c.args.store.now) × (length c.args.payload.now ≤ c.args.p.slot) = put-room _ c.args.store.now c.args.number c.args.payload.now c.args.mended c.args.agrees start (sym (slot-sum c.args.p c.args.number)) _ c.slot_has.ensures (c.if-not-slot_has.false) in
    let at : ℕ = start in
    let fits : length_fits c.args.p c.slot_length-n.result ≡ true = sym c.length_fits.ensures ∙ c.if-not-length_fits.false in
    let ends : at + 2 + c.slot_length-n.result ≤ length c.args.store.now = omega (arith, room.0, fits-room c.args.p _ fits) in
    omega (arith, ends)

pub overflow_add-from-2 : goal.overflow_add-from-2
overflow_add-from-2 c =
    let start : ℕ = c.args.p.start + c.args.number * (c.args.p.slot + 2) in
    let room : (start + (c.args.p.slot + 2) ≤ length c.args.store.now) × (length c.args.payload.now ≤ c.args.p.slot) = put-room _ c.args.store.now c.args.number c.args.payload.now c.args.mended c.args.agrees start (sym (slot-sum c.args.p c.args.number)) _ c.slot_has.ensures (c.if-not-slot_has.false) in
    let at : ℕ = start in
    let fits : length_fits c.args.p c.slot_length-n.result ≡ true = sym c.length_fits.ensures ∙ c.if-not-length_fits.false in
    let ends : at + 2 + c.slot_length-n.result ≤ length c.args.store.now = omega (arith, room.0, fits-room c.args.p _ fits) in
    omega (arith, ends)

pub slice_bounds-same-count : goal.slice_bounds-same-count
slice_bounds-same-count c = omega arith

pub slice_bounds-same-start : goal.slice_bounds-same-start
slice_bounds-same-start c = omega arith

pub slice_bounds-same-end : goal.slice_bounds-same-end
slice_bounds-same-end c =
    let start : ℕ = c.args.p.start + c.args.number * (c.args.p.slot + 2) in
    let room : (start + (c.args.p.slot + 2) ≤ length c.args.store.now) × (length c.args.payload.now ≤ c.args.p.slot) = put-room _ c.args.store.now c.args.number c.args.payload.now c.args.mended c.args.agrees start (sym (slot-sum c.args.p c.args.number)) _ c.slot_has.ensures (c.if-not-slot_has.false) in
    let at : ℕ = start in
    let fits : length_fits c.args.p c.slot_length-n.result ≡ true = sym c.length_fits.ensures ∙ c.if-not-length_fits.false in
    let ends : at + 2 + c.slot_length-n.result ≤ length c.args.store.now = omega (arith, room.0, fits-room c.args.p _ fits) in
    omega (arith, ends)

pub shape_of-store-then-same : goal.shape_of-store-then-same
shape_of-store-then-same c = omega arith

pub returns-then-same : goal.returns-then-same
returns-then-same c =
    let start : ℕ = c.args.p.start + c.args.number * (c.args.p.slot + 2) in
    let there : put_of c.args.p c.args.store.now c.args.number c.args.payload.now c.args.mended c.args.agrees
    ≡ offer_judged c.args.p c.args.store.now (judge_crc c.args.number c.args.payload.now c.args.mended c.args.agrees) = put-there _ _ _ _ _ _ start (sym (slot-sum c.args.p c.args.number)) _ c.slot_has.ensures (c.if-not-slot_has.false) in
    let agreed : c.args.agrees ≡ true = c.if-not-agrees.false in
    let fits : length_fits c.args.p c.slot_length-n.result ≡ true = sym c.length_fits.ensures ∙ c.if-not-length_fits.false in
    let room : (start + (c.args.p.slot + 2) ≤ length c.args.store.now) × (length c.args.payload.now ≤ c.args.p.slot) = put-room _ c.args.store.now c.args.number c.args.payload.now c.args.mended c.args.agrees start (sym (slot-sum c.args.p c.args.number)) _ c.slot_has.ensures (c.if-not-slot_has.false) in
    let at : ℕ = start in
    let ends : at + 2 + c.slot_length-n.result ≤ length c.args.store.now = omega (arith, room.0, fits-room c.args.p _ fits) in
    let a = c.args in
    come there
    (told (put_same a.p a.store.now a.number a.payload.now a.mended a.agrees agreed _ (sym (slot-sum a.p a.number)) _ c.slot_length-n.ensures fits c.if-n-eq0.false ends _ c.same.ensures c.if-same.true))

pub shape_of-store : goal.shape_of-store
shape_of-store c = omega arith

pub returns : goal.returns
returns c =
    let start : ℕ = c.args.p.start + c.args.number * (c.args.p.slot + 2) in
    let there : put_of c.args.p c.args.store.now c.args.number c.args.payload.now c.args.mended c.args.agrees
    ≡ offer_judged c.args.p c.args.store.now (judge_crc c.args.number c.args.payload.now c.args.mended c.args.agrees) = put-there _ _ _ _ _ _ start (sym (slot-sum c.args.p c.args.number)) _ c.slot_has.ensures (c.if-not-slot_has.false) in
    let agreed : c.args.agrees ≡ true = c.if-not-agrees.false in
    let fits : length_fits c.args.p c.slot_length-n.result ≡ true = sym c.length_fits.ensures ∙ c.if-not-length_fits.false in
    let room : (start + (c.args.p.slot + 2) ≤ length c.args.store.now) × (length c.args.payload.now ≤ c.args.p.slot) = put-room _ c.args.store.now c.args.number c.args.payload.now c.args.mended c.args.agrees start (sym (slot-sum c.args.p c.args.number)) _ c.slot_has.ensures (c.if-not-slot_has.false) in
    let at : ℕ = start in
    let ends : at + 2 + c.slot_length-n.result ≤ length c.args.store.now = omega (arith, room.0, fits-room c.args.p _ fits) in
    let a = c.args in
    come there
    (told (put_conflict a.p a.store.now a.number a.payload.now a.mended a.agrees agreed _ (sym (slot-sum a.p a.number)) _ c.slot_length-n.ensures fits c.if-n-eq0.false ends _ c.same.ensures c.if-same.false))
