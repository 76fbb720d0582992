-- `pack::put_packet` meets its contract: the header, the payload in the lent part behind it and the CRC are stored one behind the other, and together they are the
-- packet; where there is no room for it nothing is stored. Assumes nothing.
use mathlib.Core.Path.{◌≡◌, sym, ap₂, subst, ◌∙◌}
use Prim.Native.Nat.{ℕ, ◌+◌, ◌≤◌}
use native.Mathlib.Omega.{arith}
use borrow.Author.Rules.{rules}
use lib.ListN.{length}
use lib.Seq.{sets}
use Rattle.pack.specs.Pack.{count_of, payload_of, header_for, packet_of}
use Rattle.pack.proofs.Laws.{length-header, length_packet}
use Rattle.pack.proofs.Parts.{payload_is, payload_limit}
use Rattle.pack.proofs.Writes.{no_room, wrote, body_stored, packet_stored}
use Rattle.pack.proofs.put_packet.Goals as goal

pub overflow_add-end : goal.overflow_add-end
overflow_add-end c = omega arith

pub overflow_add-end-2 : goal.overflow_add-end-2
overflow_add-end-2 c = omega arith

pub returns-then-out-end : goal.returns-then-out-end
returns-then-out-end c =
    let a = c.args in
    let e : a.size ≡ length (payload_of a.settings a.file.now a.number) = c.requires.2 ∙ payload_is a.settings a.file.now a.number c.requires.0 in
    no_room (packet_of a.settings a.file.now a.number) a.out.now (omega (arith, length_packet a.settings a.file.now a.number))

pub put_header-requires : goal.put_header-requires
put_header-requires c =
    let a = c.args in
    let l = payload_limit a.settings a.file.now a.number c.requires.0 in
    (subst (λ (s : ℕ). s ≤ 4077) (sym c.requires.2) l, search rules)

pub slice_bounds-put_payload-count : goal.slice_bounds-put_payload-count
slice_bounds-put_payload-count c = omega arith

pub slice_bounds-put_payload-start : goal.slice_bounds-put_payload-start
slice_bounds-put_payload-start c = omega arith

pub slice_bounds-put_payload-end : goal.slice_bounds-put_payload-end
slice_bounds-put_payload-end c = omega arith

pub overflow_add-result : goal.overflow_add-result
overflow_add-result c = omega arith

pub shape_of-out : goal.shape_of-out
shape_of-out c = omega arith

pub returns : goal.returns
unfolding packet_of
returns c =
    let a = c.args in
    let e : a.size ≡ length (payload_of a.settings a.file.now a.number) = c.requires.2 ∙ payload_is a.settings a.file.now a.number c.requires.0 in
    let g = a.settings in
    let b = payload_of g a.file.now a.number in
    let h = header_for g (count_of g (length a.file.now)) a.number (length b) in
    let n = length-header g (count_of g (length a.file.now)) a.number (length b) in
    let r : 14 + a.size + 4 ≤ length a.out.now = search rules in
    wrote (packet_of g a.file.now a.number) a.out.now _ _ (omega (arith, length_packet g a.file.now a.number))
    (omega (arith, length_packet g a.file.now a.number))
    (packet_stored a.out.now h b a.size n (sym e) r _ _
    (body_stored a.out.now h b a.size n (sym e) r _ _
    (c.put_header.ensures ∙ ap₂ (λ (x y : ℕ). sets a.out.now 0 (header_for g x a.number y)) c.requires.1 e)
    c.put_payload.ensures)
    c.seal.ensures.1)
