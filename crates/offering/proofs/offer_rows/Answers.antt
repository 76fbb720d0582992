-- The payload is copied to the front of the buffer and mended there; so it goes on, with what is said of its CRC.
-- Assumes nothing.
use mathlib.Core.Path.{◌≡◌, sym, ap, subst, ◌∙◌}
use mathlib.Core.List.{List, ◌++◌}
use Prim.Native.Nat.{ℕ}
use native.Mathlib.Omega.{arith}
use lib.ListN.{length, take, drop, length-append}
use lib.Seq.{take_at}
use Rattle.std.proofs.lemmas.Result.{err_from_is_err_and}
use Rattle.repair.specs.Repair.{mending_of, Mends}
use Rattle.repair.proofs.AllRows.{mend_accepted}
use Rattle.code.specs.Mend.{whole}
use Rattle.record.specs.Offer.{offer_judged}
use Rattle.sealing.proofs.Laws.{agrees-long}
use Rattle.record.proofs.OfferCases.{told, come, put_at_lem, copied_part, rows-broken, mended-crc}
use Rattle.offering.proofs.offer_rows.Goals as goal

pub slice_bounds-mend-end : goal.slice_bounds-mend-end
slice_bounds-mend-end c =
    let b : List ℕ = c.args.payload.now in
    let part : take (length b) c.copy_in.new.store ≡ b = copied_part b c.copy_in.new.store (omega arith) c.copy_in.ensures in
    sym (ap length part)

pub returns-in_err-mended : goal.returns-in_err-mended
returns-in_err-mended c =
    let b : List ℕ = c.args.payload.now in
    let part : take (length b) c.copy_in.new.store ≡ b = copied_part b c.copy_in.new.store (omega arith) c.copy_in.ensures in
    let mended : Mends (mending_of b) c.mend.result c.mend.new.rows = subst (λ (l : List ℕ). Mends (mending_of l) c.mend.result c.mend.new.rows) part c.mend.ensures in
    let p = err_from_is_err_and c.from_residual.result c.from_residual.ensures.1 in
    rw (p.1, p.2) (told (rows-broken b c.requires.4 c.requires.3 _ _ mended _ _ _ _ _ c.in_err-mended.was))

pub returns : goal.returns
returns c =
    let b : List ℕ = c.args.payload.now in
    let part : take (length b) c.copy_in.new.store ≡ b = copied_part b c.copy_in.new.store (omega arith) c.copy_in.ensures in
    let mended : Mends (mending_of b) c.mend.result c.mend.new.rows = subst (λ (l : List ℕ). Mends (mending_of l) c.mend.result c.mend.new.rows) part c.mend.ensures in
    let long : length c.mend.new.rows ≡ length b = c.mend.auto.rows ∙ ap length part in
    let front : (rest : List ℕ) → take (length b) (c.mend.new.rows ++ rest) ≡ c.mend.new.rows = λ rest. take_at c.mend.new.rows rest (length b) long in
    let a = c.args in
    come
    (ap (offer_judged a.p a.store.now)
    (mended-crc a.number a.packet.now _ _ _
    (mend_accepted b c.requires.4 c.requires.3 _ _ mended _ c.in_ok-mended.was ∙ ap (λ (l : List ℕ). whole l c.in_ok-mended.mended) (sym (front _)))
    _ (c.agrees.ensures ∙ agrees-long a.packet.now _ c.requires.1)))
    (come
    (sym
    (put_at_lem a.p a.store.now a.number _ _ _ c.requires.0
    (omega (arith, ap length (front (drop (length b) c.copy_in.new.store)), long, c.requires.2))))
    c.put_in.ensures)

pub slice_bounds-repaired-end : goal.slice_bounds-repaired-end
slice_bounds-repaired-end c =
    let b : List ℕ = c.args.payload.now in
    let part : take (length b) c.copy_in.new.store ≡ b = copied_part b c.copy_in.new.store (omega arith) c.copy_in.ensures in
    let long : length c.mend.new.rows ≡ length b = c.mend.auto.rows ∙ ap length part in
    let front : (rest : List ℕ) → take (length b) (c.mend.new.rows ++ rest) ≡ c.mend.new.rows = λ rest. take_at c.mend.new.rows rest (length b) long in
    sym (ap length (front (drop (length b) c.copy_in.new.store)) ∙ long)

pub slice_bounds-buffer-end-2 : goal.slice_bounds-buffer-end-2
slice_bounds-buffer-end-2 c =
    let b : List ℕ = c.args.payload.now in
    let part : take (length b) c.copy_in.new.store ≡ b = copied_part b c.copy_in.new.store (omega arith) c.copy_in.ensures in
    let long : length c.mend.new.rows ≡ length b = c.mend.auto.rows ∙ ap length part in
    omega (arith, long, length-append c.mend.new.rows (drop (length b) c.copy_in.new.store))
