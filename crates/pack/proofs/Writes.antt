-- Header, payload and CRC, stored one behind the other, are the packet at the start of the output; and what packing answers then.
-- Assumes nothing.
use mathlib.Core.Path.{◌≡◌, sym, ap, ap₂, ◌∙◌}
use mathlib.Core.Bool.{Bool, cond}
use mathlib.Core.List.{List, ◌++◌}
use Prim.Native.Nat.{ℕ, ◌+◌, ◌-◌, ◌<◌, ◌≤◌}
use native.Mathlib.Omega.{arith}
use borrow.Author.Tests.{lt-ltb, le-ltb}
use borrow.Rule.Slice.PartMut.{put_mid}
use lib.ListN.{length, take, drop, length-append}
use lib.Seq.{sets, length-sets, take_at}
use Rattle.ground.proofs.Writing.{sets-append, sets-front, lent-sets}
use Rattle.crc.specs.Crc.{crc32_of}
use Rattle.refusals.specs.declared.Refusal.TheVariants.{Output}
use Rattle.pack.specs.Pack.{Packing, refusing, written, Packs}
use Rattle.sealing.specs.Sealing.{four_bytes, sealed, sealed_at}
use Rattle.sealing.proofs.Laws.{seal_told}
use Rattle.std.specs.Prelude.{Ok, Err}

-- ---- the answers
pub no_room : (q out : List ℕ) → length out < length q → Packs (written q out) (Err Output) out
unfolding written
no_room q out h =
    let e = ap (λ (b : Bool). cond b (refusing Output out) (record { answer = Ok (length q); output = q ++ drop (length q) out })) (lt-ltb (length out) (length q) h) in
    record { answer = sym (ap (λ (p : Packing). p.answer) e); output = sym (ap (λ (p : Packing). p.output) e) }

pub wrote : (q out x : List ℕ) (k : ℕ) → length q ≤ length out → k ≡ length q → x ≡ q ++ drop (length q) out → Packs (written q out) (Ok k) x
unfolding written
wrote q out x k h l w =
    let e = ap (λ (b : Bool). cond b (refusing Output out) (record { answer = Ok (length q); output = q ++ drop (length q) out })) (le-ltb (length out) (length q) h) in
    record { answer = ap Ok l ∙ sym (ap (λ (p : Packing). p.answer) e); output = w ∙ sym (ap (λ (p : Packing). p.output) e) }

-- ---- the stores
module _ (out h b : List ℕ) (size : ℕ) (eh : length h ≡ 14) (eb : length b ≡ size) (room : 14 + size + 4 ≤ length out) where
  both : length (h ++ b) ≡ 14 + size
  both = length-append h b ∙ ap₂ (λ (x y : ℕ). x + y) eh eb

  -- the header, and then the payload in the part that was lent, from byte 14 on
  pub body_stored : (head part : List ℕ) → head ≡ sets out 0 h → part ≡ sets (take (length head - 14) (drop 14 head)) 0 b
      → put_mid 14 (length head - 14) head part ≡ sets out 0 (h ++ b)
  body_stored head part e f =
      let l : length head ≡ length out = ap length e ∙ length-sets out 0 h in
      let z : 14 + 0 ≡ 0 + length h = omega arith in
      ap (put_mid 14 (length head - 14) head) f ∙ lent-sets 14 b head 0 (omega arith) ∙ ap₂ (λ (x : List ℕ) (y : ℕ). sets x y b) e z ∙ sym (sets-append out 0 h b)

  -- and the CRC behind them
  pub packet_stored : (body x : List ℕ) → body ≡ sets out 0 (h ++ b) → x ≡ sealed_at body (14 + size)
      → x ≡ sealed (h ++ b) ++ drop (length (sealed (h ++ b))) out
  unfolding sealed
  packet_stored body x e f =
      let r : length (h ++ b) ≤ length out = omega (arith, both) in
      let t : take (14 + size) body ≡ h ++ b = ap (take (14 + size)) (e ∙ sets-front out (h ++ b) r) ∙ take_at (h ++ b) (drop (length (h ++ b)) out) (14 + size) both in
      let c : List ℕ = four_bytes (crc32_of (h ++ b)) in
      let z : 14 + size ≡ 0 + length (h ++ b) = omega (arith, both) in
      let l : length body ≡ length out = ap length e ∙ length-sets out 0 (h ++ b) in
      f ∙ seal_told body (14 + size) (omega arith)
      ∙ ap (λ (y : List ℕ). sets body (14 + size) (four_bytes (crc32_of y))) t
      ∙ ap₂ (λ (y : List ℕ) (k : ℕ). sets y k c) e z ∙ sym (sets-append out 0 (h ++ b) c)
      ∙ sets-front out ((h ++ b) ++ c) (omega (arith, both, length-append (h ++ b) c))
