-- The CRC of a header and a payload, fed in two parts; what the calls answer where there is room, and where there is none.
-- Assumes nothing.
use mathlib.Core.Path.{◌≡◌, refl, sym, ap, ap₂, ◌∙◌}
use mathlib.Core.Bool.{false}
use mathlib.Core.List.{List, [], ◌∷◌, ◌++◌}
use Prim.Native.Nat.{ℕ, ◌+◌, ◌≤◌, ◌<◌}
use borrow.Author.Tests.{le-leb, lt-leb}
use lib.Dec.{eqb}
use lib.ListN.{length, take}
use lib.Seq.{sets}
use Rattle.ground.specs.Bits.{sum}
use Rattle.refusals.specs.declared.Refusal.TheVariants.{Output}
use Rattle.crc.specs.Crc.{ones, crc32_of}
use Rattle.crc.specs.Table.{Rule, feed_by}
use Rattle.crc.proofs.Parts.{fed_more, fed_all}
use Rattle.crc.proofs.Walk.{feed_by_table}
use Rattle.sealing.specs.Sealing.{four_bytes, seal_verdict, sealed_at, crc_in, agrees, crc_agrees}
use Rattle.std.specs.Prelude.{Ok, Err}

-- the header x goes in first, to the register at its start, then the payload y
pub crc_fed : (t : List ℕ) → Rule 32 0x04C11DB7 32 t → (x y : List ℕ) (z r s : ℕ) → z ≡ ones 32
    → r ≡ feed_by 32 t (16 ∷ 4 ∷ 1 ∷ []) z x → s ≡ feed_by 32 t (16 ∷ 4 ∷ 1 ∷ []) r y → sum s (ones 32) ≡ crc32_of (x ++ y)
crc_fed t rule x y z r s d p q =
    fed_all 32 0x04C11DB7 s (x ++ y)
    (fed_more 32 0x04C11DB7 (ones 32) r s x y
    (p ∙ ap (λ (k : ℕ). feed_by 32 t (16 ∷ 4 ∷ 1 ∷ []) k x) d ∙ feed_by_table t rule (ones 32) x)
    (q ∙ feed_by_table t rule r y))

-- ---- judging

pub agrees-long : (q b : List ℕ) → 14 ≤ length q → crc_agrees q b ≡ agrees q b
unfolding crc_agrees
agrees-long q b h = rw (le-leb 14 (length q) h) refl

pub agrees-short : (q b : List ℕ) → length q < 14 → false ≡ crc_agrees q b
unfolding crc_agrees
agrees-short q b h = rw (lt-leb 14 (length q) h) refl

pub agrees-told : (q b : List ℕ) → 14 ≤ length q → (x y : ℕ) → x ≡ crc_in q → y ≡ crc32_of (take 14 q ++ b) → eqb x y ≡ crc_agrees q b
unfolding agrees
agrees-told q b h x y d e = ap₂ eqb d e ∙ sym (agrees-long q b h)

-- ---- writing

pub seal_told : (out : List ℕ) (n : ℕ) → n + 4 ≤ length out → sealed_at out n ≡ sets out n (four_bytes (crc32_of (take n out)))
unfolding sealed_at
seal_told out n h = rw (le-leb (n + 4) (length out) h) refl

pub seal_served : (room n : ℕ) → n + 4 ≤ room → (Ok tt) ≡ seal_verdict room n
unfolding seal_verdict
seal_served room n h = rw (le-leb (n + 4) room h) refl

pub seal_refused : (out : List ℕ) (n : ℕ) → length out < n + 4 → (Err Output ≡ seal_verdict (length out) n) × (out ≡ sealed_at out n)
unfolding seal_verdict sealed_at
seal_refused out n h = rw (lt-leb (n + 4) (length out) h) (refl, refl)
