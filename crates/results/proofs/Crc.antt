-- One result (document 01, section 7) of each public call of crate crc, by that call's own contract.
-- Assumes nothing.
use borrow.Fn.Kinds.{ended_of}
use mathlib.Core.Path.{◌≡◌, refl, sym, ap, ◌∙◌}
use mathlib.Core.List.{List}
use Prim.Native.Nat.{ℕ, ◌/◌, ◌%◌, ◌<◌}
use native.Mathlib.Nat.{mod-lt, zero-lt-suc, div-add-mod'}
use native.Mathlib.Omega.{arith}
use lib.ListN.{length, get_or}
use lib.Seq.{ext_get_or}
use Rattle.ground.proofs.OneResult.{equation}
use Rattle.crc.specs.Table.{Rule, effect}
use Rattle.results.specs.OneResult.{OneResult}
use Rattle.crc.proofs as crc

-- the rule names every entry, and how many there are
same-table : (r s : List ℕ) → Rule 32 0x04C11DB7 32 r → Rule 32 0x04C11DB7 32 s → r ≡ s
same-table r s p q = ext_get_or 0 r s (p.size ∙ sym q.size) (λ i h. at r p i h ∙ sym (at s q i (omega (arith, p.size, q.size))))
  where
    at : (t : List ℕ) → Rule 32 0x04C11DB7 32 t → (i : ℕ) → i < length t → get_or t i 0 ≡ effect 32 0x04C11DB7 (i / 16) (i % 16)
    at t u i h =
        ap (λ (j : ℕ). get_or t j 0) (sym (div-add-mod' i 16)) ∙ u.entry (i / 16) (i % 16) (omega (arith, u.size)) (mod-lt i (zero-lt-suc 15))

pub table_one : OneResult (ended_of _ crc.table.Kinds.ps crc.table.Kinds.r) crc.table.Reads.Learnt
table_one κs a r s d e p q = (same-table r s p q, refl)

pub feed_by_one : OneResult (ended_of _ crc.feed_by.Kinds.ps crc.feed_by.Kinds.r) crc.feed_by.Reads.Learnt
feed_by_one κs a r s d e p q = (equation p q, refl)
