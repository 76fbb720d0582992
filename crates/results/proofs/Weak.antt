-- Contracts too weak to have one result: `OneResult` turns away one that leaves the result open, and one that leaves lent bytes open.
-- Assumes nothing.
use borrow.Fn.Kinds.{ended_of}
use mathlib.Core.Path.{◌≡◌, refl, ap}
use mathlib.Core.List.{List, [], ◌∷◌}
use Prim.Native.Nat.{ℕ, ◌≤◌}
use native.Mathlib.Omega.{arith}
use lib.ListN.{length, get_or}
use denote.Ref.{Bor, MutBor}
use Rattle.results.specs.OneResult.{OneResult}
use Rattle.checksum.proofs as checksum
use Rattle.slices.proofs as slices

differ : ◌≡◌ {A = ℕ} 0 1 → ⊥
differ e = omega (arith, e)

-- a register to start with, said to fit 32 bits
pub weak_start : OneResult (ended_of _ checksum.start.Kinds.ps checksum.start.Kinds.r) (λ κs a r e. r ≤ 0xFFFFFFFF) → ⊥
weak_start one = differ (one tt tt 0 1 tt tt (omega arith) (omega arith)).0

-- bytes copied into a store, of which only the length is said
pub weak_copy_in : OneResult (ended_of _ slices.copy_in.Kinds.ps slices.copy_in.Kinds.r) (λ κs a r e. length e.0.now ≡ length a.0.now) → ⊥
weak_copy_in one =
    differ (ap (λ d. get_or d.0 0 0) (one ([], ([], tt)) (lent, (0, (byte, tt))) tt tt (0 ∷ [], (tt, (tt, tt))) (1 ∷ [], (tt, (tt, tt))) refl refl).1)
  where
    byte : Bor (List ℕ)
    byte = record { ref_ptr = (0, 0); now = 0 ∷ [] }

    lent : MutBor (List ℕ)
    lent = record { ref_ptr = (0, 0); ghost_name = 0; now = 0 ∷ [] }
