-- `lanes::bytes` writes one entry after the other.
-- Assumes nothing.
use mathlib.Core.Path.{◌≡◌}
use Prim.Native.Nat.{ℕ}
use Rattle.field.specs.Words.{entry}
use Rattle.terms.proofs.Stores.{Front}
use Rattle.solving.proofs.lanes.bytes.Given as goal

abbrev pub invariant-loop-k : goal.invariant-loop-k
invariant-loop-k l = Front (λ (i v : ℕ). v ≡ entry l.x i) 16 l.k l.initial.b-items l.b-items
