-- `kernel::entries` writes the bytes of the first word from the front, and behind them the lowest one of the second.
-- Assumes nothing.
use mathlib.Core.Path.{◌≡◌}
use Rattle.words.specs.Words.{byte_at}
use Rattle.terms.proofs.Stores.{Front}
use Rattle.solving.proofs.kernel.entries.Given as goal

abbrev pub invariant-loop-k : goal.invariant-loop-k
invariant-loop-k l = Front (λ m x. x ≡ byte_at l.v.low m) 9 l.k l.initial.out l.out
