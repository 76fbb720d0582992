-- `added_to` adds one value after the other: those before place k have been added (`mended-more`).
-- Assumes nothing.
use mathlib.Core.Path.{◌≡◌}
use Rattle.errata.specs.InnerErrata.{entries, mended_by}
use Rattle.errata.proofs.Errata.added_to.Given as goal

abbrev pub invariant-loop-k : goal.invariant-loop-k
invariant-loop-k l = l.row ≡ mended_by l.initial.row (entries l.self.at) (entries l.self.values) l.k
