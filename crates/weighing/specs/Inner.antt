-- What the private judgement of one row of a place in column order finds. Nobody needs to believe it: the public contract does not cite it.
-- Assumes nothing.
use Rattle.std.specs.Prelude.{cond, List, ℕ, Option, Some, None}
use Rattle.contents.specs.Contents.{Slot as Content}
use Rattle.columns.specs.Columns.{lacks, uncoded}
use Rattle.columns.specs.InnerJudge.{spoilt}
use Rattle.weighing.specs.declared.judge.Fault.{Fault}
use Rattle.weighing.specs.declared.judge.Fault.TheVariants.{Lost, Uncoded, Padding}

-- what is wrong with row q: it lacks more than sixteen bytes, it fits no coded row, or its padding is not 0
unfoldable pub fault_of : ℕ → ℕ → List Content → ℕ → ℕ → Option Fault
fault_of m size c n q = cond (lacks m size c q) (Some Lost) (cond (uncoded m size c q) (Some Uncoded) (cond (spoilt m size c n q) (Some Padding) None))
