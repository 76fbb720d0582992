-- `register::row_checks` writes what the register holds over sixteen zeros.
-- Assumes nothing.
use mathlib.Core.Path.{◌∙◌}
use lib.ListN.{replicate}
use Rattle.ground.proofs.Writing.{sets-all}
use Rattle.encoding.proofs.Words.{length_both}
use Rattle.encoding.proofs.Feeding.{checks_whole}
use Rattle.encoding.proofs.register.row_checks.Goals as goal

pub returns : goal.returns
returns c =
    c.put.ensures ∙ sets-all (replicate 16 0) _ (length_both c.checks-q.result.h c.checks-q.result.l)
    ∙ c.checks-q.ensures ∙ checks_whole c.args.info.now c.requires
