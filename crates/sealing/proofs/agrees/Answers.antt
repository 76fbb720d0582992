-- `agrees`: the bytes as sent are one number. The header goes into the register and then the payload, by one table that keeps the rule: what is left is the CRC of
-- both, and it is compared with the one sent.
use mathlib.Core.Path.{◌∙◌}
use native.Mathlib.Omega.{arith}
use borrow.Author.Rules.{rules}
use Rattle.sealing.proofs.Laws.{crc_fed, agrees-short, agrees-told}
use Rattle.sealing.proofs.agrees.Goals as goal

pub returns-then-n-lt-HEADER : goal.returns-then-n-lt-HEADER
returns-then-n-lt-HEADER c = agrees-short _ _ (omega arith)

pub returns : goal.returns
returns c =
    agrees-told _ _ (omega arith) _ _ (search rules)
    (c.finish.ensures
    ∙ crc_fed _ c.table-t.ensures _ _ _ _ _ c.start.ensures c.feed_by-header.ensures c.feed_by.ensures)
