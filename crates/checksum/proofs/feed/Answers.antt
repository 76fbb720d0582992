-- `checksum::feed` walks over the table that keeps the rule, and such a walk is the register's own.
-- Assumes nothing.
use mathlib.Core.Path.{◌∙◌}
use Rattle.crc.proofs.Walk.{feed_by_table}
use Rattle.checksum.proofs.feed.Goals as goal

pub returns : goal.returns
returns c =
    let s = c.args in
    c.feed_by.ensures ∙ feed_by_table c.table-t.result c.table-t.ensures s.register s.bytes.now
