-- `crc::table` gives the constant, which antt computes from the register: row by row, each entry with a half byte of 0 more behind it.
-- Assumes nothing.
use Rattle.ground.specs.Bits.{sum}
use Rattle.crc.specs.Crc.{bit, bits}
use Rattle.crc.proofs.Constant.{rows_from, table_of, table_rule}
use Rattle.crc.proofs.table.Goals as goal

pub returns : goal.returns
unfolding table_of rows_from bits bit sum
returns c = table_rule 32 0x04C11DB7 32
