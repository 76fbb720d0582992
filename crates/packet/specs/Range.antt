-- When a packet's fields have room in the header: document 01, section 2, the column "Bits".
-- Assumes nothing.
use Rattle.std.specs.Prelude.{◌<◌, ◌^◌}
use Rattle.packet.specs.declared.Packet.{Packet}

-- each field is below 2 to the number of its bits
pub record InRange (f : Packet) : Type 0 where
  pub resource : f.resource < 2 ^ 16
  pub number : f.number < 2 ^ 20
  pub update : f.update < 2 ^ 4
  pub length : f.length < 2 ^ 12
  pub count : f.count < 2 ^ 20
  pub kind : f.kind < 2 ^ 2
  pub protection : f.protection < 2 ^ 2
  pub rows : f.rows < 2 ^ 8
  pub reserved : f.reserved < 2 ^ 4
