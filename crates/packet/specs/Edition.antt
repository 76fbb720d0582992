-- The two editions of the spare bits: document 02, R-9. GY/T 268.2 (source document 000) sets them to one, the data broadcasting text (source document 001) to zero.
-- Assumes nothing.
use Rattle.std.specs.Prelude.{Bool, cond, not, ◌&&◌, ◌||◌, ℕ, eqb}
use Rattle.packet.specs.declared.Packet.{Packet}
use Rattle.packet.specs.declared.Spare.{Spare}

-- what an edition writes: edition 1 the reserved bits all one, and M 255 without protection; edition 2 all zero
unfoldable pub spare_of : ℕ → Spare
spare_of edition = cond (eqb edition 1) (record { reserved = 15; rows = 255 }) (record { reserved = 0; rows = 0 })

-- a packet has the reserved bits of an edition, and without protection its M; with protection M is the number of rows, and does not count
unfoldable pub is_of : ℕ → Packet → Bool
is_of edition f = eqb f.reserved (spare_of edition).reserved && (not (eqb f.protection 0) || eqb f.rows (spare_of edition).rows)

-- the edition that a packet's fields show: 1, 2, or 0 for neither
unfoldable pub edition_of : Packet → ℕ
edition_of f = cond (is_of 1 f) 1 (cond (is_of 2 f) 2 0)
