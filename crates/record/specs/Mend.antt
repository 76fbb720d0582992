-- A packet's payload, repaired row by row: document 01, section 5, Offer; how many bytes of it were mended: document 02, R-7.
-- Assumes nothing.
use Rattle.std.specs.Prelude.{cond, List, ℕ, ◌-◌, ◌/◌, eqb, length, take, drop}
use Rattle.code.specs.Mend.{Mended, whole, mend_rows}

-- the payload of a packet: what stands between the fourteen bytes of its header and the four of its CRC
abbrev pub payload_in : List ℕ → List ℕ
payload_in q = take (length q - 18) (drop 14 q)

-- with protection every row is repaired, and what was mended is added up over the rows; without, the payload is taken as it is, and nothing was
unfoldable pub mended_in : ℕ → List ℕ → Mended
mended_in protection q = cond (eqb protection 0) (whole (payload_in q) 0) (mend_rows (length (payload_in q) / 255) 0 (payload_in q))
