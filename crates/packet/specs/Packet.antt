-- The packet's header: document 01, section 2 (source document 001, table 1), most significant bit first; and reading it, in the order of section 6.
-- Assumes nothing.
use Rattle.std.specs.Prelude.{Bool, true, false, cond, not, ◌&&◌, ◌||◌, List, [], ◌∷◌, ℕ, ◌+◌, ◌-◌, ◌*◌, ◌/◌, ◌%◌, eqb, leb, ltb, length, get_or}
use Rattle.refusals.specs.declared.Refusal.TheVariants.{Short, Mark, Length, «Type», Protection, Number, Rows, Resource}
use Rattle.packet.specs.declared.Packet.{Packet}
use Rattle.refusals.specs.declared.Refusal.{Refusal}
use Rattle.std.specs.Prelude.{Result}
use Rattle.std.specs.Prelude.{Ok, Err}

-- bytes 3 and 4
abbrev pub resource_in : List ℕ → ℕ
resource_in q = get_or q 3 0 * 256 + get_or q 4 0

-- the two high bits of byte 12
abbrev pub kind_in : List ℕ → ℕ
kind_in q = get_or q 12 0 / 64

-- the fields, in the table's order
unfoldable pub fields_in : List ℕ → Packet
fields_in q = record {
  resource = resource_in q;
  number = get_or q 5 0 * 4096 + get_or q 6 0 * 16 + get_or q 7 0 / 16;
  update = get_or q 7 0 % 16;
  length = get_or q 8 0 * 16 + get_or q 9 0 / 16;
  count = get_or q 9 0 % 16 * 65536 + get_or q 10 0 * 256 + get_or q 11 0;
  kind = kind_in q;
  protection = get_or q 12 0 / 16 % 4;
  rows = get_or q 12 0 % 16 * 16 + get_or q 13 0 / 16;
  reserved = get_or q 13 0 % 16;
}

-- 0x49 0x59 0x69
abbrev pub marked : List ℕ → Bool
marked q = eqb (get_or q 0 0) 73 && (eqb (get_or q 1 0) 89 && eqb (get_or q 2 0) 105)

-- protection 2 or 3; or 1 with M = 0
abbrev pub bad_protection : Packet → Bool
bad_protection f = ltb 1 f.protection || (eqb f.protection 1 && eqb f.rows 0)

-- types 1, 2: count 0, or number not below count; type 0: count not 0, or number 1048575
abbrev pub bad_number : Packet → Bool
bad_number f =
    cond (eqb f.kind 0) (not (eqb f.count 0) || eqb f.number 1048575) (leb f.count f.number)

-- protection 1, and the payload of a packet of n bytes is not whole rows
abbrev pub bad_rows : Packet → ℕ → Bool
bad_rows f n = eqb f.protection 1 && not (eqb ((n - 18) % 255) 0)

-- refusals 4 to 8 of the fields of a packet of n bytes, or the fields; refusal 7 only where rows are judged
unfoldable pub judged : Bool → Packet → ℕ → Result Packet Refusal
judged rows f n =
    cond (eqb f.kind 3) (Err «Type»)
    (cond (bad_protection f) (Err Protection)
    (cond (bad_number f) (Err Number)
    (cond (rows && bad_rows f n) (Err Rows)
    (cond (eqb f.resource 0) (Err Resource) (Ok f)))))

-- the fields as sent, or the first refusal
unfoldable pub read_by : Bool → List ℕ → Result Packet Refusal
read_by rows q =
    cond (ltb (length q) 19) (Err Short)
    (cond (not (marked q)) (Err Mark)
    (cond (not (eqb (fields_in q).length (length q))) (Err Length) (judged rows (fields_in q) (length q))))

-- by the refusals 1 to 8; and by those but 7, which a packet in column order has not to pass (document 02, R-8)
abbrev pub read_of : List ℕ → Result Packet Refusal
read_of = read_by true

abbrev pub read_header_of : List ℕ → Result Packet Refusal
read_header_of = read_by false

-- the fourteen bytes of a header; of a field the bits for which the table has room
unfoldable pub header_of : Packet → List ℕ
header_of f =
    73 ∷ 89 ∷ 105 ∷ (f.resource / 256) ∷ (f.resource % 256)
    ∷ (f.number / 4096 % 256) ∷ (f.number / 16 % 256) ∷ (f.number % 16 * 16 + f.update % 16)
    ∷ (f.length / 16 % 256) ∷ (f.length % 16 * 16 + f.count / 65536 % 16) ∷ (f.count / 256 % 256) ∷ (f.count % 256)
    ∷ (f.kind % 4 * 64 + f.protection % 4 * 16 + f.rows / 16) ∷ (f.rows % 16 * 16 + f.reserved % 16) ∷ []
