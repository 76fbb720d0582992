-- The record as 160 bytes: eight places of twenty, each number little-endian, in the order resource, type, update, count, protection, rows, slot, start, edition, order.
-- Assumes nothing.
use Rattle.std.specs.Prelude.{List, [], ◌∷◌, ◌++◌, ℕ, ◌+◌, ◌*◌, ◌/◌, ◌%◌, get_or}
use Rattle.ground.specs.Lists.{listed}
use Rattle.places.specs.declared.Place.{Place}
use Rattle.places.specs.declared.Record.{Record}

-- the bytes of a place, and of the eight
abbrev pub place_length : ℕ
place_length = 20

abbrev pub record_length : ℕ
record_length = 8 * place_length

-- two and four bytes as a number, the least significant first
abbrev pub two : List ℕ → ℕ → ℕ
two b at = get_or b at 0 + get_or b (at + 1) 0 * 256

abbrev pub four : List ℕ → ℕ → ℕ
four b at = two b at + two b (at + 2) * 65536

unfoldable pub place_in : List ℕ → ℕ → Place
place_in b at = record {
  resource = two b at;
  kind = get_or b (at + 2) 0;
  update = get_or b (at + 3) 0;
  count = four b (at + 4);
  protection = get_or b (at + 8) 0;
  rows = get_or b (at + 9) 0;
  slot = two b (at + 10);
  start = four b (at + 12);
  edition = two b (at + 16);
  order = two b (at + 18);
}

-- the record that bytes hold
unfoldable pub record_in : List ℕ → Record
record_in b = record { places = listed (λ i. place_in b (i * place_length)) 8 0 }

-- a number as two and as four bytes
abbrev pub as_two : ℕ → List ℕ
as_two v = (v % 256) ∷ (v / 256 % 256) ∷ []

abbrev pub as_four : ℕ → List ℕ
as_four v = as_two v ++ as_two (v / 65536)

unfoldable pub place_bytes : Place → List ℕ
place_bytes p =
    as_two p.resource ++ (p.kind ∷ p.update ∷ []) ++ as_four p.count
    ++ (p.protection ∷ p.rows ∷ []) ++ as_two p.slot ++ as_four p.start ++ as_two p.edition ++ as_two p.order

abbrev pub all_bytes : List Place → List ℕ
all_bytes [] = []
all_bytes (p ∷ ps) = place_bytes p ++ all_bytes ps

-- the bytes of a record
unfoldable pub record_bytes : Record → List ℕ
record_bytes h = all_bytes h.places
