-- Which bytes of a row came, and which are lost, in a place in column order: document 02, R-8. Byte j of what was sent stands in slot j div S, as byte j mod S there; bytes of empty
-- slots are lost. Assumes nothing.
use Rattle.std.specs.Prelude.{Bool, cond, not, ◌&&◌, List, [], ℕ, ◌-◌, ◌/◌, ◌%◌, eqb, leb, ltb, length, get_or, replicate}
use Rattle.ground.specs.Lists.{listed}
use Rattle.code.specs.Restore.{lost_of}
use Rattle.roots.specs.Roots.{passing}
use Rattle.layout.specs.Layout.{sent_byte_at}
use Rattle.places.specs.declared.Place.{Place}
use Rattle.places.specs.Places.{end_of}
use Rattle.contents.specs.Contents.{Slot as Content, wrong, holding, contents}
use Rattle.losses.specs.declared.Came.{Came}

-- the payload in slot k, [] where it is empty
abbrev pub payload_of : Content → List ℕ
payload_of wrong = []
payload_of (holding b) = b

abbrev pub payload_at : List Content → ℕ → List ℕ
payload_at c k = payload_of (get_or c k wrong)

-- byte j of what was sent, in slots of that size, and whether it is lost
abbrev pub came_at : ℕ → List Content → ℕ → ℕ
came_at size c j = get_or (payload_at c (j / size)) (j % size) 0

abbrev pub lost_at : ℕ → List Content → ℕ → Bool
lost_at size c j = eqb (length (payload_at c (j / size))) 0

-- which byte of it is column k of row q, the rows of all tables counted through
abbrev pub sent_at : ℕ → ℕ → ℕ → ℕ
sent_at m q k = sent_byte_at 1 m (record { table = q / m; row = q % m; column = k })

-- row q as it came, 0 for what is lost; and which of its columns are lost
unfoldable pub row_came : ℕ → ℕ → List Content → ℕ → List ℕ
row_came m size c q = listed (λ k. came_at size c (sent_at m q k)) 255 0

abbrev pub lost_in : ℕ → ℕ → List Content → ℕ → ℕ → Bool
lost_in m size c q k = lost_at size c (sent_at m q k)

-- the first sixteen of the lost columns, each told by its exponent, 254 less the column; zeros behind them
unfoldable pub lost_places : (ℕ → Bool) → List ℕ
lost_places f = listed (λ k. cond (ltb k (length (passing f 255 0))) (254 - get_or (passing f 255 0) k 0) 0) 16 0

-- what came of a row, by its bytes and the columns that are lost
unfoldable pub came_by : (ℕ → Bool) → List ℕ → Came
came_by f row = record { row = row; lost = lost_of f 255; at = lost_places f }

-- the place lies in a store of that size, and has rows in a table and bytes in a slot, as every place in column order of a good record does
unfoldable pub tabled : Place → ℕ → Bool
tabled p size = leb (end_of p) size && (not (eqb p.rows 0) && not (eqb p.slot 0))

-- row q of what a place holds; of a place that is not such a one nothing came, and nothing is told as lost
unfoldable pub came_of : Place → List ℕ → ℕ → Came
came_of p s q =
    cond (tabled p (length s)) (came_by (lost_in p.rows p.slot (contents p s) q) (row_came p.rows p.slot (contents p s) q))
    (record { row = replicate 255 0; lost = 0; at = replicate 16 0 })
