-- Tables: document 01, section 3. A table has m rows and 239 information columns, filled column by column; each row has its sixteen checks behind it. What is sent goes row by row, or
-- column by column (document 02, R-8).
-- Assumes nothing.
use Rattle.std.specs.Prelude.{cond, List, ◌++◌, ℕ, ◌+◌, ◌*◌, ◌/◌, ◌%◌, eqb, length, get_or}
use Rattle.ground.specs.Lists.{listed, ceil}
use Rattle.code.specs.Repair.{checks_of}

-- a place in the tables, all counted from 0
pub record Spot : Type 0 where
  pub table : ℕ
  pub row : ℕ
  pub column : ℕ

-- the tables that a file of n bytes needs
abbrev pub tables_of : ℕ → ℕ → ℕ
tables_of m n = ceil n (239 * m)

-- the position rule, over the order and the number of columns (document 02, R-8): which byte of a run stands at a spot of tables with m rows and w columns, and where byte i of it
-- stands. In order 0 the rows of a table follow one another, in order 1 its columns; tables follow one another in both.
abbrev pub byte_at : ℕ → ℕ → ℕ → Spot → ℕ
byte_at order m w s = cond (eqb order 1) (s.table * (w * m) + s.column * m + s.row) ((s.table * m + s.row) * w + s.column)

abbrev pub spot_at : ℕ → ℕ → ℕ → ℕ → Spot
spot_at order m w i =
    cond (eqb order 1) (record { table = i / (w * m); row = i % m; column = i % (w * m) / m })
    (record { table = i / (w * m); row = i / w % m; column = i % w })

-- the bytes of the file go by columns, of which 239 hold information
abbrev pub file_byte_at : ℕ → Spot → ℕ
file_byte_at m s = byte_at 1 m 239 s

abbrev pub spot_of : ℕ → ℕ → Spot
spot_of m i = spot_at 1 m 239 i

-- what is sent has all 255 columns, in the order that the settings name
abbrev pub sent_byte_at : ℕ → ℕ → Spot → ℕ
sent_byte_at order m s = byte_at order m 255 s

abbrev pub sent_spot : ℕ → ℕ → ℕ → Spot
sent_spot order m j = spot_at order m 255 j

-- the information bytes of a row: 0 beyond the file
unfoldable pub info_of : ℕ → List ℕ → ℕ → ℕ → List ℕ
info_of m file t r = listed (λ c. get_or file (file_byte_at m (record { table = t; row = r; column = c })) 0) 239 0

-- with its checks behind it
unfoldable pub row_of : ℕ → List ℕ → ℕ → ℕ → List ℕ
row_of m file t r = info_of m file t r ++ checks_of (info_of m file t r)

-- the byte at a spot of the coded tables
abbrev pub coded_at : ℕ → List ℕ → Spot → ℕ
coded_at m file s = get_or (row_of m file s.table s.row) s.column 0

-- the coded file in an order: all bytes of all tables
unfoldable pub coded_file : ℕ → ℕ → List ℕ → List ℕ
coded_file order m file = listed (λ j. coded_at m file (sent_spot order m j)) (255 * m * tables_of m (length file)) 0

-- the tables undone: byte i of the file, from what was sent; and n bytes of it from byte i on
abbrev pub read_back : ℕ → ℕ → List ℕ → ℕ → ℕ
read_back order m sent i = get_or sent (sent_byte_at order m (spot_of m i)) 0

abbrev pub undone : ℕ → ℕ → List ℕ → ℕ → ℕ → List ℕ
undone order m sent n i = listed (read_back order m sent) n i
