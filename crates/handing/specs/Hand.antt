-- Hand out: document 01, section 5; by resource and type, document 02, R-1. Refusals in the order 9, 10, 15, 21, 22, 23, 24, 26; of a place in column order (R-8) behind 15 as crate columns
-- has them.
-- Assumes nothing.
use Rattle.std.specs.Prelude.{Bool, cond, not, ◌&&◌, ◌||◌, List, ℕ, ◌*◌, ◌/◌, ◌%◌, eqb, leb, length, get_or}
use Rattle.refusals.specs.declared.Refusal.{Refusal}
use Rattle.refusals.specs.declared.Refusal.TheVariants.{Unknown, Slot, Missing, Shape, Size}
use Rattle.layout.specs.Layout.{tables_of}
use Rattle.places.specs.declared.Place.{Place}
use Rattle.places.specs.declared.Record.{Record}
use Rattle.places.specs.declared.Name.{Name}
use Rattle.places.specs.Places.{unused, end_of, good, place_named}
use Rattle.contents.specs.Contents.{Slot as Content, contents, any_wrong, lowest_empty, joined}
use Rattle.columns.specs.Handing.{Handing, refusing, handed, hand_tables}
use Rattle.columns.specs.Columns.{hand_columns, hand_columns_of}
use Rattle.std.specs.Prelude.{Option}
use Rattle.std.specs.Prelude.{Some, None}

-- L bytes of joined rows, m to a table: refusal 22 where they are not whole tables, 23 where L needs another number of tables, 24 where a position beyond L is not 0
unfoldable pub hand_rows : ℕ → List ℕ → ℕ → List ℕ → Handing
hand_rows m sent n out =
    cond (not (eqb (length sent / 255 % m) 0)) (refusing Shape out)
    (cond (not (eqb (tables_of m n) (length sent / (255 * m)))) (refusing Size out) (hand_tables 0 m sent n out))

-- without protection the joined payloads are the file
unfoldable pub hand_joined : Place → List ℕ → ℕ → List ℕ → Handing
hand_joined p sent n out =
    cond (eqb p.protection 0) (cond (not (eqb n (length sent))) (refusing Size out) (handed sent out)) (hand_rows p.rows sent n out)

abbrev pub hand_filled : Place → List Content → ℕ → List ℕ → Option ℕ → Handing
hand_filled p c n out (Some i) = refusing (Missing i) out
hand_filled p c n out None = hand_joined p (joined c) n out

-- in column order the losses are restored (document 02, R-8)
unfoldable pub hand_contents : Place → List Content → ℕ → List ℕ → Handing
hand_contents p c n out =
    cond (any_wrong c) (refusing Slot out) (cond (eqb p.order 1) (hand_columns p c n out) (hand_filled p c n out (lowest_empty c 0)))

-- the place lies in a store of that size in row order, and has rows in a table where it has protection, as every place in use of a good record has that is not in column order
unfoldable pub usable_in : Place → ℕ → Bool
usable_in p size = leb (end_of p) size && (eqb p.order 0 && (eqb p.protection 0 || not (eqb p.rows 0)))

-- what one place holds; refusal 9 where no record has such a place over this store
unfoldable pub hand_place_of : Place → List ℕ → ℕ → List ℕ → Handing
hand_place_of p s n out =
    cond (eqb p.order 1) (hand_columns_of p s n out) (cond (usable_in p (length s)) (hand_contents p (contents p s) n out) (refusing Refusal.Record out))

abbrev pub hand_found : Record → List ℕ → ℕ → List ℕ → Option ℕ → Handing
hand_found h s n out (Some i) = hand_contents (get_or h.places i unused) (contents (get_or h.places i unused) s) n out
hand_found h s n out None = refusing Unknown out

unfoldable pub hand_out_of : Record → List ℕ → Name → ℕ → List ℕ → Handing
hand_out_of h s x n out =
    cond (good (length s) h.places) (hand_found h s n out (place_named h.places x)) (refusing Refusal.Record out)
