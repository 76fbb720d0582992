-- What a pass over the lengths of a place's slots says of their contents: document 01, section 5, and what refusal 15 sees.
-- Assumes nothing.
use Rattle.std.specs.Prelude.{cond, List, ℕ, leb, length, Option, Some, None}
use Rattle.places.specs.declared.Place.{Place}
use Rattle.places.specs.Places.{end_of}
use Rattle.contents.specs.Contents.{Slot as Content, contents, any_wrong, filled, lowest_empty, joined}
use Rattle.standing.specs.declared.Seen.{Seen}

-- of n slots, those before the lowest empty one; all where none is empty
abbrev pub before : Option ℕ → ℕ → ℕ
before (Some i) n = i
before None n = n

-- by the slots alone; nothing where a length is wrong
unfoldable pub seen_in : List Content → Option Seen
seen_in c =
    cond (any_wrong c) None (Some (record { filled = filled c; empty = before (lowest_empty c 0) (length c); bytes = length (joined c) }))

-- nothing where the place passes the end of the store
unfoldable pub seen_of : Place → List ℕ → Option Seen
seen_of p s = cond (leb (end_of p) (length s)) (seen_in (contents p s)) None
