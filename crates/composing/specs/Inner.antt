-- What the private functions say of the lines, counted from 0: the value of each is a short one that is made here, then a part of the lent text; one of the two has no
-- bytes. Assumes nothing.
use Rattle.std.specs.Prelude.{◌≡◌, List, [], ◌∷◌, ◌++◌, ℕ, suc, ◌+◌, ◌<◌, ◌≤◌, length, get_or, take}
use Rattle.texts.specs.Breaks.{LF}
use Rattle.decimal.specs.Decimal.{digits}
use Rattle.attributes.specs.declared.Part.{Part}
use Rattle.attributes.specs.declared.Description.{Description}
use Rattle.attributes.specs.Attributes.{part_of, no_charset, no_size, optional_text, time_value}
use Rattle.attributes.specs.Lines.{label}
use Rattle.attributes.specs.Describe.{nowhere}
use Rattle.composing.specs.declared.Value.{Value}

pub record Piece : Type 0 where
  pub short : List ℕ
  pub part : Part

abbrev pub own : List ℕ → Piece
own v = record { short = v; part = nowhere }

abbrev pub lent : Part → Piece
lent p = record { short = []; part = p }

-- those of the fifteen lines
unfoldable pub pieces : Description → List Piece
pieces d =
    own (digits d.service) ∷ own (digits d.mode) ∷ own (digits d.resource) ∷ own (digits d.update) ∷ lent d.name
    ∷ own (digits d.kind) ∷ lent d.title ∷ lent d.summary ∷ lent d.keywords ∷ own (optional_text no_charset d.charset)
    ∷ lent d.path ∷ own (optional_text no_size d.size) ∷ own (time_value d.begins) ∷ own (time_value d.ends) ∷ own (digits d.delete) ∷ []

abbrev pub piece_of : Description → ℕ → Piece
piece_of d k = get_or (pieces d) k (own [])

-- as the code holds it: the short value at the front of nineteen bytes
abbrev pub piece_in : Value → Piece
piece_in v = record { short = take v.length v.bytes; part = v.part }

pub record Holds (p : Piece) (v : Value) : Type 0 where
  pub most : v.length ≤ 19
  pub long : v.length ≡ length p.short
  pub same : piece_in v ≡ p

-- line k: label, value, LF
unfoldable pub line_of : List ℕ → ℕ → Piece → List ℕ
line_of t k p = label (k + 1) ++ (p.short ++ (part_of t p.part ++ (LF ∷ [])))

-- how many bytes it has where its part lies in the text
abbrev pub size_of : Piece → ℕ
size_of p = 4 + length p.short + p.part.length

-- lines in order, the first of them line k, and how many bytes they have
abbrev pub lines_by : List ℕ → ℕ → List Piece → List ℕ
lines_by t k [] = []
lines_by t k (p ∷ ps) = line_of t k p ++ lines_by t (suc k) ps

abbrev pub size_by : List Piece → ℕ
size_by [] = 0
size_by (p ∷ ps) = size_of p + size_by ps

-- a part lies in the text, and all of them do
abbrev pub Lies : List ℕ → Part → Type 0
Lies t p = p.at + p.length ≤ length t

pub record Placed (t : List ℕ) (d : Description) : Type 0 where
  pub part : (k : ℕ) → k < 15 → Lies t (piece_of d k).part
