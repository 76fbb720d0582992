-- What the private functions of the reader say to each other: a line that is there, and the lines of a text as fifteen parts.
-- Assumes nothing.
use Rattle.std.specs.Prelude.{◌≡◌, true, List, ℕ, ◌+◌, ◌≤◌, ltb, length, get_or}
use Rattle.texts.specs.Breaks.{until_lf}
use Rattle.attributes.specs.declared.Part.{Part}
use Rattle.attributes.specs.Lines.{is_line, without_cr, value_at, behind_line, lines_of}
use Rattle.attributes.specs.declared.Description.{Description}
use Rattle.attributes.specs.Describe.{nowhere, description_in}

-- LF stands behind a value: so many bytes before it, and so many of them are the value
pub record Ending (s : List ℕ) (before n : ℕ) : Type 0 where
  pub found : ltb (until_lf s) (length s) ≡ true
  pub front : before ≡ until_lf s
  pub value : n ≡ without_cr s (until_lf s)

-- line k stands at `at`: its value, within the text, and where the next begins
pub record Stepped (t : List ℕ) (k at : ℕ) (p : Part) (next : ℕ) : Type 0 where
  pub line : is_line t k at ≡ true
  pub value : p ≡ value_at t at
  pub behind : next ≡ behind_line t at
  pub fits : p.at + p.length ≤ length t
  pub far : next ≤ length t

-- the same parts, empty ones behind them
abbrev pub Parted : List Part → List Part → Type 0
Parted parts ps = (i : ℕ) → get_or parts i nowhere ≡ get_or ps i nowhere

-- the attributes of these parts
abbrev pub ReadOf : List ℕ → List Part → Description → Type 0
ReadOf t parts d = (ps : List Part) → Parted parts ps → d ≡ description_in t ps

-- each part lies in n bytes
abbrev pub Within : List Part → ℕ → Type 0
Within parts n = (i : ℕ) → (get_or parts i nowhere).at + (get_or parts i nowhere).length ≤ n

-- the lines of a text
pub record Split (t : List ℕ) (parts : List Part) (count next : ℕ) : Type 0 where
  pub parted : Parted parts (lines_of t).parts
  pub within : Within parts (length t)
  pub counted : count ≡ length (lines_of t).parts
  pub ended : next ≡ (lines_of t).next
