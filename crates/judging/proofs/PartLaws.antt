-- A text of a description that may be of any length.
-- Assumes nothing.
use mathlib.Core.Path.{◌≡◌, ◌∙◌}
use mathlib.Core.Bool.{Bool, ◌&&◌}
use mathlib.Core.List.{List}
use Prim.Native.Nat.{ℕ}
use lib.Dec.{leb, leb-zero}
use lib.ListN.{length}
use Rattle.attributes.specs.declared.Part.{Part}
use Rattle.attributes.specs.Attributes.{part_of}
use Rattle.attributes.specs.Rules.{is_text, inside}

-- a text of any length
pub any_length :
    (t : List ℕ) (p : Part) {b : Bool} → b ≡ (inside t p && (leb 0 (length (part_of t p)) && is_text (part_of t p)))
    → b ≡ (inside t p && is_text (part_of t p))
any_length t p e = e ∙ simp leb-zero
