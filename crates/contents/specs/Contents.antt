-- What a place holds: the payload in each of its slots (document 01, section 5), and what refusal 15 sees.
-- Assumes nothing.
use Rattle.std.specs.Prelude.{Bool, true, false, cond, not, ◌&&◌, ◌||◌, List, [], ◌∷◌, ◌++◌, ℕ, suc, ◌+◌, ◌*◌, ◌%◌, eqb, leb, get_or}
use Rattle.ground.specs.Lists.{listed}
use Rattle.places.specs.declared.Place.{Place}
use Rattle.places.specs.Places.{in_rows}
use Rattle.contents.specs.Slots.{length_at}
use Rattle.std.specs.Prelude.{Option}
use Rattle.std.specs.Prelude.{Some, None}

-- a slot holds a payload, [] where it is empty; or its length is wrong
pub data Slot : Type 0 where
  wrong : Slot
  holding : List ℕ → Slot

-- the n bytes from at on
abbrev pub bytes_at : List ℕ → ℕ → ℕ → List ℕ
bytes_at s at n = listed (λ i. get_or s i 0) n at

-- where slot k of a place starts
unfoldable pub slot_at : Place → ℕ → ℕ
slot_at p k = p.start + k * (p.slot + 2)

-- at most S, and a multiple of 255 where payloads are whole rows
abbrev pub length_fits : Place → ℕ → Bool
length_fits p n = leb n p.slot && (not (in_rows p) || eqb (n % 255) 0)

-- slot k of a place
unfoldable pub slot_of : Place → List ℕ → ℕ → Slot
slot_of p s k =
    cond (length_fits p (length_at s (slot_at p k))) (holding (bytes_at s (slot_at p k + 2) (length_at s (slot_at p k)))) wrong

-- all slots of a place
unfoldable pub contents : Place → List ℕ → List Slot
contents p s = listed (slot_of p s) p.count 0

abbrev pub any_wrong : List Slot → Bool
any_wrong [] = false
any_wrong (wrong ∷ c) = true
any_wrong (holding b ∷ c) = any_wrong c

-- how many are filled
abbrev pub filled : List Slot → ℕ
filled [] = 0
filled (wrong ∷ c) = filled c
filled (holding [] ∷ c) = filled c
filled (holding (x ∷ b) ∷ c) = suc (filled c)

-- the lowest empty one, the first being number i
abbrev pub lowest_empty : List Slot → ℕ → Option ℕ
lowest_empty [] i = None
lowest_empty (wrong ∷ c) i = lowest_empty c (suc i)
lowest_empty (holding [] ∷ c) i = Some i
lowest_empty (holding (x ∷ b) ∷ c) i = lowest_empty c (suc i)

-- the payloads, joined in the order of their numbers
abbrev pub joined : List Slot → List ℕ
joined [] = []
joined (wrong ∷ c) = joined c
joined (holding b ∷ c) = b ++ joined c
