-- What is claimed of contents, for document 01, section 5: a payload stored in a slot is read from that slot, and nothing else that a place holds changes.
-- Assumes nothing.
use Rattle.std.specs.Prelude.{◌≡◌, true, false, List, [], ℕ, ◌+◌, ◌<◌, ◌≤◌, length, get_or, set, replicate}
use Rattle.places.specs.declared.Place.{Place}
use Rattle.places.specs.Places.{end_of, meets}
use Rattle.contents.specs.Slots.{length_at, cleared, stored}
use Rattle.contents.specs.Contents.{wrong, holding, slot_at, length_fits, slot_of, contents}

-- the contents at a number are that slot
abbrev pub ReadingSlots : Type 0
ReadingSlots = (p : Place) (s : List ℕ) (k : ℕ) → k < p.count → get_or (contents p s) k wrong ≡ slot_of p s k

-- a payload stored in slot k is what slot k then holds; the others are as they were
abbrev pub StoringSets : Type 0
StoringSets =
    (p : Place) (s : List ℕ) (k : ℕ) (b : List ℕ) → end_of p ≤ length s → k < p.count → length_fits p (length b) ≡ true
    → contents p (stored s (slot_at p k) b) ≡ set (contents p s) k (holding b)

-- it is no concern of a place that has no byte in common with this one
abbrev pub StoringLeaves : Type 0
StoringLeaves =
    (p o : Place) (s : List ℕ) (k : ℕ) (b : List ℕ) → meets p o ≡ false → k < p.count → length b ≤ p.slot
    → contents o (stored s (slot_at p k) b) ≡ contents o s

-- where the slots of a place are cleared, each is empty
abbrev pub ClearingEmpties : Type 0
ClearingEmpties =
    (p : Place) (s : List ℕ) → end_of p ≤ length s
    → contents p (cleared s p.start p.count (p.slot + 2)) ≡ replicate p.count (holding [])

abbrev pub ClearingLeaves : Type 0
ClearingLeaves =
    (p o : Place) (s : List ℕ) → meets p o ≡ false → contents o (cleared s p.start p.count (p.slot + 2)) ≡ contents o s

-- two stores that agree on a place's bytes have the same contents there, whatever their lengths
abbrev pub WithinAlone : Type 0
WithinAlone =
    (p : Place) (s t : List ℕ) → ((i : ℕ) → p.start ≤ i → i < end_of p → get_or s i 0 ≡ get_or t i 0) → contents p s ≡ contents p t

-- and the bytes behind a slot's length never matter
abbrev pub BehindNothing : Type 0
BehindNothing =
    (p : Place) (s t : List ℕ)
    → ((k : ℕ) → k < p.count → (length_at s (slot_at p k) ≡ length_at t (slot_at p k))
    × ((i : ℕ) → slot_at p k + 2 ≤ i → i < slot_at p k + 2 + length_at s (slot_at p k) → get_or s i 0 ≡ get_or t i 0))
    → contents p s ≡ contents p t
