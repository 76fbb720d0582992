-- The slots of a store: document 01, section 5. Each is a two-byte length, little-endian, then room for S bytes. Length 0 means empty.
-- Assumes nothing.
use Rattle.std.specs.Prelude.{Bool, cond, ◌&&◌, List, ◌∷◌, ℕ, zero, suc, ◌+◌, ◌*◌, ◌/◌, ◌%◌, leb, ltb, length, get_or, set}
use Rattle.std.proofs.lemmas.List.Edits.{sets}
use Rattle.refusals.specs.declared.Refusal.TheVariants.{Output}
use Rattle.refusals.specs.declared.Refusal.{Refusal}
use Rattle.std.specs.Prelude.{Result}
use Rattle.std.specs.Prelude.{Ok, Err}

-- the length that stands in the slot at at
abbrev pub length_at : List ℕ → ℕ → ℕ
length_at s at = get_or s at 0 + get_or s (at + 1) 0 * 256

-- the length 0 in each of n slots, w bytes apart, from at on; no other byte changes
unfoldable pub cleared : List ℕ → ℕ → ℕ → ℕ → List ℕ
cleared s at zero w = s
cleared s at (suc n) w = cleared (set (set s at 0) (at + 1) 0) (at + w) n w

-- a payload in the slot at at: its length, and its bytes behind it; the slot's other bytes stay
abbrev pub stored : List ℕ → ℕ → List ℕ → List ℕ
stored s at b = sets s at ((length b % 256) ∷ (length b / 256) ∷ b)

-- whether n bytes are a payload that a slot at at can take: two bytes hold its length, and it ends within a store of so many bytes
abbrev pub room_for : ℕ → ℕ → ℕ → Bool
room_for size at n = ltb n 65536 && leb (at + 2 + n) size

-- refusal 26 where there is none
unfoldable pub slot_verdict : ℕ → ℕ → ℕ → Result (Unit {0}) Refusal
slot_verdict size at n = cond (room_for size at n) (Ok tt) (Err Output)

-- a payload in the slot at at; beside a refusal no byte changes
unfoldable pub stored_within : List ℕ → ℕ → List ℕ → List ℕ
stored_within s at b = cond (room_for (length s) at (length b)) (stored s at b) s
