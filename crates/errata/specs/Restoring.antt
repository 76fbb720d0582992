-- What is to be added to a row at given places, whose bytes are lost, so that it becomes a coded row: document 01, section 3; document 02, R-8. It is the same for all rows that
-- leave the same when the generator divides them (`filling_found`, `filling_none`, proofs/Filled.antt). A place is told by its exponent a: byte 254 - a of a row is the coefficient
-- of x^a. Assumes nothing.
use Rattle.std.specs.Prelude.{Bool, true, false, cond, ◌&&◌, ◌||◌, Option, Some, None, List, map, ℕ, zero, suc, ◌-◌, eqb, leb, ltb, get_or, take}
use Rattle.ground.specs.Bits.{sum}
use Rattle.code.specs.Search.{Repaired}
use Rattle.code.specs.Search.Repaired.{found, none}
use Rattle.code.specs.Restore.{restore_of}
use Rattle.errata.specs.declared.Errata.{Errata}
use Rattle.errata.specs.Errata.{at_place, padded, leaving}

-- the entry before entry k; before the first 255, which is above all places
abbrev pub entry_before : List ℕ → ℕ → ℕ
entry_before at zero = 255
entry_before at (suc k) = get_or at k 0

-- each of the first n entries is below the one before it
unfoldable pub falls_to : List ℕ → ℕ → Bool
falls_to at zero = true
falls_to at (suc k) = ltb (get_or at k 0) (entry_before at k) && falls_to at k

-- the first n entries are at most sixteen different places, in decreasing order, as the bytes of a row have them
unfoldable pub falling_to : List ℕ → ℕ → Bool
falling_to at n = leb n 16 && falls_to at n

-- byte c of a row is lost: its place is one of the first n entries
unfoldable pub among : List ℕ → ℕ → ℕ → Bool
among at zero c = false
among at (suc k) c = eqb (get_or at k 0) (254 - c) || among at k c

-- what makes r, at the first n places, the row that its restoring answers, where it answers one
unfoldable pub filling_for : List ℕ → List ℕ → ℕ → Repaired → Option Errata
filling_for r at n (found s) = Some (record { n = n; at = padded (take n at); values = padded (map (λ a. sum (at_place r a) (at_place s a)) (take n at)) })
filling_for r at n none = None

-- of places that do not fall there is nothing to say
unfoldable pub filling_of : List ℕ → List ℕ → ℕ → Option Errata
filling_of rest at n = filling_for (leaving rest) at n (cond (falling_to at n) (restore_of (among at n) (leaving rest)) none)
