-- What is to be added to a row so that it becomes the coded row within eight bytes: document 01, section 3, and demand 2. It is the same for all rows that leave the same
-- when the generator divides them (`errata_found`, `errata_none`, proofs/Moved.antt). A place is told by its exponent a: byte 254 - a of a row is the coefficient of x^a.
-- Assumes nothing.
use Rattle.std.specs.Prelude.{Option, Some, None, not, List, ◌++◌, map, ℕ, ◌-◌, eqb, length, get_or, replicate}
use Rattle.ground.specs.Bits.{sum}
use Rattle.ground.specs.Lists.{listed}
use Rattle.code.specs.Search.{Repaired}
use Rattle.code.specs.Search.Repaired.{found, none}
use Rattle.code.specs.Repair.{repair_of}
use Rattle.roots.specs.Roots.{passing}
use Rattle.errata.specs.declared.Errata.{Errata}

-- the byte at the place a
abbrev pub at_place : List ℕ → ℕ → ℕ
at_place r a = get_or r (254 - a) 0

-- the places at which r and s differ, in increasing order
unfoldable pub differing : List ℕ → List ℕ → List ℕ
differing r s = passing (λ a. not (eqb (at_place r a) (at_place s a))) 255 0

-- what is to be added there
unfoldable pub differences : List ℕ → List ℕ → List ℕ
differences r s = map (λ a. sum (at_place r a) (at_place s a)) (differing r s)

-- l, and zeros behind it
abbrev pub padded : List ℕ → List ℕ
padded l = listed (λ k. get_or l k 0) 16 0

-- what makes r the row that its repair answers, where it answers one
unfoldable pub errata_for : List ℕ → Repaired → Option Errata
errata_for r (found s) = Some (record { n = length (differing r s); at = padded (differing r s); values = padded (differences r s) })
errata_for r none = None

-- a row that leaves these sixteen bytes: 239 zeros and they themselves
unfoldable pub leaving : List ℕ → List ℕ
leaving rest = replicate 239 0 ++ rest

unfoldable pub errata_of : List ℕ → Option Errata
errata_of rest = errata_for (leaving rest) (repair_of (leaving rest))
