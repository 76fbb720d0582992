-- The lowest start at which a number of bytes fits and meets no other place: document 01, section 5, Open.
-- Assumes nothing.
use Rattle.std.specs.Prelude.{Bool, cond, not, ◌&&◌, ◌||◌, List, ℕ, zero, suc, ◌+◌, leb}
use Rattle.places.specs.declared.Place.{Place}
use Rattle.places.specs.Places.{in_use, usable, end_of, all}
use Rattle.std.specs.Prelude.{Option}
use Rattle.std.specs.Prelude.{Some, None}

-- the size bytes from s on meet no byte of a place in use
unfoldable pub clear : ℕ → ℕ → Place → Bool
clear s size p = not (in_use p) || (leb (end_of p) s || leb (s + size) p.start)

-- they fit a store of n bytes and meet no place
unfoldable pub free : ℕ → ℕ → List Place → ℕ → Bool
free n size ps s = leb (s + size) (usable n) && all (clear s size) ps

-- the first of m numbers from s on at which f holds
unfoldable pub lowest_from : (ℕ → Bool) → ℕ → ℕ → Option ℕ
lowest_from f s zero = None
lowest_from f s (suc m) = cond (f s) (Some s) (lowest_from f (suc s) m)

-- the lowest start, of 0 to the end of the usable store
unfoldable pub lowest_start : ℕ → ℕ → List Place → Option ℕ
lowest_start n size ps = lowest_from (free n size ps) 0 (suc (usable n))
