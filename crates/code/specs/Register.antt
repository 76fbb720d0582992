-- The register that divides by the generator while the bytes come (document 01, section 3): vocabulary for the contracts of private functions.
-- Nobody needs to believe it: `run_checks` (proofs/Division.antt) says that it gives the checks. Assumes nothing.
use Rattle.std.specs.Prelude.{List, [], ◌∷◌, ℕ}
use Rattle.ground.specs.Bits.{sum}
use Rattle.code.specs.Code.{add, scale}
use Rattle.code.specs.Search.{lower}

-- the register, sixteen bytes, after one more byte
unfoldable pub next : List ℕ → ℕ → List ℕ
next [] b = []
next (a ∷ r) b = add (scale (sum a b) lower) r

-- after all of them
unfoldable pub run : List ℕ → List ℕ → List ℕ
run r [] = r
run r (b ∷ bs) = run (next r b) bs
