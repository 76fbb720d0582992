-- The register that divides by the generator, in two words, and the table by which eight bytes go in at once (document 01, section 3): vocabulary of the contracts of
-- private functions, which nobody needs to believe. Assumes nothing.
use Rattle.std.specs.Prelude.{◌≡◌, List, [], ◌∷◌, ◌++◌, ℕ, zero, suc, ◌+◌, ◌-◌, ◌*◌, ◌/◌, ◌%◌, ◌^◌, ◌<◌, ◌≤◌, length, get_or, replicate}
use Rattle.std.proofs.lemmas.List.Edits.{sets}
use Rattle.ground.specs.Lists.{listed}
use Rattle.code.specs.Search.{remainder}
use Rattle.code.specs.Register.{run}
use Rattle.code.specs.Repair.{checks_of}

-- n bytes of d, from byte i on
abbrev pub part : List ℕ → ℕ → ℕ → List ℕ
part d i n = listed (λ k. get_or d k 0) n i

-- the checks of the 239 bytes of d from byte i on
unfoldable pub checks_at : List ℕ → ℕ → List ℕ
checks_at d i = checks_of (part d i 239)

-- what the row of 255 bytes from byte i of d on leaves
unfoldable pub remainder_at : List ℕ → ℕ → List ℕ
remainder_at d i = remainder 239 (part d i 255)

-- the checks of two rows written behind their 239 bytes, which stand from byte i and from byte i + 255 of d on
unfoldable pub sealed : List ℕ → ℕ → List ℕ
sealed d i = sets (sets d (i + 239) (checks_at d i)) (i + 255 + 239) (checks_at d (i + 255))

-- the low k bytes of w, the top one first
unfoldable pub unpack : ℕ → ℕ → List ℕ
unpack zero w = []
unpack (suc k) w = w / 2 ^ (k * 8) % 256 ∷ unpack k w

-- the sixteen bytes of two words
unfoldable pub both : ℕ → ℕ → List ℕ
both h l = unpack 8 h ++ unpack 8 l

-- what the register holds after the eight bytes of a word, from nothing
unfoldable pub through : ℕ → List ℕ
through w = run (replicate 16 0) (unpack 8 w)

-- the table: two words for each half byte v at each of sixteen places, the lowest place first
pub record Halves (t : List ℕ) : Type 0 where
  pub room : length t ≡ 512
  pub entry : (k v : ℕ) → k < 16 → v < 16 → both (get_or t (32 * k + 2 * v) 0) (get_or t (32 * k + 2 * v + 1) 0) ≡ through (v * 2 ^ (k * 4))

-- the register holds r after the first 8 · k + 7 of 239 bytes: what is left gives what the whole gives
pub record Feeding (d : List ℕ) (at : ℕ) (r : List ℕ) (k : ℕ) : Type 0 where
  pub within : k ≤ 29
  pub left : run r (part d (at + 8 * k + 7) (8 * (29 - k))) ≡ run (replicate 16 0) (part d at 239)
