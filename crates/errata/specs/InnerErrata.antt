-- Vocabulary of the private functions that find the places of the wrong bytes and what to add there. A place is told by its exponent a: byte 254 - a of a row, whose locator is
-- α^a. Nobody needs to believe it but for `entries` and `mended_by`, which say what `Errata::added_to` answers: no other contract of a public call cites it.
-- Assumes nothing.
use Rattle.std.specs.Prelude.{◌≡◌, ◌≢◌, cond, Option, Some, None, List, ℕ, zero, suc, ◌+◌, ◌-◌, ◌≤◌, ◌<◌, eqb, length, get_or, set, replicate}
use Rattle.ground.specs.Bits.{sum}
use Rattle.field.specs.Field.{product, expo, power}
use Rattle.code.specs.Code.{Bytes}
use Rattle.code.specs.Search.{remainder}
use Rattle.code.specs.Repair.{Near}
use Rattle.code.specs.Value.{value, eval}
use Rattle.errata.specs.declared.Errata.{Errata}
use Rattle.code.specs.Total.{total}

abbrev pub entries : List ℕ → ℕ → ℕ
entries l k = get_or l k 0

-- what c_k at the places a_k, k below n, add to syndrome j: the sum of c_k · α^(a_k · j)
unfoldable pub share_of : (ℕ → ℕ) → (ℕ → ℕ) → ℕ → ℕ → ℕ
share_of a c n j = total n (λ k. product (c k) (expo (power (a k)) j))

-- s has the values at the powers of α, j from 0 to 15, of what a row leaves, which are those of the row
pub record Syndromes (rest s : List ℕ) : Type 0 where
  pub entry : (j : ℕ) → j < 16 → get_or s j 0 ≡ value rest (power j)

-- the first n entries are different places
pub record Placed (n : ℕ) (at : List ℕ) : Type 0 where
  pub few : n ≤ 16
  pub below : (k : ℕ) → k < n → get_or at k 0 < 255
  pub apart : (k l : ℕ) → k < l → l < n → get_or at k 0 ≢ get_or at l 0

-- the first n entries are at most eight places in increasing order
pub record Ordered (n : ℕ) (at : List ℕ) : Type 0 where
  pub few : n ≤ 8
  pub below : (k : ℕ) → k < n → get_or at k 0 < 255
  pub rising : (j k : ℕ) → j < k → k < n → get_or at j 0 < get_or at k 0

-- ---- roots

-- the first n entries are the places whose locators are roots of v
pub record Rooted (v : List ℕ) (n : ℕ) (at : List ℕ) : Type 0 where
  pub ordered : Ordered n at
  pub placed : Placed n at
  pub all : (e : ℕ) → e < 255 → eval v (power e) ≡ 0 → (k : ℕ) × (k < n) × (get_or at k 0 ≡ e)

-- ---- values at given places

-- the syndromes after k places were shifted out, one after the other: s_(j + 1) - α^a · s_j
unfoldable pub shifts_of : (ℕ → ℕ) → (ℕ → ℕ) → ℕ → ℕ → ℕ
shifts_of a s zero j = s j
shifts_of a s (suc k) j = sum (shifts_of a s k (suc j)) (product (power (a k)) (shifts_of a s k j))

-- what the first j places leave gathered at place k: from nothing on, each turn the first entry that is left is added to (α^a_k + α^a_j) times what was gathered
unfoldable pub gathered_of : (ℕ → ℕ) → (ℕ → ℕ) → ℕ → ℕ → ℕ
gathered_of a s zero k = zero
gathered_of a s (suc j) k = sum (product (sum (power (a k)) (power (a j))) (gathered_of a s j k)) (shifts_of a s j 0)

-- the product of the differences between the locator of place k and those of the other places before place j
unfoldable pub gaps_of : (ℕ → ℕ) → ℕ → ℕ → ℕ
gaps_of a zero k = 1
gaps_of a (suc j) k = product (cond (eqb j k) 1 (sum (power (a k)) (power (a j)))) (gaps_of a j k)

-- c has the values at n places that give the first n of the syndromes s
pub record Solved (at : List ℕ) (n : ℕ) (s c : List ℕ) : Type 0 where
  pub sized : length c ≡ 16
  pub solves : (j : ℕ) → j < n → share_of (entries at) (entries c) n j ≡ get_or s j 0

-- c at the first n places gives all sixteen syndromes s
abbrev pub Gives : List ℕ → List ℕ → List ℕ → ℕ → Type 0
Gives s at c n = (j : ℕ) → j < 16 → share_of (entries at) (entries c) n j ≡ get_or s j 0

-- values at the first n places that give all sixteen syndromes s; None where no values do
abbrev pub Solving : List ℕ → List ℕ → ℕ → Option (List ℕ) → Type 0
Solving s at n (Some c) = Solved at n s c × Gives s at c n
Solving s at n None = (c : List ℕ) → Gives s at c n → ⊥

-- ---- the row

-- the row with c_k added at the place a_k, k below n
unfoldable pub mended_by : List ℕ → (ℕ → ℕ) → (ℕ → ℕ) → ℕ → List ℕ
mended_by row a c zero = row
mended_by row a c (suc k) =
    set (mended_by row a c k) (254 - a k) (sum (get_or (mended_by row a c k) (254 - a k) 0) (c k))

-- the n values c at the places make each row that leaves this remainder a coded row within eight bytes
abbrev pub Nearing : List ℕ → ℕ → List ℕ → List ℕ → Type 0
Nearing rest n at c = (row : List ℕ) → length row ≡ 255 → Bytes row → rest ≡ remainder 239 row → Near row (mended_by row (entries at) (entries c) n)

-- no row that leaves it has one
abbrev pub Far : List ℕ → Type 0
Far rest = (row : List ℕ) → length row ≡ 255 → Bytes row → rest ≡ remainder 239 row → (s : List ℕ) → Near row s → ⊥

-- ---- what is kept

-- nothing to add; no abbreviation, since a check would write out its 32 zeros at each step
unfoldable pub nothing_added : Errata
nothing_added = record { n = 0; at = replicate 16 0; values = replicate 16 0 }

-- e, and behind it the value c at the place a
abbrev pub added : Errata → ℕ → ℕ → Errata
added e a c = record { n = e.n + 1; at = set e.at e.n a; values = set e.values e.n c }

-- r is that, unless c is 0
pub record Put (e : Errata) (a c : ℕ) (r : Errata) : Type 0 where
  pub nothing : c ≡ 0 → r ≡ e
  pub more : c ≢ 0 → r ≡ added e a c

-- at most eight places in increasing order, with values that are not 0, and zeros behind them
pub record Listed (e : Errata) : Type 0 where
  pub ordered : Ordered e.n e.at
  pub some : (k : ℕ) → k < e.n → get_or e.values k 0 ≢ 0
  pub sized : (length e.at ≡ 16) × (length e.values ≡ 16)
  pub behind : (k : ℕ) → e.n ≤ k → (get_or e.at k 0 ≡ 0) × (get_or e.values k 0 ≡ 0)

-- e has those of the first n places whose values are not 0: any row becomes the same
pub record Kept (at c : List ℕ) (n : ℕ) (e : Errata) : Type 0 where
  pub listed : Listed e
  pub same : (row : List ℕ) → mended_by row (entries e.at) (entries e.values) e.n ≡ mended_by row (entries at) (entries c) n
