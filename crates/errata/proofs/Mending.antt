-- Why the repair is exact. The row with the values added at the places differs from the row that came in those places alone, at most eight, and its syndromes are those of the row
-- less what the values add: where all sixteen agree it is coded. And where a coded row is near, the row differs from it at roots of the locator only, so that both stand
-- within as many places as the values were solved for, and are equal.
-- Assumes nothing.
use mathlib.Core.Path.{◌≡◌, refl, sym, ap, ap₂, subst, ◌∙◌}
use mathlib.Core.Logic.{◌≢◌, ⊎_elim}
use mathlib.Core.List.{List, [], ◌∷◌}
use Prim.Native.Nat.{ℕ, zero, suc, ◌+◌, ◌-◌, ◌≤◌, ◌<◌}
use native.Mathlib.Nat.{le_refl, mul_comm}
use native.Mathlib.Numerals.{add-one}
use native.Mathlib.Omega.{arith}
use lib.ListN.{length, get_or, set, length-set}
use lib.Seq.{get_or-set_same, get_or-set_other, ext_get_or}
use Rattle.std.proofs.lemmas.Bool.{cases_eq}
use Rattle.ground.specs.Bits.{sum}
use Rattle.ground.proofs.Sums.{sum_assoc, sum_self, sum_zero, sum_cancel}
use Rattle.field.specs.Field.{product, expo, power}
use Rattle.field.proofs.Laws.{sum-byte, expo-power}
use Rattle.code.specs.Code.{Bytes, Coded, add, distance}
use Rattle.code.specs.Search.{remainder}
use Rattle.code.specs.Repair.{Near}
use Rattle.code.specs.Value.{value, dot}
use Rattle.code.proofs.Lists.{zeros, bytes_of, bytes_at_lem, add-bytes, length-add, add_same}
use Rattle.code.proofs.Weights.{weight, terms, values_zeros}
use Rattle.code.proofs.Values.{value-add, value_set, value-remainder, coded-values, values-coded}
use Rattle.code.proofs.Distance.{distance_self, distance-set, weight_nonzeros, nonzeros_add}
use Rattle.code.proofs.Division.{remainder-coded}
use Rattle.code.proofs.Locate.{located}
use Rattle.code.specs.Total.{total}
use Rattle.errata.specs.InnerSums.{run_of}
use Rattle.errata.specs.InnerNull.{Annihilated}
use Rattle.errata.specs.InnerErrata.{entries, share_of, Syndromes, Placed, Rooted, Solved, mended_by, Gives, Nearing, Far}
use Rattle.ground.proofs.Numbers.{below_suc}
use Rattle.code.proofs.Totals.{total_ext, total_first}

-- α^(a · j) either way round
expo_swap : (a j : ℕ) → expo (power a) j ≡ expo (power j) a
expo_swap a j = expo-power a j ∙ ap power (mul_comm a j) ∙ sym (expo-power j a)

-- ---- the row with the values added

pub mended_start : (row : List ℕ) (a c : ℕ → ℕ) → row ≡ mended_by row a c 0
unfolding mended_by
mended_start row a c = refl

-- one value more
pub mended-more : (row : List ℕ) (a c : ℕ → ℕ) (k i : ℕ) (out : List ℕ) → out ≡ mended_by row a c k → i ≡ 254 - a k
    → set out i (sum (get_or out i 0) (c k)) ≡ mended_by row a c (k + 1)
unfolding mended_by
mended-more row a c k i out e p =
    ap₂ (λ (l : List ℕ) (n : ℕ). set l n (sum (get_or l n 0) (c k))) e p ∙ ap (mended_by row a c) (sym (add-one k))

module _ (row : List ℕ) (long : length row ≡ 255) (a c : ℕ → ℕ) where
  pub mended-length : (n : ℕ) → length (mended_by row a c n) ≡ 255
  unfolding mended_by
  mended-length zero = long
  mended-length (suc k) = length-set (mended_by row a c k) (254 - a k) (sum (get_or (mended_by row a c k) (254 - a k) 0) (c k)) ∙ mended-length k

  pub mended-byte : ((i : ℕ) → get_or row i 0 < 256) → ((k : ℕ) → c k < 256) → (n i : ℕ) → get_or (mended_by row a c n) i 0 < 256
  unfolding mended_by
  mended-byte br bc zero i = br i
  mended-byte br bc (suc k) i =
      let l : List ℕ = mended_by row a c k in
      let p : ℕ = 254 - a k in
      let v : ℕ = sum (get_or l p 0) (c k) in
      let size : length l ≡ 255 = mended-length k in
      let byte : v < 256 = sum-byte (get_or l p 0) (c k) (mended-byte br bc k p) (bc k) in
      ⊎_elim (λ (e : i ≡ p). rw e (rw (get_or-set_same l p v 0 (omega arith)) byte)) (λ (e : i ≡ p → ⊥). rw (get_or-set_other l p i v 0 e) (mended-byte br bc k i))
      (cases_eq i p)

  -- the syndromes take what the values add
  pub mended-value : (n : ℕ) → ((k : ℕ) → k < n → a k < 255) → (j : ℕ) → value (mended_by row a c n) (power j) ≡ sum (value row (power j)) (share_of a c n j)
  unfolding mended_by share_of total
  mended-value zero below j = sym (sum_zero (value row (power j)))
  mended-value (suc k) below j =
      let l : List ℕ = mended_by row a c k in
      let size : length l ≡ 255 = mended-length k in
      let b : a k < 255 = below k (le_refl (suc k)) in
      value_set l (254 - a k) (a k) (c k) (power j) (omega arith)
      ∙ ap₂ (λ (x y : ℕ). sum x (product (c k) y)) (mended-value k (λ i h. below i (omega arith)) j) (sym (expo_swap (a k) j))
      ∙ sum_assoc (value row (power j)) (share_of a c k j) (product (c k) (expo (power (a k)) j))

  -- one byte a place
  pub mended-distance : (n : ℕ) → distance row (mended_by row a c n) ≤ n
  unfolding mended_by
  mended-distance zero = let z : distance row row ≡ 0 = distance_self row in omega arith
  mended-distance (suc k) =
      let l : List ℕ = mended_by row a c k in
      let h : distance row l ≤ k = mended-distance k in
      let s : distance row (set l (254 - a k) (sum (get_or l (254 - a k) 0) (c k))) ≤ suc (distance row l) = distance-set row l (254 - a k) (sum (get_or l (254 - a k) 0) (c k)) in
      omega arith

  -- elsewhere the row stays
  pub mended_off : (n i : ℕ) → ((k : ℕ) → k < n → 254 - a k ≢ i) → get_or (mended_by row a c n) i 0 ≡ get_or row i 0
  unfolding mended_by
  mended_off zero i off = refl
  mended_off (suc k) i off =
      let l : List ℕ = mended_by row a c k in
      get_or-set_other l (254 - a k) i (sum (get_or l (254 - a k) 0) (c k)) 0 (λ e. off k (le_refl (suc k)) (sym e))
      ∙ mended_off k i (λ m h. off m (omega arith))

-- ---- two rows that agree but for n places

-- the row r with the bytes of s at the places
patched_by : List ℕ → (ℕ → ℕ) → List ℕ → ℕ → List ℕ
patched_by r a s zero = r
patched_by r a s (suc k) = set (patched_by r a s k) (254 - a k) (get_or s (254 - a k) 0)

patched_length : (r : List ℕ) (a : ℕ → ℕ) (s : List ℕ) (n : ℕ) → length (patched_by r a s n) ≡ length r
unfolding patched_by
patched_length r a s zero = refl
patched_length r a s (suc k) = length-set (patched_by r a s k) (254 - a k) (get_or s (254 - a k) 0) ∙ patched_length r a s k

patched_distance : (r : List ℕ) (a : ℕ → ℕ) (s : List ℕ) (n : ℕ) → distance r (patched_by r a s n) ≤ n
unfolding patched_by
patched_distance r a s zero = let z : distance r r ≡ 0 = distance_self r in omega arith
patched_distance r a s (suc k) =
    let l : List ℕ = patched_by r a s k in
    let h : distance r l ≤ k = patched_distance r a s k in
    let t : distance r (set l (254 - a k) (get_or s (254 - a k) 0)) ≤ suc (distance r l) = distance-set r l (254 - a k) (get_or s (254 - a k) 0) in
    omega arith

patched_at : (r : List ℕ) (a : ℕ → ℕ) (s : List ℕ) → length r ≡ 255 → (n i : ℕ)
    → (((k : ℕ) → k < n → 254 - a k ≢ i) → get_or r i 0 ≡ get_or s i 0) → get_or (patched_by r a s n) i 0 ≡ get_or s i 0
unfolding patched_by
patched_at r a s long zero i h = h (λ k b. absurd (omega arith))
patched_at r a s long (suc n) i h =
    let l : List ℕ = patched_by r a s n in
    let p : ℕ = 254 - a n in
    let size : length l ≡ length r = patched_length r a s n in
    ⊎_elim (λ (e : i ≡ p). rw e (get_or-set_same l p (get_or s p 0) 0 (omega arith)))
    (λ (e : i ≡ p → ⊥). get_or-set_other l p i (get_or s p 0) 0 e
    ∙ patched_at r a s long n i
    (λ off. h (λ k b. ⊎_elim (λ (q : k ≡ n). λ z. e (sym z ∙ ap (λ (x : ℕ). 254 - a x) q)) (λ (q : k < n). off k q) (below_suc b))))
    (cases_eq i p)

pub places-distance : (r : List ℕ) (a : ℕ → ℕ) (s : List ℕ) (n : ℕ) → length r ≡ 255 → length s ≡ 255
    → ((i : ℕ) → i < 255 → ((k : ℕ) → k < n → 254 - a k ≢ i) → get_or r i 0 ≡ get_or s i 0) → distance r s ≤ n
places-distance r a s n lr ls off =
    let e : patched_by r a s n ≡ s =
    ext_get_or 0 (patched_by r a s n) s (patched_length r a s n ∙ lr ∙ sym ls)
    (λ i h. patched_at r a s lr n i (off i (subst (λ (x : ℕ). i < x) (patched_length r a s n ∙ lr) h))) in
    subst (λ (l : List ℕ). distance r l ≤ n) e (patched_distance r a s n)

-- rows within n places of each other, with n equal syndromes, are equal
pub rows_same : (n : ℕ) (r s : List ℕ) → length r ≡ 255 → length s ≡ 255 → Bytes r → Bytes s → distance r s ≤ n
    → ((j : ℕ) → j < n → value r (power j) ≡ value s (power j)) → r ≡ s
rows_same n r s lr ls br bs d same =
    let e : length r ≡ length s = lr ∙ sym ls in
    let l : length (add r s) ≡ 255 = length-add r s (omega arith) ∙ ls in
    let w : weight (terms (add r s)) ≤ n = subst (λ (m : ℕ). m ≤ n) (sym (weight_nonzeros (add r s) ∙ nonzeros_add r s e)) d in
    add_same r s e
    (values_zeros n (add r s) (omega arith) (add-bytes r s br bs) w
    (λ j h. value-add r s (power j) e ∙ ap (λ (x : ℕ). sum x (value s (power j))) (same j h) ∙ sum_self (value s (power j)))
    ∙ ap zeros (l ∙ sym lr))

-- ---- runs of the syndromes, as the locator theorem has them

pub run-dot : (v s : List ℕ) (j : ℕ) → run_of v s j (length v) ≡ dot v (entries s) j
unfolding run_of dot total
run-dot [] s j = refl
run-dot (c ∷ v) s j =
    let f : ℕ → ℕ = λ m. product (get_or (c ∷ v) m 0) (get_or s (j + m) 0) in
    let e : j + 0 ≡ j = omega arith in
    total_first (length v) f
    ∙ ap₂ sum (ap (λ (x : ℕ). product c (get_or s x 0)) e)
    (total_ext (length v) (λ m. f (suc m)) (λ m. product (get_or v m 0) (get_or s (suc j + m) 0)) (λ m h. ap (λ (x : ℕ). product (get_or v m 0) (get_or s x 0)) (step m))
    ∙ run-dot v s (suc j))
  where
    step : (m : ℕ) → j + suc m ≡ suc j + m
    step m = omega arith

-- ---- values that were solved for at n places

pub record Weighed (rest s : List ℕ) (n : ℕ) (at c : List ℕ) : Type 0 where
  pub syndromes : Syndromes rest s
  pub placed : Placed n at
  pub value-bytes : (k : ℕ) → get_or c k 0 < 256
  pub solved : Solved at n s c

-- a row that leaves `rest`
module _ {rest s : List ℕ} {n : ℕ} {at c : List ℕ} (weighed : Weighed rest s n at c) (row : List ℕ) (long : length row ≡ 255) (bytes : Bytes row) (left : rest ≡ remainder 239 row) where
  mended : List ℕ
  mended = mended_by row (entries at) (entries c) n

  size : length mended ≡ 255
  unfolding mended
  size = mended-length row long (entries at) (entries c) n

  mended-bytes : Bytes mended
  unfolding mended
  mended-bytes = bytes_of (mended_by row (entries at) (entries c) n) (mended-byte row long (entries at) (entries c) (bytes_at_lem row bytes) weighed.value-bytes n)

  syndrome : (j : ℕ) → j < 16 → get_or s j 0 ≡ value row (power j)
  syndrome j h = weighed.syndromes.entry j h ∙ ap (λ (l : List ℕ). value l (power j)) left ∙ sym (value-remainder row long j h)

  mended_share : (j : ℕ) → value mended (power j) ≡ sum (value row (power j)) (share_of (entries at) (entries c) n j)
  unfolding mended
  mended_share j = mended-value row long (entries at) (entries c) n weighed.placed.below j

  -- where the values give a syndrome, the mended row has none
  cleared : (j : ℕ) → j < 16 → share_of (entries at) (entries c) n j ≡ get_or s j 0 → value mended (power j) ≡ 0
  cleared j h e = mended_share j ∙ ap (sum (value row (power j))) (e ∙ syndrome j h) ∙ sum_self (value row (power j))

  pub mended-coded : Gives s at c n → Coded (mended_by row (entries at) (entries c) n)
  unfolding mended
  mended-coded agree = values-coded mended size mended-bytes (λ j h. cleared j h (agree j h))

  -- a coded row that differs from it at the places only
  module _ (t : List ℕ) (coded : Coded t) (same : (i : ℕ) → i < 255 → ((k : ℕ) → k < n → 254 - get_or at k 0 ≢ i) → get_or row i 0 ≡ get_or t i 0) where
    agree_off : (i : ℕ) → i < 255 → ((k : ℕ) → k < n → 254 - get_or at k 0 ≢ i) → get_or mended i 0 ≡ get_or t i 0
    unfolding mended
    agree_off i h off = mended_off row long (entries at) (entries c) n i off ∙ same i h off

    complete : mended ≡ t
    complete =
        rows_same n mended t size coded.sized mended-bytes coded.bytes
        (places-distance mended (entries at) t n size coded.sized agree_off)
        (λ j h.
        let b : j < 16 = omega (arith, weighed.placed.few) in
        cleared j b (weighed.solved.solves j h) ∙ sym (coded-values t coded j b))

    pub agreed : Gives s at c n
    agreed j h =
        sym (sum_cancel (value row (power j)) (share_of (entries at) (entries c) n j)
        (sym (mended_share j) ∙ ap (λ (l : List ℕ). value l (power j)) complete ∙ coded-values t coded j h))
        ∙ sym (syndrome j h)

-- ---- the repair

-- what the search has found out of the remainder of a row
pub record Tried (rest s v : List ℕ) (n : ℕ) (at c : List ℕ) : Type 0 where
  pub syndromes : Syndromes rest s
  pub bytes : (i : ℕ) → get_or v i 0 < 256
  pub null : Annihilated s v
  pub rooted : Rooted v n at
  pub value-bytes : (k : ℕ) → get_or c k 0 < 256
  pub solved : Solved at n s c

module _ {rest s v : List ℕ} {n : ℕ} {at c : List ℕ} (tried : Tried rest s v n at c) (row : List ℕ) (long : length row ≡ 255) (bytes : Bytes row)
    (left : rest ≡ remainder 239 row) where
  weighed : Weighed rest s n at c
  weighed = record { syndromes = tried.syndromes; placed = tried.rooted.placed; value-bytes = tried.value-bytes; solved = tried.solved }

  pub sound : ((j : ℕ) → j < 16 → share_of (entries at) (entries c) n j ≡ get_or s j 0) → Near row (mended_by row (entries at) (entries c) n)
  sound agree =
      let few : n ≤ 8 = tried.rooted.ordered.few in
      let d : distance row (mended_by row (entries at) (entries c) n) ≤ n = mended-distance row long (entries at) (entries c) n in
      record { coded = mended-coded weighed row long bytes left agree; close = omega arith }

  module _ (t : List ℕ) (near : Near row t) where
    annihilated : (j : ℕ) → j < 8 → dot v (entries s) j ≡ 0
    annihilated j b = sym (run-dot v s j) ∙ ap (run_of v s j) tried.null.short.sized ∙ tried.null.passed j b

    -- where no place stands the rows agree
    agree-near : (i : ℕ) → i < 255 → ((k : ℕ) → k < n → 254 - get_or at k 0 ≢ i) → get_or row i 0 ≡ get_or t i 0
    agree-near i h off =
        located row t long bytes near v (entries s) (omega (arith, tried.null.short.sized)) (bytes_of v tried.bytes) (syndrome weighed row long bytes left) annihilated i (254 - i)
        (omega arith)
        (λ z. let k = tried.rooted.all (254 - i) (omega arith) z in off k.0 k.1 (omega (arith, k.2)))

    pub agreed_near : Gives s at c n
    agreed_near = agreed weighed row long bytes left t near.coded agree-near

module _ {rest s v : List ℕ} {n : ℕ} {at c : List ℕ} (tried : Tried rest s v n at c) where
  pub nearing : Gives s at c n → Nearing rest n at c
  nearing gives row long bytes left = sound tried row long bytes left gives

  pub far : (Gives s at c n → ⊥) → Far rest
  far nobody row long bytes left t near = nobody (agreed_near tried row long bytes left t near)

-- a row that leaves nothing is coded: nothing is to be added
pub nothing_left : (rest at c : List ℕ) → rest ≡ zeros 16 → Nearing rest 0 at c
unfolding mended_by
nothing_left rest at c none row long bytes left =
    record { coded = remainder-coded row long bytes (sym left ∙ none); close = omega (arith, distance_self row) }
