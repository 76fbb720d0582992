-- The laws of `listed`: its length, its entries, its parts, two of them equal, a list cut into pieces, zeros. And of `ceil`: the two bounds that make it a over b, rounded up.
-- Assumes nothing.
use mathlib.Core.Path.{◌≡◌, refl, sym, ap, ap₂, ◌∙◌}
use mathlib.Core.Logic.{◌⊎◌, inl, inr}
use mathlib.Core.Bool.{Bool, true, false}
use mathlib.Core.List.{List, [], ◌∷◌, ◌++◌, flatten}
use Prim.Native.Nat.{ℕ, zero, suc, ◌+◌, ◌-◌, ◌*◌, ◌/◌, ◌%◌, ◌<◌, ◌≤◌}
use native.Mathlib.Nat.{add-zero, zero-add, add_comm, zero-mul, suc-mul, add-mul, one-mul, mod-lt, div-add-mod', le-div_iff_mul-le, div-eq_of_lt-le}
use native.Mathlib.Omega.{arith}
use borrow.Author.Tests.{leb-true, leb-false}
use lib.Dec.{leb}
use lib.ListN.{length, get_or, take, drop, replicate, get_or-eq_default}
use lib.Seq.{ext_get_or, take_at, drop_at, take_all, take-take, take-add, drop-drop}
use Rattle.ground.specs.Lists.{listed, ceil}

module _ {A : Type 0} where
  pub length-listed : (f : ℕ → A) (n i : ℕ) → length (listed f n i) ≡ n
  length-listed f zero i = refl
  length-listed f (suc n) i = ap suc (length-listed f n (suc i))

  pub get_or-listed : (f : ℕ → A) (n i k : ℕ) (d : A) → k < n → get_or (listed f n i) k d ≡ f (i + k)
  get_or-listed f zero i k d h = absurd (omega arith)
  get_or-listed f (suc n) i zero d h = ap f (sym (add-zero i))
  get_or-listed f (suc n) i (suc k) d h = get_or-listed f n (suc i) k d (omega arith) ∙ ap f (omega arith)

  -- counted from 0
  pub get_or-listed_0 : (f : ℕ → A) (n k : ℕ) (d : A) → k < n → get_or (listed f n 0) k d ≡ f k
  get_or-listed_0 f n k d h = get_or-listed f n 0 k d h ∙ ap f (zero-add k)

  pub listed-append : (f : ℕ → A) (n k i : ℕ) → listed f (n + k) i ≡ listed f n i ++ listed f k (i + n)
  listed-append f zero k i = let e : 0 + k ≡ k = omega arith in ap₂ (listed f) e (sym (add-zero i))
  listed-append f (suc n) k i =
      let e : suc n + k ≡ suc (n + k) = omega arith in
      let d : suc i + n ≡ i + suc n = omega arith in
      ap (λ (x : ℕ). listed f x i) e
      ∙ ap (λ (l : List A). f i ∷ l) (listed-append f n k (suc i) ∙ ap (λ (x : ℕ). listed f n (suc i) ++ listed f k x) d)

  pub take-listed : (f : ℕ → A) (n i k : ℕ) → k ≤ n → take k (listed f n i) ≡ listed f k i
  take-listed f n i k h =
      let e : n ≡ k + (n - k) = omega arith in
      ap (λ (x : ℕ). take k (listed f x i)) e ∙ ap (take k) (listed-append f k (n - k) i)
      ∙ take_at (listed f k i) (listed f (n - k) (i + k)) k (length-listed f k i)

  pub drop-listed : (f : ℕ → A) (n i k : ℕ) → k ≤ n → drop k (listed f n i) ≡ listed f (n - k) (i + k)
  drop-listed f n i k h =
      let e : n ≡ k + (n - k) = omega arith in
      ap (λ (x : ℕ). drop k (listed f x i)) e ∙ ap (drop k) (listed-append f k (n - k) i)
      ∙ drop_at (listed f k i) (listed f (n - k) (i + k)) k (length-listed f k i)

  -- k of them from the j-th on
  pub slice_listed : (f : ℕ → A) (n i j k : ℕ) → j + k ≤ n → take k (drop j (listed f n i)) ≡ listed f k (i + j)
  slice_listed f n i j k h = ap (take k) (drop-listed f n i j (omega arith)) ∙ take-listed f (n - j) (i + j) k (omega arith)

  -- the same values, from another start
  pub listed_same : (f g : ℕ → A) (n i j : ℕ) → ((k : ℕ) → k < n → f (i + k) ≡ g (j + k)) → listed f n i ≡ listed g n j
  listed_same f g zero i j h = refl
  listed_same f g (suc n) i j h =
      ap₂ ◌∷◌ (ap f (sym (add-zero i)) ∙ h 0 (omega arith) ∙ ap g (add-zero j))
      (listed_same f g n (suc i) (suc j) (λ k p. ap f (omega arith) ∙ h (suc k) (omega arith) ∙ ap g (omega arith)))

  pub listed_ext : (f g : ℕ → A) (n i : ℕ) → ((k : ℕ) → i ≤ k → k < i + n → f k ≡ g k) → listed f n i ≡ listed g n i
  listed_ext f g n i h = listed_same f g n i i (λ k p. h (i + k) (omega arith) (omega arith))

  -- the start moved into the function
  pub listed_shift : (f : ℕ → A) (n i j : ℕ) → listed f n (i + j) ≡ listed (λ k. f (i + k)) n j
  listed_shift f n i j =
      listed_same f (λ k. f (i + k)) n (i + j) j (λ k p. let e : i + j + k ≡ i + (j + k) = omega arith in ap f e)

  pub listed_constant : (a : A) (n i : ℕ) → listed (λ k. a) n i ≡ replicate n a
  listed_constant a zero i = refl
  listed_constant a (suc n) i = ap (λ (l : List A). a ∷ l) (listed_constant a n (suc i))

  -- a list is the list of its entries
  pub listed-whole : (l : List A) (d : A) → listed (λ k. get_or l k d) (length l) 0 ≡ l
  listed-whole l d =
      let e : length (listed (λ k. get_or l k d) (length l) 0) ≡ length l = length-listed (λ k. get_or l k d) (length l) 0 in
      ext_get_or d (listed (λ k. get_or l k d) (length l) 0) l e (λ i h. get_or-listed_0 (λ k. get_or l k d) (length l) i d (omega arith))

  -- and beyond its end there is the default
  pub listed-padded : (l : List A) (d : A) (n : ℕ) → length l ≤ n → listed (λ k. get_or l k d) n 0 ≡ l ++ replicate (n - length l) d
  listed-padded l d n h =
      let e : n ≡ length l + (n - length l) = omega arith in
      ap (λ (x : ℕ). listed (λ k. get_or l k d) x 0) e ∙ listed-append (λ k. get_or l k d) (length l) (n - length l) 0
      ∙ ap₂ (λ (x y : List A). x ++ y) (listed-whole l d)
      (listed_same (λ k. get_or l k d) (λ k. d) (n - length l) (0 + length l) 0 (λ k p. get_or-eq_default l d (omega arith))
      ∙ listed_constant d (n - length l) 0)

  -- a part of a list is a list of its entries
  pub listed-part : (l : List A) (d : A) (n i : ℕ) → i + n ≤ length l → listed (λ k. get_or l k d) n i ≡ take n (drop i l)
  listed-part l d n i h =
      let z : 0 + i ≡ i = omega arith in
      sym (slice_listed (λ k. get_or l k d) (length l) 0 i n h ∙ ap (listed (λ k. get_or l k d) n) z)
      ∙ ap (λ (x : List A). take n (drop i x)) (listed-whole l d)

  pub listed_from : (l : List A) (d : A) (n i : ℕ) → i + n ≤ length l → listed (λ k. get_or l (i + k) d) n 0 ≡ take n (drop i l)
  listed_from l d n i h =
      sym (listed_shift (λ k. get_or l k d) n i 0) ∙ ap (listed (λ k. get_or l k d) n) (add-zero i) ∙ listed-part l d n i h

  -- a part that lies within a front
  pub part_of_front : (k a p : ℕ) (l : List A) → a + k ≤ p → take k (drop a (take p l)) ≡ take k (drop a l)
  part_of_front k zero p l h = take-take k p l (omega arith)
  part_of_front k (suc a) zero l h = absurd (omega arith)
  part_of_front k (suc a) (suc p) [] h = refl
  part_of_front k (suc a) (suc p) (x ∷ xs) h = part_of_front k a p xs (omega arith)

  -- a list cut into pieces of p: c of the pieces, joined
  pub joined-pieces : (l : List A) (p c i : ℕ) → flatten (listed (λ n. take p (drop (n * p) l)) c i) ≡ take (c * p) (drop (i * p) l)
  unfolding flatten
  joined-pieces l p zero i = ap (λ (x : ℕ). take x (drop (i * p) l)) (sym (zero-mul p))
  joined-pieces l p (suc c) i =
      let e : suc c * p ≡ p + c * p = suc-mul c p ∙ add_comm (c * p) p in
      ap (λ (x : List A). take p (drop (i * p) l) ++ x)
      (joined-pieces l p c (suc i) ∙ ap (λ (x : ℕ). take (c * p) (drop x l)) (suc-mul i p) ∙ ap (take (c * p)) (sym (drop-drop p (i * p) l)))
      ∙ sym (take-add p (c * p) (drop (i * p) l)) ∙ ap (λ (x : ℕ). take x (drop (i * p) l)) (sym e)

  -- all of them
  pub joined-all : (l : List A) (p c : ℕ) → length l ≤ c * p → flatten (listed (λ n. take p (drop (n * p) l)) c 0) ≡ l
  joined-all l p c h = joined-pieces l p c 0 ∙ ap (λ (x : ℕ). take (c * p) (drop x l)) (zero-mul p) ∙ take_all (c * p) l h

-- ---- zeros

pub zeros_at : (n k : ℕ) → ◌≡◌ {A = ℕ} (get_or (replicate n 0) k 0) 0
zeros_at zero k = refl
zeros_at (suc n) zero = refl
zeros_at (suc n) (suc k) = zeros_at n k

-- ---- numbers

pub le_or_lt : (n i : ℕ) → (n ≤ i) ⊎ (i < n)
le_or_lt n i = go (leb n i) refl
  where
    go : (b : Bool) → leb n i ≡ b → (n ≤ i) ⊎ (i < n)
    go true e = inl (leb-true n i e)
    go false e = inr (leb-false n i e)

-- a over b, rounded up: the two bounds
pub ceil_upper : (a b : ℕ) → 0 < b → a ≤ ceil a b * b
ceil_upper a b h =
    let e : (a + (b - 1)) / b * b + (a + (b - 1)) % b ≡ a + (b - 1) = div-add-mod' (a + (b - 1)) b in
    let l : (a + (b - 1)) % b < b = mod-lt (a + (b - 1)) h in
    omega arith

-- one b less does not reach a
pub ceil-short : (a b : ℕ) → 0 < b → ceil a b * b < a + b
ceil-short a b h =
    let e : (a + (b - 1)) / b * b + (a + (b - 1)) % b ≡ a + (b - 1) = div-add-mod' (a + (b - 1)) b in
    omega arith

pub ceil_positive : (a b : ℕ) → 0 < b → 0 < a → 0 < ceil a b
ceil_positive a b h p = (le-div_iff_mul-le {k = b} {x = 1} {y = a + (b - 1)} h).1 (omega arith)

-- what is below it, times b, is below a
pub ceil-below : (a b q : ℕ) → 0 < b → q < ceil a b → q * b < a
ceil-below a b q h l =
    let e : suc q * b ≤ a + (b - 1) = (le-div_iff_mul-le {k = b} {x = suc q} {y = a + (b - 1)} h).0 l in
    omega (arith, suc-mul q b)

pub ceil-lower : (a b : ℕ) → 0 < b → 0 < a → (ceil a b - 1) * b < a
ceil-lower a b h p = ceil-below a b (ceil a b - 1) h (let c : 0 < ceil a b = ceil_positive a b h p in omega arith)

-- it is the only number between the bounds
pub ceil_is : (a b q : ℕ) → 0 < b → a ≤ q * b → q * b < a + b → ceil a b ≡ q
ceil_is a b q h l u =
    div-eq_of_lt-le {k = q} b {m = a + (b - 1)} (omega arith)
    (let e : (q + 1) * b ≡ q * b + b = add-mul q 1 b ∙ ap (λ (x : ℕ). q * b + x) (one-mul b) in omega arith)

pub ceil-multiple : (q b : ℕ) → 0 < b → ceil (q * b) b ≡ q
ceil-multiple q b h = ceil_is (q * b) b q h (omega arith) (omega arith)

pub ceil_mono : (a c b : ℕ) → 0 < b → a ≤ c → ceil a b ≤ ceil c b
ceil_mono a c b h l =
    (le-div_iff_mul-le {k = b} {x = ceil a b} {y = c + (b - 1)} h).1
    (let s : ceil a b * b < a + b = ceil-short a b h in omega arith)
