-- Pieces of one length written one behind the other, in one record: `Laid`. What is left to write makes what the whole makes.
-- Assumes nothing.
use mathlib.Core.Path.{◌≡◌, refl, sym, ap, ap₂, ◌∙◌}
use mathlib.Core.List.{List, [], ◌∷◌, ◌++◌, append_assoc, append-nil, flatten}
use Prim.Native.Nat.{ℕ, zero, suc, ◌+◌, ◌-◌, ◌*◌, ◌<◌, ◌≤◌}
use native.Mathlib.Nat.{add-mul, zero-mul}
use native.Mathlib.Omega.{arith}
use lib.ListN.{length, take, drop, length-append}
use lib.Seq.{sets, length-sets, take_at, drop_at}
use Rattle.ground.specs.Lists.{listed}
use Rattle.ground.proofs.Listed.{listed-append}
use Rattle.ground.proofs.Writing.{sets-append}

flatten_append : (a b : List (List ℕ)) → flatten (a ++ b) ≡ flatten a ++ flatten b
unfolding flatten
flatten_append [] b = refl
flatten_append (x ∷ a) b = ap (λ (l : List ℕ). x ++ l) (flatten_append a b) ∙ sym (append_assoc x (flatten a) (flatten b))

-- n pieces, the first being piece i
abbrev pub pieces : (ℕ → List ℕ) → ℕ → ℕ → List ℕ
pieces f n i = flatten (listed f n i)

pub pieces-append : (f : ℕ → List ℕ) (n k i : ℕ) → pieces f (n + k) i ≡ pieces f n i ++ pieces f k (i + n)
pieces-append f n k i = ap flatten (listed-append f n k i) ∙ flatten_append (listed f n i) (listed f k (i + n))

pub pieces_one : (f : ℕ → List ℕ) (i : ℕ) → pieces f 1 i ≡ f i
unfolding flatten
pieces_one f i = append-nil (f i)

module _ (f : ℕ → List ℕ) (w : ℕ) (sized : (i : ℕ) → length (f i) ≡ w) where
  pub length-pieces : (n i : ℕ) → length (pieces f n i) ≡ n * w
  unfolding flatten
  length-pieces zero i = sym (zero-mul w)
  length-pieces (suc n) i =
      let a : length (f i) ≡ w = sized i in
      let b : length (pieces f n (suc i)) ≡ n * w = length-pieces n (suc i) in
      let c : suc n * w ≡ n * w + w = omega (arith, add-mul n 1 w) in
      length-append (f i) (pieces f n (suc i)) ∙ omega arith

  -- piece k of them
  pub piece_at : (n k : ℕ) → k < n → take w (drop (k * w) (pieces f n 0)) ≡ f k
  unfolding flatten
  piece_at n k h =
      let e : n ≡ k + suc (n - (k + 1)) = omega arith in
      let z : 0 + k ≡ k = omega arith in
      ap (λ (m : ℕ). take w (drop (k * w) (pieces f m 0))) e
      ∙ ap (λ (l : List ℕ). take w (drop (k * w) l)) (pieces-append f k (suc (n - (k + 1))) 0)
      ∙ ap (take w) (drop_at (pieces f k 0) (pieces f (suc (n - (k + 1))) (0 + k)) (k * w) (length-pieces k 0))
      ∙ first (n - (k + 1)) (0 + k) ∙ ap f z
    where
      first : (m i : ℕ) → take w (pieces f (suc m) i) ≡ f i
      first m i = take_at (f i) (pieces f m (suc i)) w (sized i)

-- out is out₀ with the first r of n pieces written from its front on, the first being piece i
pub record Laid (f : ℕ → List ℕ) (w n i : ℕ) (out₀ out : List ℕ) (r : ℕ) : Type 0 where
  pub within : r ≤ n
  pub long : length out ≡ length out₀
  pub left : sets out (r * w) (pieces f (n - r) (i + r)) ≡ sets out₀ 0 (pieces f n i)

pub laid_start : (f : ℕ → List ℕ) (w n i : ℕ) (out : List ℕ) → Laid f w n i out out 0
laid_start f w n i out =
    let e : i + 0 ≡ i = omega arith in
    let g : n - 0 ≡ n = omega arith in
    record { within = omega arith; long = refl; left = ap (λ (x : ℕ). sets out x (pieces f (n - 0) (i + 0))) (zero-mul w) ∙ ap₂ (λ (k j : ℕ). sets out 0 (pieces f k j)) g e }

pub laid_more : (f : ℕ → List ℕ) (w : ℕ) → ((j : ℕ) → length (f j) ≡ w) → (n i : ℕ) (out₀ out next : List ℕ) (r k : ℕ) → r + k ≤ n
    → next ≡ sets out (r * w) (pieces f k (i + r)) → Laid f w n i out₀ out r → Laid f w n i out₀ next (r + k)
laid_more f w sized n i out₀ out next r k h e p =
    let a : List ℕ = pieces f k (i + r) in
    let b : List ℕ = pieces f (n - (r + k)) (i + r + k) in
    let o : i + (r + k) ≡ i + r + k = omega arith in
    let j : (r + k) * w ≡ r * w + length a = add-mul r k w ∙ ap (λ (x : ℕ). r * w + x) (sym (length-pieces f w sized k (i + r))) in
    let q : n - r ≡ k + (n - (r + k)) = omega arith in
    record {
      within = h;
      long = ap length e ∙ length-sets out (r * w) a ∙ p.long;
      left =
          ap₂ (λ (x : List ℕ) (y : ℕ). sets x y (pieces f (n - (r + k)) (i + (r + k)))) e j
          ∙ ap (λ (y : ℕ). sets (sets out (r * w) a) (r * w + length a) (pieces f (n - (r + k)) y)) o
          ∙ sym (sets-append out (r * w) a b)
          ∙ ap (sets out (r * w)) (sym (pieces-append f k (n - (r + k)) (i + r)) ∙ ap (λ (x : ℕ). pieces f x (i + r)) (sym q))
          ∙ p.left;
    }

pub laid_done : (f : ℕ → List ℕ) (w n i : ℕ) (out₀ out : List ℕ) (r : ℕ) → n ≤ r → Laid f w n i out₀ out r → out ≡ sets out₀ 0 (pieces f n i)
unfolding flatten
laid_done f w n i out₀ out r h p =
    let e : n - r ≡ 0 = omega arith in ap (λ (k : ℕ). sets out (r * w) (pieces f k (i + r))) (sym e) ∙ p.left
