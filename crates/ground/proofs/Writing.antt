-- A loop that writes one value after the other, in one record: `Run`. What is left to write makes what the whole run makes. And what a run of writes holds
-- afterwards, as parts of lists. Assumes nothing.
use mathlib.Core.Path.{◌≡◌, refl, sym, ap, ap₂, subst, ◌∙◌}
use mathlib.Core.Logic.{⊎_elim}
use mathlib.Core.List.{List, [], ◌∷◌, ◌++◌, append_assoc, append-nil}
use Prim.Native.Nat.{ℕ, suc, ◌+◌, ◌-◌, ◌<◌, ◌≤◌}
use native.Mathlib.Nat.{add-zero, zero-add, add-suc, suc-add}
use native.Mathlib.Omega.{arith}
use lib.ListN.{length, get_or, set, take, drop, length-set, length-drop, drop_of_length-le, take-append-drop}
use lib.Seq.{sets, set_out, sets-eq, length-sets, take_all, length-take-le, drop-drop}
use borrow.Rule.Slice.PartMut.{put_mid}
use Rattle.ground.specs.Lists.{listed}
use Rattle.ground.proofs.Listed.{length-listed, listed-append, listed-part, le_or_lt}

-- ---- stores that follow each other

pub sets-append : (l : List ℕ) (i : ℕ) (xs ys : List ℕ) → sets l i (xs ++ ys) ≡ sets (sets l i xs) (i + length xs) ys
sets-append l i [] ys = ap (λ (x : ℕ). sets l x ys) (sym (add-zero i))
sets-append l i (x ∷ xs) ys = sets-append (set l i x) (suc i) xs ys ∙ ap (λ (k : ℕ). sets (sets l i (x ∷ xs)) k ys) (omega arith)

-- from the front
pub sets-front : (l xs : List ℕ) → length xs ≤ length l → sets l 0 xs ≡ xs ++ drop (length xs) l
sets-front l xs h =
    let z : 0 + length xs ≡ length xs = omega arith in
    sets-eq xs l 0 (omega arith) ∙ ap (λ (x : ℕ). xs ++ drop x l) z

-- all of a list
pub sets-all : (l xs : List ℕ) → length xs ≡ length l → sets l 0 xs ≡ xs
sets-all l xs e =
    sets-front l xs (omega arith) ∙ ap (λ (x : List ℕ). xs ++ x) (drop_of_length-le l {i = length xs} (omega arith)) ∙ append-nil xs

-- behind a front
set-behind : (a l : List ℕ) (i x : ℕ) → set (a ++ l) (length a + i) x ≡ a ++ set l i x
set-behind [] l i x = ap (λ (k : ℕ). set l k x) (zero-add i)
set-behind (y ∷ a) l i x =
    ap (λ (k : ℕ). set (y ∷ (a ++ l)) k x) (suc-add (length a) i) ∙ ap (λ (r : List ℕ). y ∷ r) (set-behind a l i x)

pub sets_behind : (a l : List ℕ) (i : ℕ) (xs : List ℕ) → sets (a ++ l) (length a + i) xs ≡ a ++ sets l i xs
sets_behind a l i [] = refl
sets_behind a l i (x ∷ xs) =
    ap₂ (λ (r : List ℕ) (k : ℕ). sets r k xs) (set-behind a l i x) (sym (add-suc (length a) i)) ∙ sets_behind a (set l i x) (suc i) xs

-- a part from byte a on, lent and written: the same writes in the whole
pub lent-sets : (a : ℕ) (vs l : List ℕ) (i : ℕ) → a ≤ length l → put_mid a (length l - a) l (sets (take (length l - a) (drop a l)) i vs) ≡ sets l (a + i) vs
lent-sets a vs l i h =
    let w : take (length l - a) (drop a l) ≡ drop a l = take_all (length l - a) (drop a l) (omega (arith, length-drop a l)) in
    let d : drop (length l - a) (drop a l) ≡ [] = drop_of_length-le (drop a l) {i = length l - a} (omega (arith, length-drop a l)) in
    let e : length (take a l) ≡ a = length-take-le a l h in
    ap₂ (λ (x y : List ℕ). take a l ++ (sets x i vs ++ y)) w d ∙ ap (λ (x : List ℕ). take a l ++ x) (append-nil (sets (drop a l) i vs))
    ∙ sym (sets_behind (take a l) (drop a l) i vs)
    ∙ ap₂ (λ (x : List ℕ) (y : ℕ). sets x (y + i) vs) (take-append-drop a l) e

-- a part that is lent and all written: the same as its bytes stored there
pub put_whole : (l ys : List ℕ) (a k : ℕ) → length ys ≡ k → a + k ≤ length l → put_mid a k l ys ≡ sets l a ys
put_whole l ys a k e h =
    ap (λ (x : List ℕ). take a l ++ (ys ++ x)) (ap (λ (x : ℕ). drop x (drop a l)) (sym e) ∙ drop-drop (length ys) a l)
    ∙ sym (sets-eq ys l a (omega arith) ∙ append_assoc (take a l) ys (drop (a + length ys) l))

-- beyond the end nothing is stored
pub sets_out : (l : List ℕ) (at : ℕ) (vs : List ℕ) → length l ≤ at → sets l at vs ≡ l
sets_out l at [] h = refl
sets_out l at (v ∷ vs) h = sets_out (set l at v) (suc at) vs (omega (arith, length-set l at v)) ∙ set_out l at v h

-- so where n values reach the end, the others do not matter
module _ (l : List ℕ) (at n : ℕ) (vs : List ℕ) (h : n ≤ length vs) (e : n < length vs → length l ≤ at + n) where
  reaches : sets l at (take n vs) ≡ sets l at vs
  reaches = ⊎_elim all part (le_or_lt (length vs) n)
    where
      all : length vs ≤ n → sets l at (take n vs) ≡ sets l at vs
      all b = ap (sets l at) (take_all n vs b)

      part : n < length vs → sets l at (take n vs) ≡ sets l at vs
      part b =
          let z : length (take n vs) ≡ n = length-take-le n vs h in
          sym (sets_out (sets l at (take n vs)) (at + length (take n vs)) (drop n vs) (omega (arith, length-sets l at (take n vs), e b)))
          ∙ sym (sets-append l at (take n vs) (drop n vs)) ∙ ap (sets l at) (take-append-drop n vs)

  pub sets_reach : sets l at (listed (λ k. get_or vs k 0) n 0) ≡ sets l at vs
  sets_reach = ap (sets l at) (listed-part vs 0 n 0 (omega arith)) ∙ reaches

  -- and likewise where n are put there as one part
  pub put_reach : (ys : List ℕ) (k : ℕ) → ys ≡ take n vs → k ≡ n → at + n ≤ length l → put_mid at k l ys ≡ sets l at vs
  put_reach ys k p d room = put_whole l ys at k (ap length p ∙ length-take-le n vs h ∙ sym d) (omega arith) ∙ ap (sets l at) p ∙ reaches

-- ---- a run of writes: l is l₀ with the first k of n values of f written from at on
pub record Run (f : ℕ → ℕ) (n at : ℕ) (l₀ l : List ℕ) (k : ℕ) : Type 0 where
  pub within : k ≤ n
  pub long : length l ≡ length l₀
  pub rest : sets l (at + k) (listed f (n - k) k) ≡ sets l₀ at (listed f n 0)

pub run_begin : (f : ℕ → ℕ) (n at : ℕ) (l : List ℕ) → Run f n at l l 0
run_begin f n at l =
    let e : n - 0 ≡ n = omega arith in
    record { within = omega arith; long = refl; rest = ap₂ (λ (x y : ℕ). sets l x (listed f y 0)) (add-zero at) e }

module _ (f : ℕ → ℕ) (n at : ℕ) (l₀ l : List ℕ) (k : ℕ) (run : Run f n at l₀ l k) where
  -- m values at once
  pub run_jump : (m : ℕ) (l' : List ℕ) → k + m ≤ n → l' ≡ sets l (at + k) (listed f m k) → Run f n at l₀ l' (k + m)
  run_jump m l' h e =
      let d : n - k ≡ m + (n - (k + m)) = omega arith in
      let z : at + (k + m) ≡ at + k + length (listed f m k) = omega (arith, length-listed f m k) in
      record {
        within = h;
        long = ap length e ∙ length-sets l (at + k) (listed f m k) ∙ run.long;
        rest = ap₂ (λ (x : List ℕ) (y : ℕ). sets x y (listed f (n - (k + m)) (k + m))) e z
            ∙ sym (sets-append l (at + k) (listed f m k) (listed f (n - (k + m)) (k + m)))
            ∙ ap (sets l (at + k)) (sym (listed-append f m (n - (k + m)) k) ∙ ap (λ (x : ℕ). listed f x k) (sym d))
            ∙ run.rest;
      }

  pub run_step : (v : ℕ) → k < n → v ≡ f k → Run f n at l₀ (set l (at + k) v) (k + 1)
  run_step v h e = run_jump 1 (set l (at + k) v) (omega arith) (ap (set l (at + k)) e)

  -- the place said by an equation
  pub run-put : (p v : ℕ) → p ≡ at + k → k < n → v ≡ f k → Run f n at l₀ (set l p v) (k + 1)
  run-put p v d h e = subst (λ (x : ℕ). Run f n at l₀ (set l x v) (k + 1)) (sym d) (run_step v h e)

  pub run_end : n ≤ k → l ≡ sets l₀ at (listed f n 0)
  run_end h = let e : n - k ≡ 0 = omega arith in ap (λ (x : ℕ). sets l (at + k) (listed f x k)) (sym e) ∙ run.rest
