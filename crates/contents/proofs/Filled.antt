-- The laws of contents as a list: whether a slot is wrong, how many are filled, the lowest empty one, and the payloads joined.
-- Assumes nothing.
use mathlib.Core.Path.{◌≡◌, refl, sym, ap, ap₂, ◌∙◌}
use mathlib.Core.Bool.{true, false, true≢false}
use mathlib.Core.List.{List, [], ◌∷◌, ◌++◌, append_assoc}
use Prim.Native.Nat.{ℕ, zero, suc, ◌+◌, ◌*◌, ◌<◌, ◌≤◌}
use native.Mathlib.Nat.{add-zero, suc-mul}
use native.Mathlib.Omega.{arith}
use lib.ListN.{length, get_or, set, take, drop, replicate}
use lib.Seq.{drop-drop, ext_get_or, set_split, take-add, take_all}
use Rattle.ground.specs.Lists.{listed}
use Rattle.ground.proofs.Listed.{length-listed, get_or-listed_0}
use Rattle.contents.specs.Contents.{Slot, wrong, holding, any_wrong, filled, lowest_empty, joined}
use Rattle.std.specs.Prelude.{Some, None}

-- a slot that is empty
abbrev pub Empty : Slot → Type 0
Empty x = x ≡ holding []

-- ---- a wrong slot

pub wrong-none : (c : List Slot) → any_wrong c ≡ false → (k : ℕ) → k < length c → get_or c k wrong ≡ wrong → ⊥
wrong-none [] w k h e = absurd (omega arith)
wrong-none (wrong ∷ c) w k h e = absurd (true≢false w)
wrong-none (holding b ∷ c) w zero h e = let z : ◌≡◌ {A = ℕ} 0 1 = cc in omega arith
wrong-none (holding b ∷ c) w (suc k) h e = wrong-none c w k (omega arith) e

pub wrong-some : (c : List Slot) (k : ℕ) → k < length c → get_or c k wrong ≡ wrong → any_wrong c ≡ true
wrong-some [] k h e = absurd (omega arith)
wrong-some (wrong ∷ c) k h e = refl
wrong-some (holding b ∷ c) zero h e = let z : ◌≡◌ {A = ℕ} 0 1 = cc in absurd (omega arith)
wrong-some (holding b ∷ c) (suc k) h e = wrong-some c k (omega arith) e

-- a payload put where no slot is wrong
pub wrong-set : (c : List Slot) (k : ℕ) (b : List ℕ) → any_wrong c ≡ false → any_wrong (set c k (holding b)) ≡ false
wrong-set [] k b w = refl
wrong-set (wrong ∷ c) k b w = absurd (true≢false w)
wrong-set (holding a ∷ c) zero b w = w
wrong-set (holding a ∷ c) (suc k) b w = wrong-set c k b w

-- ---- how many are filled

pub filled-most : (c : List Slot) → filled c ≤ length c
filled-most [] = omega arith
filled-most (wrong ∷ c) = omega (arith, filled-most c)
filled-most (holding [] ∷ c) = omega (arith, filled-most c)
filled-most (holding (x ∷ b) ∷ c) = omega (arith, filled-most c)

-- a payload put into an empty slot
pub filled-set : (c : List Slot) (k : ℕ) (x : ℕ) (b : List ℕ) → k < length c → Empty (get_or c k wrong) → filled (set c k (holding (x ∷ b))) ≡ suc (filled c)
filled-set [] k x b h e = absurd (omega arith)
filled-set (wrong ∷ c) zero x b h e = let z : ◌≡◌ {A = ℕ} 0 1 = cc in absurd (omega arith)
filled-set (wrong ∷ c) (suc k) x b h e = filled-set c k x b (omega arith) e
filled-set (holding [] ∷ c) zero x b h e = refl
filled-set (holding [] ∷ c) (suc k) x b h e = filled-set c k x b (omega arith) e
filled-set (holding (y ∷ a) ∷ c) zero x b h e = let z : ◌≡◌ {A = ℕ} 0 1 = cc in absurd (omega arith)
filled-set (holding (y ∷ a) ∷ c) (suc k) x b h e = ap suc (filled-set c k x b (omega arith) e)

-- ---- the lowest empty slot

-- slot k is empty, and none below it
pub record Lowest (c : List Slot) (k : ℕ) : Type 0 where
  pub below : k < length c
  pub empty : Empty (get_or c k wrong)
  pub first : (j : ℕ) → j < k → Empty (get_or c j wrong) → ⊥

lowest-later : (x : Slot) (c : List Slot) (k : ℕ) → (Empty x → ⊥) → Lowest c k → Lowest (x ∷ c) (suc k)
lowest-later x c k n l = record { below = omega (arith, l.below); empty = l.empty; first = later }
  where
    later : (j : ℕ) → j < suc k → Empty (get_or (x ∷ c) j wrong) → ⊥
    later zero h e = n e
    later (suc j) h e = l.first j (omega arith) e

not_wrong : Empty wrong → ⊥
not_wrong e = let z : ◌≡◌ {A = ℕ} 0 1 = cc in omega arith

not_full : (x : ℕ) (b : List ℕ) → Empty (holding (x ∷ b)) → ⊥
not_full x b e = let z : ◌≡◌ {A = ℕ} 0 1 = cc in omega arith

-- counted from i
abbrev Found-from : List Slot → ℕ → ℕ → Type 0
Found-from c i n = (k : ℕ) × ((n ≡ i + k) × Lowest c k)

found-later : (x : Slot) (c : List Slot) (i n : ℕ) → (Empty x → ⊥) → Found-from c (suc i) n → Found-from (x ∷ c) i n
found-later x c i n d f = (suc f.0, (omega (arith, f.1.0), lowest-later x c f.0 d f.1.1))

lowest_from_lem : (c : List Slot) (i n : ℕ) → lowest_empty c i ≡ Some n → Found-from c i n
lowest_from_lem [] i n e = let z : ◌≡◌ {A = ℕ} 0 1 = cc in absurd (omega arith)
lowest_from_lem (wrong ∷ c) i n e = found-later wrong c i n not_wrong (lowest_from_lem c (suc i) n e)
lowest_from_lem (holding [] ∷ c) i n e =
    let d : i ≡ n = cc in
    (0, (omega arith, record { below = omega arith; empty = refl; first = λ j h x. absurd (omega arith) }))
lowest_from_lem (holding (x ∷ b) ∷ c) i n e = found-later (holding (x ∷ b)) c i n (not_full x b) (lowest_from_lem c (suc i) n e)

pub lowest-found : (c : List Slot) (k : ℕ) → lowest_empty c 0 ≡ Some k → Lowest c k
lowest-found c k e =
    let f = lowest_from_lem c 0 k e in
    let z : f.0 ≡ k = omega (arith, f.1.0) in
    rw z at f.1.1

-- behind a first slot
lowest_rest : (x : Slot) (c : List Slot) (k : ℕ) → Lowest (x ∷ c) (suc k) → Lowest c k
lowest_rest x c k l = record { below = omega (arith, l.below); empty = l.empty; first = λ j h e. l.first (suc j) (omega arith) e }

one_on : (i k : ℕ) → suc i + k ≡ i + suc k
one_on i k = omega arith

pub lowest_is : (c : List Slot) (i k : ℕ) → Lowest c k → lowest_empty c i ≡ Some (i + k)
lowest_is [] i k l = absurd (omega (arith, l.below))
lowest_is (wrong ∷ c) i zero l = absurd (not_wrong l.empty)
lowest_is (wrong ∷ c) i (suc k) l = lowest_is c (suc i) k (lowest_rest wrong c k l) ∙ ap Some (one_on i k)
lowest_is (holding [] ∷ c) i zero l = ap Some (sym (add-zero i))
lowest_is (holding [] ∷ c) i (suc k) l = absurd (l.first 0 (omega arith) refl)
lowest_is (holding (x ∷ b) ∷ c) i zero l = absurd (not_full x b l.empty)
lowest_is (holding (x ∷ b) ∷ c) i (suc k) l = lowest_is c (suc i) k (lowest_rest (holding (x ∷ b)) c k l) ∙ ap Some (one_on i k)

pub lowest-nothing : (c : List Slot) (i : ℕ) → lowest_empty c i ≡ None → (k : ℕ) → k < length c → Empty (get_or c k wrong) → ⊥
lowest-nothing [] i e k h x = absurd (omega arith)
lowest-nothing (wrong ∷ c) i e zero h x = not_wrong x
lowest-nothing (wrong ∷ c) i e (suc k) h x = lowest-nothing c (suc i) e k (omega arith) x
lowest-nothing (holding [] ∷ c) i e k h x = let z : ◌≡◌ {A = ℕ} 0 1 = cc in omega arith
lowest-nothing (holding (y ∷ b) ∷ c) i e zero h x = not_full y b x
lowest-nothing (holding (y ∷ b) ∷ c) i e (suc k) h x = lowest-nothing c (suc i) e k (omega arith) x

pub nothing_is : (c : List Slot) (i : ℕ) → ((k : ℕ) → k < length c → Empty (get_or c k wrong) → ⊥) → lowest_empty c i ≡ None
nothing_is [] i f = refl
nothing_is (wrong ∷ c) i f = nothing_is c (suc i) (λ k h. f (suc k) (omega arith))
nothing_is (holding [] ∷ c) i f = absurd (f 0 (omega arith) refl)
nothing_is (holding (y ∷ b) ∷ c) i f = nothing_is c (suc i) (λ k h. f (suc k) (omega arith))

-- a payload put into another slot than the lowest empty one
pub lowest-set-other : (c : List Slot) (i n k x : ℕ) (b : List ℕ) → lowest_empty c i ≡ Some n → (n ≡ i + k → ⊥) → lowest_empty (set c k (holding (x ∷ b))) i ≡ Some n
lowest-set-other [] i n k x b e d = e
lowest-set-other (wrong ∷ c) i n zero x b e d = e
lowest-set-other (wrong ∷ c) i n (suc k) x b e d = lowest-set-other c (suc i) n k x b e (λ z. d (omega arith))
lowest-set-other (holding [] ∷ c) i n zero x b e d = let z : i ≡ n = cc in absurd (d (omega arith))
lowest-set-other (holding [] ∷ c) i n (suc k) x b e d = e
lowest-set-other (holding (y ∷ a) ∷ c) i n zero x b e d = e
lowest-set-other (holding (y ∷ a) ∷ c) i n (suc k) x b e d = lowest-set-other c (suc i) n k x b e (λ z. d (omega arith))

-- into the lowest: the next empty one behind it
pub lowest-set-own : (c : List Slot) (i k x : ℕ) (b : List ℕ) → Lowest c k → lowest_empty (set c k (holding (x ∷ b))) i ≡ lowest_empty (drop (suc k) c) (suc (i + k))
lowest-set-own [] i k x b l = refl
lowest-set-own (y ∷ c) i zero x b l = ap (λ (n : ℕ). lowest_empty c (suc n)) (sym (add-zero i))
lowest-set-own (wrong ∷ c) i (suc k) x b l =
    lowest-set-own c (suc i) k x b (lowest_rest wrong c k l) ∙ ap (λ (n : ℕ). lowest_empty (drop (suc k) c) (suc n)) (one_on i k)
lowest-set-own (holding [] ∷ c) i (suc k) x b l = absurd (l.first 0 (omega arith) refl)
lowest-set-own (holding (y ∷ a) ∷ c) i (suc k) x b l =
    lowest-set-own c (suc i) k x b (lowest_rest (holding (y ∷ a)) c k l) ∙ ap (λ (n : ℕ). lowest_empty (drop (suc k) c) (suc n)) (one_on i k)

pub lowest-set-nothing : (c : List Slot) (i k x : ℕ) (b : List ℕ) → lowest_empty c i ≡ None → lowest_empty (set c k (holding (x ∷ b))) i ≡ None
lowest-set-nothing [] i k x b e = e
lowest-set-nothing (wrong ∷ c) i zero x b e = e
lowest-set-nothing (wrong ∷ c) i (suc k) x b e = lowest-set-nothing c (suc i) k x b e
lowest-set-nothing (holding [] ∷ c) i k x b e = let z : ◌≡◌ {A = ℕ} 0 1 = cc in absurd (omega arith)
lowest-set-nothing (holding (y ∷ a) ∷ c) i zero x b e = e
lowest-set-nothing (holding (y ∷ a) ∷ c) i (suc k) x b e = lowest-set-nothing c (suc i) k x b e

-- where no slot is wrong, all are filled exactly if none is empty
pub all-filled : (c : List Slot) (i : ℕ) → any_wrong c ≡ false → lowest_empty c i ≡ None → filled c ≡ length c
all-filled [] i w e = refl
all-filled (wrong ∷ c) i w e = absurd (true≢false w)
all-filled (holding [] ∷ c) i w e = let z : ◌≡◌ {A = ℕ} 0 1 = cc in absurd (omega arith)
all-filled (holding (x ∷ b) ∷ c) i w e = ap suc (all-filled c (suc i) w e)

pub filled-all : (c : List Slot) (i : ℕ) → filled c ≡ length c → (any_wrong c ≡ false) × (lowest_empty c i ≡ None)
filled-all [] i e = (refl, refl)
filled-all (wrong ∷ c) i e = absurd (omega (arith, filled-most c))
filled-all (holding [] ∷ c) i e = absurd (omega (arith, filled-most c))
filled-all (holding (x ∷ b) ∷ c) i e = filled-all c (suc i) (omega arith)

-- ---- the payloads joined

pub joined-append : (c d : List Slot) → joined (c ++ d) ≡ joined c ++ joined d
joined-append [] d = refl
joined-append (wrong ∷ c) d = joined-append c d
joined-append (holding b ∷ c) d = ap (λ (l : List ℕ). b ++ l) (joined-append c d) ∙ sym (append_assoc b (joined c) (joined d))

pub joined-set : (c : List Slot) (k : ℕ) (b : List ℕ) → k < length c → joined (set c k (holding b)) ≡ joined (take k c) ++ (b ++ joined (drop (suc k) c))
joined-set c k b h = ap joined (set_split c k (holding b) h) ∙ joined-append (take k c) (holding b ∷ drop (suc k) c)

-- ---- slots that are all empty

pub empty_right : (n : ℕ) → any_wrong (replicate n (holding [])) ≡ false
empty_right zero = refl
empty_right (suc n) = empty_right n

pub empty-filled : (n : ℕ) → filled (replicate n (holding [])) ≡ 0
empty-filled zero = refl
empty-filled (suc n) = empty-filled n

pub empty-lowest : (n i : ℕ) → 0 < n → lowest_empty (replicate n (holding [])) i ≡ Some i
empty-lowest zero i h = absurd (omega arith)
empty-lowest (suc n) i h = refl

-- ---- slots that all hold a payload, f k in slot k

pub holding-right : (f : ℕ → List ℕ) (n i : ℕ) → any_wrong (listed (λ k. holding (f k)) n i) ≡ false
holding-right f zero i = refl
holding-right f (suc n) i = holding-right f n (suc i)

-- a list each of whose slots is known
pub holding-all : (c : List Slot) (f : ℕ → List ℕ) → ((k : ℕ) → k < length c → get_or c k wrong ≡ holding (f k)) → c ≡ listed (λ k. holding (f k)) (length c) 0
holding-all c f e =
    let l : length (listed (λ k. holding (f k)) (length c) 0) ≡ length c = length-listed (λ k. holding (f k)) (length c) 0 in
    ext_get_or wrong c (listed (λ k. holding (f k)) (length c) 0) (sym l) (λ k h. e k h ∙ sym (get_or-listed_0 (λ k. holding (f k)) (length c) k wrong h))

module _ (f : ℕ → List ℕ) where
  pub holding-filled : (n i : ℕ) → ((k : ℕ) → i ≤ k → k < i + n → 0 < length (f k)) → filled (listed (λ k. holding (f k)) n i) ≡ n
  holding-filled zero i e = refl
  holding-filled (suc n) i e = more (f i) (listed (λ k. holding (f k)) n (suc i)) (e i (omega arith) (omega arith)) (holding-filled n (suc i) (λ k a b. e k (omega arith) (omega arith)))
    where
      more : (b : List ℕ) (c : List Slot) → 0 < length b → filled c ≡ n → filled (holding b ∷ c) ≡ suc n
      more [] c h e = absurd (omega arith)
      more (x ∷ b) c h e = ap suc e

  pub holding-lowest : (n i : ℕ) → ((k : ℕ) → i ≤ k → k < i + n → 0 < length (f k)) → lowest_empty (listed (λ k. holding (f k)) n i) i ≡ None
  holding-lowest n i e =
      (filled-all (listed (λ k. holding (f k)) n i) i (holding-filled n i e ∙ sym (length-listed (λ k. holding (f k)) n i))).1

-- the parts of p bytes of a list, in order
pub joined-parts : (f : ℕ → List ℕ) (l : List ℕ) (p n i : ℕ) → ((k : ℕ) → i ≤ k → k < i + n → f k ≡ take p (drop (k * p) l)) → joined (listed (λ k. holding (f k)) n i) ≡ take (n * p) (drop (i * p) l)
joined-parts f l p zero i e = let z : 0 * p ≡ 0 = omega arith in rw z
joined-parts f l p (suc n) i e =
    let m : p + n * p ≡ suc n * p = omega (arith, suc-mul n p) in
    let d : suc i * p ≡ i * p + p = suc-mul i p in
    ap₂ ◌++◌ (e i (omega arith) (omega arith))
    (joined-parts f l p n (suc i) (λ k a b. e k (omega arith) (omega arith))
    ∙ ap (λ (x : ℕ). take (n * p) (drop x l)) d ∙ ap (take (n * p)) (sym (drop-drop p (i * p) l)))
    ∙ sym (take-add p (n * p) (drop (i * p) l)) ∙ ap (λ (x : ℕ). take x (drop (i * p) l)) m

pub joined-whole : (f : ℕ → List ℕ) (l : List ℕ) (p n : ℕ) → ((k : ℕ) → k < n → f k ≡ take p (drop (k * p) l)) → length l ≤ n * p → joined (listed (λ k. holding (f k)) n 0) ≡ l
joined-whole f l p n e h =
    let z : 0 * p ≡ 0 = omega arith in
    joined-parts f l p n 0 (λ k a b. e k (omega arith)) ∙ ap (λ (x : ℕ). take (n * p) (drop x l)) z ∙ take_all (n * p) l h
