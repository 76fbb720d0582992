-- The columns that are lost, as `losses::came` tells them (`lost_places`): as many as are counted, in the order that `errata::fill` asks for, and no others.
-- Assumes nothing.
use mathlib.Core.Path.{◌≡◌, refl, sym, ap, ap₂, ◌∙◌}
use mathlib.Core.Bool.{Bool, true, false, cond}
use mathlib.Core.List.{List}
use Prim.Native.Nat.{ℕ, zero, suc, ◌+◌, ◌-◌, ◌<◌, ◌≤◌}
use native.Mathlib.Nat.{le_refl}
use native.Mathlib.Omega.{arith}
use borrow.Author.Tests.{lt-ltb}
use lib.Dec.{ltb}
use lib.ListN.{length, get_or, length-append}
use Rattle.ground.proofs.Listed.{length-listed, get_or-listed_0}
use Rattle.ground.proofs.Truth.{differ}
use Rattle.code.specs.Restore.{lost_of}
use Rattle.code.proofs.Lost.{lost-none, lost-more}
use Rattle.roots.specs.Roots.{passing}
use Rattle.roots.proofs.Passing.{single, passing-more}
use Rattle.errata.specs.Restoring.{entry_before, falling_to, among}
use Rattle.errata.proofs.Rising.{Rises, passing_rises}
use Rattle.errata.proofs.Places.{Descending, descending_end, among_one, among_none}
use Rattle.losses.specs.Losses.{lost_places}

-- ---- how many

many-lost : (f : ℕ → Bool) (n : ℕ) → length (passing f n 0) ≡ lost_of f n
unfolding passing
many-lost f zero = sym (lost-none f 0 (λ c h. absurd (omega arith)))
many-lost f (suc n) =
    let z : 0 + n ≡ n = omega arith in
    ap length (passing-more f n 0) ∙ length-append (passing f n 0) (single (f (0 + n)) (0 + n))
    ∙ ap₂ (λ (x y : ℕ). x + length (single (f y) y)) (many-lost f n) z ∙ by (f n) ∙ sym (lost-more f n)
  where
    by : (b : Bool) → lost_of f n + length (single b n) ≡ cond b (suc (lost_of f n)) (lost_of f n)
    by true = omega arith
    by false = omega arith

pub length-places : (f : ℕ → Bool) → length (lost_places f) ≡ 16
unfolding lost_places
length-places f = length-listed (λ k. cond (ltb k (length (passing f 255 0))) (254 - get_or (passing f 255 0) k 0) 0) 16 0

-- ---- which

module _ (f : ℕ → Bool) (few : lost_of f 255 ≤ 16) where
  abbrev columns : List ℕ
  columns = passing f 255 0

  rises : Rises f (length (passing f 255 0)) (λ k. get_or (passing f 255 0) k 0)
  rises = passing_rises f

  many : length (passing f 255 0) ≡ lost_of f 255
  many = many-lost f 255

  place_is : (k : ℕ) → k < lost_of f 255 → get_or (lost_places f) k 0 ≡ 254 - get_or (passing f 255 0) k 0
  unfolding lost_places
  place_is k h =
      let l : k < length (passing f 255 0) = omega (arith, many) in
      get_or-listed_0 (λ k. cond (ltb k (length (passing f 255 0))) (254 - get_or (passing f 255 0) k 0) 0) 16 k 0 (omega arith)
      ∙ ap (λ (b : Bool). cond b (254 - get_or (passing f 255 0) k 0) 0) (lt-ltb k (length (passing f 255 0)) l)

  below : (k : ℕ) → k < lost_of f 255 → get_or (passing f 255 0) k 0 < 255
  below k h = rises.below k (omega (arith, many))

  falls_at : (k : ℕ) → k < lost_of f 255 → get_or (lost_places f) k 0 < entry_before (lost_places f) k
  falls_at zero h = omega (arith, place_is 0 h)
  falls_at (suc k) h =
      omega (arith, place_is (suc k) h, place_is k (omega arith), rises.rising k (suc k) (omega arith) (omega (arith, many)), below (suc k) h)

  pub places_fall : falling_to (lost_places f) (lost_of f 255) ≡ true
  places_fall =
      let d : Descending (lost_places f) (lost_of f 255) (lost_of f 255) (entry_before (lost_places f) (lost_of f 255)) =
      record { few = few; within = le_refl (lost_of f 255); was = refl; each = falls_at } in
      sym (descending_end d (le_refl (lost_of f 255)))

  pub among-lost : (c : ℕ) → c < 255 → among (lost_places f) (lost_of f 255) c ≡ f c
  among-lost c h = by (among (lost_places f) (lost_of f 255) c) (f c) refl refl
    where
      by : (a b : Bool) → among (lost_places f) (lost_of f 255) c ≡ a → f c ≡ b → a ≡ b
      by true true p q = refl
      by false false p q = refl
      by true false p q =
          let k = among_one (lost_places f) (lost_of f 255) c p in
          let e : get_or (passing f 255 0) k.0 0 ≡ c = omega (arith, place_is k.0 k.1, k.2, below k.0 k.1) in
          differ (sym (rises.passes k.0 (omega (arith, many, k.1))) ∙ ap f e ∙ q)
      by false true p q =
          let k = rises.all c h q in
          let l : k.0 < lost_of f 255 = omega (arith, many, k.1) in
          absurd (among_none (lost_places f) (lost_of f 255) c p k.0 l (place_is k.0 l ∙ ap (λ (x : ℕ). 254 - x) k.2))
