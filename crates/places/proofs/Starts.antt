-- The lowest start: it is free and no lower one is, and there is none exactly if no start is free: document 01, section 5, Open.
-- Assumes nothing.
use mathlib.Core.Path.{◌≡◌, refl, sym, ap, ◌∙◌}
use mathlib.Core.Logic.{◌⊎◌, ⊎_map}
use mathlib.Core.Bool.{Bool, true, false, cond, true≢false}
use mathlib.Core.List.{List}
use Prim.Native.Nat.{ℕ, zero, suc, ◌+◌, ◌<◌, ◌≤◌}
use native.Mathlib.Omega.{arith}
use borrow.Author.Tests.{le-leb, leb-true}
use lib.Dec.{leb}
use lib.ListN.{length, get_or}
use Rattle.std.proofs.lemmas.Bool.{and_parts, or_cases, false_from_ne_true}
use Rattle.places.specs.declared.Place.{Place}
use Rattle.places.specs.Places.{unused, in_use, usable, end_of, all}
use Rattle.places.specs.Room.{clear, free, lowest_from, lowest_start}
use Rattle.ground.proofs.Truth.{differ, and_join}
use Rattle.places.proofs.Steps.{all-at, all_of}
use Rattle.std.specs.Prelude.{Some, None}

-- ---- the first number at which a test passes

module _ (f : ℕ → Bool) where
  record Least (s m b : ℕ) : Type 0 where
    passes : f b ≡ true
    from : s ≤ b
    below : b < s + m
    least : (k : ℕ) → s ≤ k → f k ≡ true → b ≤ k

  least_is : (s m b : ℕ) → lowest_from f s m ≡ Some b → Least s m b
  unfolding lowest_from
  least_is s zero b e = let z : ◌≡◌ {A = ℕ} 0 1 = cc in absurd (omega arith)
  least_is s (suc m) b e = by (least_is (suc s) m b) (f s) refl e
    where
      by : (lowest_from f (suc s) m ≡ Some b → Least (suc s) m b) → (x : Bool) → f s ≡ x → cond x (Some s) (lowest_from f (suc s) m) ≡ Some b → Least s (suc m) b
      by ih true t e =
          let z : s ≡ b = cc in
          record { passes = rw z at t; from = omega arith; below = omega arith; least = λ k h g. omega arith }
      by ih false t e =
          let r = ih e in
          record {
            passes = r.passes;
            from = omega (arith, r.from);
            below = omega (arith, r.below);
            least = λ k h g.
                let ne : s ≡ k → ⊥ = λ z. true≢false (sym g ∙ sym (ap f z) ∙ t) in
                r.least k (omega arith) g;
          }

  none-least : (s m : ℕ) → lowest_from f s m ≡ None → (k : ℕ) → s ≤ k → k < s + m → f k ≡ false
  unfolding lowest_from
  none-least s zero e k h l = absurd (omega arith)
  none-least s (suc m) e k h l = by (none-least (suc s) m) (f s) refl e
    where
      at : s ≡ k → f s ≡ false → f k ≡ false
      at z t = rw z at t

      by : (lowest_from f (suc s) m ≡ None → (k : ℕ) → suc s ≤ k → k < suc s + m → f k ≡ false) → (x : Bool) → f s ≡ x → cond x (Some s) (lowest_from f (suc s) m) ≡ None → f k ≡ false
      by ih true t e = let z : ◌≡◌ {A = ℕ} 0 1 = cc in absurd (omega arith)
      by ih false t e =
          false_from_ne_true (f k) (λ g. let ne : s ≡ k → ⊥ = λ z. differ (sym g ∙ at z t) in differ (sym g ∙ ih e k (omega arith) (omega arith)))

  is_least : (s m b : ℕ) → Least s m b → lowest_from f s m ≡ Some b
  unfolding lowest_from
  is_least s zero b r = absurd (omega (arith, r.from, r.below))
  is_least s (suc m) b r = by (is_least (suc s) m b) (f s) refl
    where
      by : (Least (suc s) m b → lowest_from f (suc s) m ≡ Some b) → (x : Bool) → f s ≡ x → cond x (Some s) (lowest_from f (suc s) m) ≡ Some b
      by ih true t = let z : s ≡ b = omega (arith, r.from, r.least s (omega arith) t) in ap Some z
      by ih false t =
          let ne : s ≡ b → ⊥ = λ z. true≢false (sym r.passes ∙ sym (ap f z) ∙ t) in
          ih (record { passes = r.passes; from = omega (arith, r.from); below = omega (arith, r.below); least = λ k h g. r.least k (omega arith) g })

  is_none_lem : (s m : ℕ) → ((k : ℕ) → f k ≡ true → s + m ≤ k) → lowest_from f s m ≡ None
  unfolding lowest_from
  is_none_lem s zero h = refl
  is_none_lem s (suc m) h = by (is_none_lem (suc s) m (λ k t. omega (arith, h k t))) (f s) refl
    where
      by : lowest_from f (suc s) m ≡ None → (x : Bool) → f s ≡ x → cond x (Some s) (lowest_from f (suc s) m) ≡ None
      by ih true t = absurd (omega (arith, h s t))
      by ih false t = ih

-- ---- what a free start says

-- bytes that are clear of a place in use lie behind it or before it
pub clear_apart : (s size : ℕ) (p : Place) → in_use p ≡ true → clear s size p ≡ true → (end_of p ≤ s) ⊎ (s + size ≤ p.start)
unfolding clear
clear_apart s size p u c =
    ⊎_map (leb-true (end_of p) s) (leb-true (s + size) p.start) (or_cases (leb (end_of p) s) (leb (s + size) p.start) (simp u at c))

module _ (n size : ℕ) (ps : List Place) where
  pub record Free (s : ℕ) : Type 0 where
    pub ends : s + size ≤ usable n
    pub clears : (i : ℕ) → i < length ps → clear s size (get_or ps i unused) ≡ true

  pub free_is : (s : ℕ) → free n size ps s ≡ true → Free s
  unfolding free
  free_is s e =
      let b = and_parts (leb (s + size) (usable n)) (all (clear s size) ps) e in
      record { ends = leb-true (s + size) (usable n) b.0; clears = λ i h. all-at (clear s size) ps i b.1 h }

  pub is_free : (s : ℕ) → Free s → free n size ps s ≡ true
  unfolding free
  is_free s r = and_join (le-leb _ _ r.ends) (all_of (clear s size) ps r.clears)

  -- the lowest start is free, and no lower one is
  pub lowest-free : (s : ℕ) → lowest_start n size ps ≡ Some s → free n size ps s ≡ true
  unfolding lowest_start
  lowest-free s e = (least_is (free n size ps) 0 (suc (usable n)) s e).passes

  pub lowest-ends : (s : ℕ) → lowest_start n size ps ≡ Some s → s + size ≤ usable n
  lowest-ends s e = (free_is s (lowest-free s e)).ends

  pub lowest-least : (s : ℕ) → lowest_start n size ps ≡ Some s → (t : ℕ) → free n size ps t ≡ true → s ≤ t
  unfolding lowest_start
  lowest-least s e t f = (least_is (free n size ps) 0 (suc (usable n)) s e).least t (omega arith) f

  -- there is none exactly if no start is free
  pub lowest-none : lowest_start n size ps ≡ None → (s : ℕ) → free n size ps s ≡ false
  unfolding lowest_start
  lowest-none e s =
      false_from_ne_true (free n size ps s)
      (λ f. differ (sym f ∙ none-least (free n size ps) 0 (suc (usable n)) e s (omega arith) (omega (arith, (free_is s f).ends))))

  pub none-lowest : ((s : ℕ) → free n size ps s ≡ false) → lowest_start n size ps ≡ None
  unfolding lowest_start
  none-lowest h = is_none_lem (free n size ps) 0 (suc (usable n)) (λ k f. differ (sym f ∙ h k))

  pub free-lowest : (s : ℕ) → free n size ps s ≡ true → ((t : ℕ) → free n size ps t ≡ true → s ≤ t) → lowest_start n size ps ≡ Some s
  unfolding lowest_start
  free-lowest s f l =
      is_least (free n size ps) 0 (suc (usable n)) s
      (record { passes = f; from = omega arith; below = omega (arith, (free_is s f).ends); least = λ k h g. l k g })
