-- Why nine candidates are enough for the lowest start: if it is not 0, the bytes a byte lower meet a place, which ends at the start.
-- Assumes nothing.
use mathlib.Core.Path.{◌≡◌, refl, sym, ◌∙◌}
use mathlib.Core.Logic.{⊎_elim}
use mathlib.Core.Bool.{Bool, true, false, not, ◌&&◌, ◌||◌}
use mathlib.Core.List.{List, [], ◌∷◌}
use Prim.Native.Nat.{ℕ, zero, suc, ◌+◌, ◌<◌, ◌≤◌}
use native.Mathlib.Omega.{arith}
use borrow.Author.Count.{below_more}
use borrow.Author.Tests.{le-leb, leb-false, not-false}
use lib.Dec.{leb}
use lib.ListN.{length, get_or}
use Rattle.std.proofs.lemmas.Bool.{or_parts, false_from_ne_true}
use Rattle.places.specs.declared.Place.{Place}
use Rattle.places.specs.Places.{unused, in_use, usable, end_of, all}
use Rattle.places.specs.Room.{clear, free, lowest_start}
use Rattle.ground.proofs.Truth.{differ}
use Rattle.places.proofs.Starts.{clear_apart, free_is, free-lowest, none-lowest}
use Rattle.std.specs.Prelude.{Some, None}

-- a place that is met at t and not at t + 1 is in use and ends at t + 1
clear_edge : (t size : ℕ) (p : Place) → clear (suc t) size p ≡ true → clear t size p ≡ false → (in_use p ≡ true) × (end_of p ≡ suc t)
unfolding clear
clear_edge t size p a b =
    let x = or_parts (not (in_use p)) (leb (end_of p) t || leb (t + size) p.start) b in
    let y = or_parts (leb (end_of p) t) (leb (t + size) p.start) x.1 in
    let u = not-false (in_use p) x.0 in
    let near : suc t + size ≤ p.start → ⊥ = λ h. omega (arith, leb-false (t + size) p.start y.1) in
    (u, ⊎_elim (λ h. omega (arith, leb-false (end_of p) t y.0)) (λ h. absurd (near h)) (clear_apart (suc t) size p u a))

-- where not all places pass, one does not
one_fails : (g : Place → Bool) (Q : Type 0) (ps : List Place) → all g ps ≡ false → ((k : ℕ) → k < length ps → g (get_or ps k unused) ≡ false → Q) → Q
one_fails g Q [] a w = differ a
one_fails g Q (p ∷ ps) a w = by (λ r. one_fails g Q ps r (λ k h. w (suc k) (omega arith))) (g p) refl a
  where
    by : (all g ps ≡ false → Q) → (x : Bool) → g p ≡ x → (x && all g ps) ≡ false → Q
    by ih true t a = ih a
    by ih false t a = w 0 (omega arith) t

module _ (n size : ℕ) (ps : List Place) where
  -- bytes that fit and are not free meet a place
  some_met : (s : ℕ) (Q : Type 0) → s + size ≤ usable n → free n size ps s ≡ false → ((k : ℕ) → k < length ps → clear s size (get_or ps k unused) ≡ false → Q) → Q
  unfolding free
  some_met s Q h f = one_fails (clear s size) Q ps (rw (le-leb (s + size) (usable n) h) at f)

  -- what the search knows after i places: b is past the end or free, and of their ends none that is free lies below it
  pub record Best (i b : ℕ) : Type 0 where
    pub bound : b ≤ usable n + 1
    pub there : b ≤ usable n → free n size ps b ≡ true
    pub least : (k : ℕ) → k < i → in_use (get_or ps k unused) ≡ true → free n size ps (end_of (get_or ps k unused)) ≡ true → b ≤ end_of (get_or ps k unused)

  pub best_none : Best 0 (usable n + 1)
  best_none = record { bound = omega arith; there = λ h. absurd (omega arith); least = λ k h. absurd (omega arith) }

  module _ (i b : ℕ) (h : Best i b) where
    best_keep : (in_use (get_or ps i unused) ≡ true → free n size ps (end_of (get_or ps i unused)) ≡ true → b ≤ end_of (get_or ps i unused)) → Best (i + 1) b
    best_keep g = record { bound = h.bound; there = h.there; least = below_more _ _ h.least g }

    pub best_unused : in_use (get_or ps i unused) ≡ false → Best (i + 1) b
    best_unused u = best_keep (λ v. differ (sym v ∙ u))

    module _ (e : ℕ) (q : e ≡ end_of (get_or ps i unused)) where
      pub best_lower : b ≤ e → Best (i + 1) b
      best_lower l = best_keep (λ u t. omega arith)

      pub best_met : free n size ps e ≡ false → Best (i + 1) b
      best_met f = best_keep (λ u t. differ (sym t ∙ (rw q at f)))

      pub best_take : e < b → free n size ps e ≡ true → Best (i + 1) e
      best_take l f = record {
        bound = omega (arith, h.bound);
        there = λ x. f;
        least = below_more _ _ (λ k m u t. omega (arith, h.least k m u t)) (λ u t. omega arith);
      }

    module _ (whole : length ps ≤ i) (none : free n size ps 0 ≡ false) where
      -- no free start lies below the best candidate
      lowest : (s : ℕ) → free n size ps s ≡ true → b ≤ s
      lowest zero e = differ (sym e ∙ none)
      lowest (suc t) e = by (lowest t) (free n size ps t) refl
        where
          by : (free n size ps t ≡ true → b ≤ t) → (x : Bool) → free n size ps t ≡ x → b ≤ suc t
          by ih true f = omega (arith, ih f)
          by ih false f =
              let r = free_is n size ps (suc t) e in
              some_met t (b ≤ suc t) (omega (arith, r.ends)) f
              (λ k l m.
              let q = clear_edge t size (get_or ps k unused) (r.clears k l) m in
              rw q.1 at (h.least k (omega arith) q.0 (rw q.1 e)))

      pub best_at : b ≤ usable n → lowest_start n size ps ≡ Some b
      best_at l = free-lowest n size ps b (h.there l) lowest

      pub best_nowhere : usable n < b → lowest_start n size ps ≡ None
      best_nowhere l =
          none-lowest n size ps (λ s. false_from_ne_true (free n size ps s) (λ f. absurd (omega (arith, lowest s f, (free_is n size ps s f).ends))))

-- the start 0 is the lowest if it is free
pub lowest_zero : (n size : ℕ) (ps : List Place) → free n size ps 0 ≡ true → lowest_start n size ps ≡ Some 0
lowest_zero n size ps f = free-lowest n size ps 0 f (λ t g. omega arith)

-- what the code's test of a start said, the end being that of the usable store
pub free_said : (n size : ℕ) (ps : List Place) (s end : ℕ) {r b : Bool} → end ≡ usable n → r ≡ (leb (s + size) end && all (clear s size) ps) → r ≡ b → free n size ps s ≡ b
unfolding free
free_said n size ps s end e h t = rw (sym e) (sym h ∙ t)
