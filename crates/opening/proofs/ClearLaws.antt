-- The steps of the loop that clears slots.
-- Assumes nothing.
use mathlib.Core.Path.{◌≡◌, sym, ap, ◌∙◌}
use mathlib.Core.List.{List}
use Prim.Native.Nat.{ℕ, suc, ◌+◌, ◌-◌, ◌*◌, ◌<◌, ◌≤◌}
use native.Mathlib.Nat.{add-mul}
use native.Mathlib.Omega.{arith}
use lib.ListN.{set}
use Rattle.contents.specs.Slots.{cleared}

module _ (s t : List ℕ) (start k n w : ℕ) (h : cleared s (start + k * w) (n - k) w ≡ t) where
  pub cleared_more : k < n → cleared (set (set s (start + k * w) 0) (start + k * w + 1) 0) (start + (k + 1) * w) (n - (k + 1)) w ≡ t
  unfolding cleared
  cleared_more l =
      let e : n - k ≡ suc (n - (k + 1)) = omega arith in
      let z : start + (k + 1) * w ≡ start + k * w + w = omega (arith, add-mul k 1 w) in
      ap (λ (x : ℕ). cleared (set (set s (start + k * w) 0) (start + k * w + 1) 0) x (n - (k + 1)) w) z
      ∙ sym (ap (λ (m : ℕ). cleared s (start + k * w) m w) e) ∙ h

  pub cleared_done : n ≤ k → s ≡ t
  unfolding cleared
  cleared_done l = let e : n - k ≡ 0 = omega arith in sym (ap (λ (m : ℕ). cleared s (start + k * w) m w) e) ∙ h
