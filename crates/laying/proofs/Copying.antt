-- Bytes of the file copied as far as it reaches, and zeros behind them: the file's bytes, 0 beyond it.
-- Assumes nothing.
use mathlib.Core.Path.{◌≡◌, sym, ap, ◌∙◌}
use mathlib.Core.Logic.{⊎_elim}
use mathlib.Core.List.{List, ◌++◌}
use Prim.Native.Nat.{ℕ, ◌+◌, ◌-◌, ◌≤◌, ◌<◌, min}
use native.Mathlib.Omega.{arith}
use borrow.Rule.Slice.PartMut.{put_mid}
use lib.ListN.{length, get_or, take, drop, replicate, length-replicate, length-drop, get_or-eq_default}
use lib.Seq.{sets, length-sets, length-take-le}
use Rattle.ground.specs.Lists.{listed}
use Rattle.ground.proofs.Listed.{length-listed, listed-append, listed_same, listed-part, listed_constant, le_or_lt}
use Rattle.ground.proofs.Writing.{sets-append, put_whole}

module _ (file : List ℕ) (at n a b : ℕ) (d : a ≡ min at (length file)) (e : b ≡ min (at + n) (length file)) where
  -- what is copied
  copied : take (b - a) (drop a file) ≡ listed (λ k. get_or file k 0) (b - a) at
  copied =
      ⊎_elim
      (λ (h : at ≤ length file).
      let z : a ≡ at = omega arith in
      ap (λ (x : ℕ). take (b - a) (drop x file)) z ∙ sym (listed-part file 0 (b - a) at (omega arith)))
      (λ (h : length file < at).
      let z : b - a ≡ 0 = omega arith in
      ap (λ (x : ℕ). take x (drop a file)) z ∙ ap (λ (x : ℕ). listed (λ k. get_or file k 0) x at) (sym z))
      (le_or_lt at (length file))

  -- what is beyond the file
  beyond : listed (λ k. 0) (n - (b - a)) 0 ≡ listed (λ k. get_or file k 0) (n - (b - a)) (at + (b - a))
  beyond =
      listed_same (λ k. 0) (λ k. get_or file k 0) (n - (b - a)) 0 (at + (b - a)) (λ k l. sym (get_or-eq_default file 0 {n = at + (b - a) + k} (omega arith)))

  abbrev front : List ℕ
  front = listed (λ k. get_or file k 0) (b - a) at

  abbrev back : List ℕ
  back = listed (λ k. get_or file k 0) (n - (b - a)) (at + (b - a))

  zeros : replicate (n - (b - a)) 0 ≡ back
  zeros = sym (listed_constant 0 (n - (b - a)) 0) ∙ beyond

  joined : front ++ back ≡ listed (λ k. get_or file k 0) n at
  joined =
      let w : b - a + (n - (b - a)) ≡ n = omega arith in
      sym (listed-append (λ k. get_or file k 0) (b - a) (n - (b - a)) at) ∙ ap (λ (x : ℕ). listed (λ k. get_or file k 0) x at) w

  -- the zeros are put there as one part
  pub info_written : (out mid : List ℕ) (o : ℕ) → o + n ≤ length out → mid ≡ sets out o (take (b - a) (drop a file)) → (ys : List ℕ) (k : ℕ)
      → k ≡ n - (b - a) → ys ≡ replicate (length (take k (drop (o + (b - a)) mid))) 0
      → put_mid (o + (b - a)) k mid ys ≡ sets out o (listed (λ k. get_or file k 0) n at)
  info_written out mid o room g ys k w h =
      let z : o + (b - a) ≡ o + length front = omega (arith, length-listed (λ k. get_or file k 0) (b - a) at) in
      let m : length mid ≡ length out = ap length g ∙ length-sets out o (take (b - a) (drop a file)) in
      let l : length (take k (drop (o + (b - a)) mid)) ≡ k = length-take-le k (drop (o + (b - a)) mid) (omega (arith, length-drop (o + (b - a)) mid)) in
      let r : ys ≡ replicate (n - (b - a)) 0 = h ∙ ap (λ (x : ℕ). replicate x 0) (l ∙ w) in
      let y : ys ≡ back = r ∙ zeros in
      let q : sets mid (o + (b - a)) ys ≡ sets (sets out o front) (o + length front) back = λ i. sets ((g ∙ ap (sets out o) copied) i) (z i) (y i) in
      put_whole mid ys (o + (b - a)) k (ap length h ∙ length-replicate (length (take k (drop (o + (b - a)) mid))) 0 ∙ l) (omega arith)
      ∙ q ∙ sym (sets-append out o front back) ∙ ap (sets out o) joined
