-- The table of powers keeps its rule: each byte is a power of α, computed once over the table beside the powers in a row.
-- Assumes nothing.
use mathlib.Core.Path.{◌≡◌, subst, ◌∙◌}
use mathlib.Core.Bool.{Bool}
use mathlib.Core.Logic.{⊎_elim}
use mathlib.Core.List.{List}
use Prim.Native.Nat.{ℕ, ◌+◌, ◌-◌, ◌*◌, ◌/◌, ◌%◌, ◌^◌, ◌≤◌, ◌<◌}
use native.Mathlib.Nat.{mul-le-mul}
use native.Mathlib.Omega.{arith}
use lib.Dec.{T, eqb, eqb→eq, ltb, ltb→lt}
use lib.ListN.{length, get_or, get_or-eq_default}
use Rattle.std.proofs.lemmas.Bool.{cases_lt}
use Rattle.ground.proofs.Sweep.{all, below, every, at}
use Rattle.field.specs.Field.{power}
use Rattle.field.specs.declared.Sixteen.{Sixteen}
use Rattle.field.specs.Words.{entry}
use Rattle.field.proofs.Chain.{chain, get_or_chain}
use Rattle.terms.specs.InnerPoints.{Points}

-- the two words of byte m
abbrev pub pair : List ℕ → ℕ → Sixteen
pair t m = record { low = get_or t (2 * m) 0; high = get_or t (2 * m + 1) 0 }

-- entry q modulo 16 of the words of byte q over 16
abbrev pub is_power-at : List ℕ → ℕ → Bool
is_power-at t q = eqb (entry (pair t (q / 16)) (q % 16)) (get_or (chain 256 1) ((15 - q / 16) * (q % 16)) 0)

module _ (t : List ℕ) (long : length t ≡ 32) (words : T (every (λ i w. ltb w (2 ^ 64)) 0 t)) (powers : T (all (is_power-at t) 256)) where
  word : (i : ℕ) → get_or t i 0 < 2 ^ 64
  word i =
      ⊎_elim (λ (h : i < 32). ltb→lt (get_or t i 0) (2 ^ 64) (at (λ i w. ltb w (2 ^ 64)) t words i (omega arith)))
      (λ (h : 32 ≤ i). rw (get_or-eq_default t 0 {n = i} (omega arith)) (omega arith)) (cases_lt i 32)

  found : (m j : ℕ) → m < 16 → j < 16 → entry (pair t m) j ≡ power ((15 - m) * j)
  found m j hm hj =
      let q : ℕ = 16 * m + j in
      let a : q / 16 ≡ m = omega arith in
      let b : q % 16 ≡ j = omega arith in
      let u : 15 - m ≤ 15 = omega arith in
      let v : j ≤ 15 = omega arith in
      let small : (15 - m) * j < 256 = omega (arith, mul-le-mul u v) in
      subst (λ (x : ℕ). entry (pair t x) j ≡ get_or (chain 256 1) ((15 - x) * j) 0) a
      (subst (λ (y : ℕ). entry (pair t (q / 16)) y ≡ get_or (chain 256 1) ((15 - q / 16) * y) 0) b (eqb→eq _ _ (below (is_power-at t) 256 powers q (omega arith))))
      ∙ get_or_chain 256 ((15 - m) * j) small

  pub points_rule : Points t
  points_rule = record { room = long; word = word; entry = found }
