-- Bytes held to the form yyyy.mm.dd/hh:mm:ss: the loop over all, and what is read from them.
-- Assumes nothing.
use mathlib.Core.Path.{◌≡◌, refl, sym, ap, ap₂, ◌∙◌}
use mathlib.Core.Bool.{Bool, true, false, cond, ◌&&◌}
use mathlib.Core.List.{List, ◌∷◌}
use Prim.Native.Nat.{ℕ, ◌+◌, ◌<◌, ◌≤◌}
use native.Mathlib.Numerals.{add-one}
use native.Mathlib.Omega.{arith}
use lib.Dec.{eqb}
use lib.ListN.{length, get_or, drop, drop_of_length-le}
use lib.Seq.{drop-cons}
use Rattle.ground.specs.Ranges.{is_digit}
use Rattle.calendar.specs.Calendar.{real}
use Rattle.times.specs.Written.{form, formed, time_at, wrong_time, time_in}
use Rattle.times.proofs.WrittenLaws.{formed-long}

-- ---- all of them, a byte at a time: behind the first i what is left says what all says

pub record Forming (fs v : List ℕ) (i : ℕ) : Type 0 where
  pub whole : length v ≡ length fs
  pub rest : formed (drop i fs) (drop i v) ≡ formed fs v

pub forming_begin : (fs v : List ℕ) → length v ≡ length fs → Forming fs v 0
forming_begin fs v w = record { whole = w; rest = refl }

pub other_length : (fs v : List ℕ) → (length v ≡ length fs → ⊥) → false ≡ formed fs v
other_length fs v d = by (formed fs v) refl
  where
    by : (t : Bool) → formed fs v ≡ t → false ≡ t
    by true e = absurd (d (formed-long fs v e))
    by false e = refl

module _ (fs v : List ℕ) (i : ℕ) (c : Forming fs v i) where
  pub forming_end : length fs ≤ i → true ≡ formed fs v
  forming_end h =
      let w : length v ≡ length fs = c.whole in
      let o : length v ≤ i = omega arith in
      sym (ap₂ formed (drop_of_length-le fs h) (drop_of_length-le v o)) ∙ c.rest

  module _ (h : i < length fs) where
    one_on : (l : List ℕ) → i < length l → drop i l ≡ get_or l i 0 ∷ drop (i + 1) l
    one_on l k = drop-cons l i 0 k ∙ ap (λ (m : ℕ). get_or l i 0 ∷ drop m l) (sym (add-one i))

    by_test : (t : Bool) → t ≡ cond (eqb (get_or fs i 0) 0) (is_digit (get_or v i 0)) (eqb (get_or v i 0) (get_or fs i 0))
        → (t && formed (drop (i + 1) fs) (drop (i + 1) v)) ≡ formed fs v
    by_test t e =
        let w : length v ≡ length fs = c.whole in
        ap (λ (x : Bool). x && formed (drop (i + 1) fs) (drop (i + 1) v)) e ∙ sym (ap₂ formed (one_on fs h) (one_on v (omega arith))) ∙ c.rest

    pub forming_more : true ≡ cond (eqb (get_or fs i 0) 0) (is_digit (get_or v i 0)) (eqb (get_or v i 0) (get_or fs i 0)) → Forming fs v (i + 1)
    forming_more e = record { whole = c.whole; rest = by_test true e }

    pub forming_not : false ≡ cond (eqb (get_or fs i 0) 0) (is_digit (get_or v i 0)) (eqb (get_or v i 0) (get_or fs i 0)) → false ≡ formed fs v
    forming_not e = by_test false e

-- ---- what is read

module _ (v : List ℕ) where
  pub no-form : formed form v ≡ false → wrong_time ≡ time_in v
  unfolding time_in
  no-form e = simp e

  module _ (f : formed form v ≡ true) where
    pub no_time_lem : real (time_at v) ≡ false → wrong_time ≡ time_in v
    unfolding time_in
    no_time_lem e = simp (f, e)

    pub some_time : real (time_at v) ≡ true → time_at v ≡ time_in v
    unfolding time_in
    some_time e = simp (f, e)
