-- What `put_rows` serves: what is known where all tests of `serves` passed, and the call's three ends.
-- Assumes nothing.
use mathlib.Core.Path.{◌≡◌, refl, sym, ap, ap₂, ◌∙◌}
use mathlib.Core.Bool.{Bool, true, false, not}
use mathlib.Core.List.{List, ◌++◌}
use Prim.Native.Nat.{ℕ, ◌-◌, ◌*◌, ◌<◌, ◌≤◌}
use native.Mathlib.Omega.{arith}
use borrow.Author.Tests.{lt-ltb, le-ltb, not-true, not-false}
use borrow.Rule.Slice.PartMut.{put_mid}
use lib.ListN.{length, take, drop}
use lib.Seq.{sets, length-take-le}
use Rattle.std.proofs.lemmas.Bool.Decides.{nat_tests}
use Rattle.ground.proofs.Writing.{sets-front}
use Rattle.refusals.specs.declared.Refusal.TheVariants.{Field, Output}
use Rattle.filling.specs.Put.{rows_from, put_serves, put_verdict, put_as, put_rows}
use Rattle.filling.proofs.Gathering.{length-rows}
use Rattle.refusals.specs.declared.Refusal.{Refusal}
use Rattle.std.specs.Prelude.{Result}
use Rattle.std.specs.Prelude.{Ok, Err}

-- where all tests pass it serves
pub serves_where : (len m at n : ℕ) → 0 < m → m ≤ 255 → n ≤ 15 → at ≤ 16777216 → len ≤ 16777216 → put_serves len m at n ≡ true
unfolding put_serves
serves_where len m at n a b c d e = grind (arith, nat_tests)

-- and only there
pub record Served (m at n : ℕ) : Type 0 where
  pub rows : m ≤ 255
  pub count : n ≤ 15
  pub start : at ≤ 16777216

served : (len m at n : ℕ) → put_serves len m at n ≡ true → Served m at n
unfolding put_serves
served len m at n e = record { rows = grind (arith, nat_tests); count = grind (arith, nat_tests); start = grind (arith, nat_tests) }

-- ---- what the call answers and leaves

-- the call was served: the answer, and what is written
pub put_accepted : (len m at n room : ℕ) → put_serves len m at n ≡ true → n * 255 ≤ room → put_verdict len m at n room ≡ (Ok tt)
unfolding put_verdict
put_accepted len m at n room e h = rw (e, le-ltb room (n * 255) h) refl

pub put-done : (file : List ℕ) (m at n : ℕ) (out : List ℕ) → put_verdict (length file) m at n (length out) ≡ (Ok tt) → n * 255 ≤ length out
    → sets out 0 (rows_from file m at n) ≡ put_rows file m at n out
unfolding put_rows
put-done file m at n out e h =
    sets-front out (rows_from file m at n) (omega (arith, length-rows file m at n))
    ∙ ap (λ (v : Result (Unit {0}) Refusal). put_as v (rows_from file m at n) out) (sym e)

-- the front of the output, as it is lent
pub lent-front : (out : List ℕ) (k : ℕ) → k ≤ length out → length (take (k - 0) out) ≡ k
lent-front out k h = length-take-le (k - 0) out (omega arith) ∙ omega arith

-- ---- the call's three ends, where the tests said r

pub put_served : (len m at n : ℕ) (r : Bool) → r ≡ put_serves len m at n → not r ≡ false → Served m at n
put_served len m at n r e h = served len m at n (sym e ∙ not-false r h)

module _ (file : List ℕ) (m at n : ℕ) (out : List ℕ) (r : Bool) (e : r ≡ put_serves (length file) m at n) where
  abbrev said : Result (Unit {0}) Refusal
  said = put_verdict (length file) m at n (length out)

  kept : (v : Result (Unit {0}) Refusal) → said ≡ v → put_as v (rows_from file m at n) out ≡ out → (v ≡ said) × (out ≡ put_rows file m at n out)
  unfolding put_rows
  kept v s k = (sym s, sym (ap (λ (x : Result (Unit {0}) Refusal). put_as x (rows_from file m at n) out) s ∙ k))

  pub put_refused : not r ≡ true → (Err Field ≡ said) × (out ≡ put_rows file m at n out)
  unfolding put_verdict
  put_refused h = kept (Err Field) (rw (sym e ∙ not-true r h) refl) refl

  module _ (h : not r ≡ false) where
    serves : put_serves (length file) m at n ≡ true
    serves = sym e ∙ not-false r h

    pub put-short : length out < n * 255 → (Err Output ≡ said) × (out ≡ put_rows file m at n out)
    unfolding put_verdict
    put-short l = kept (Err Output) (rw (serves, lt-ltb (length out) (n * 255) l) refl) refl

    -- in the part of the output that is lent
    pub put_written : (next : List ℕ) → n * 255 ≤ length out → next ≡ rows_from file m at n → ((Ok tt) ≡ said) × (put_mid 0 (n * 255 - 0) out next ≡ put_rows file m at n out)
    unfolding put_rows
    put_written next l g =
        let a : said ≡ (Ok tt) = put_accepted (length file) m at n (length out) serves l in
        let e : n * 255 - 0 ≡ length (rows_from file m at n) = omega (arith, length-rows file m at n) in (
          sym a,
          ap₂ (λ (b : List ℕ) (k : ℕ). b ++ drop k out) g e ∙ ap (λ (v : Result (Unit {0}) Refusal). put_as v (rows_from file m at n) out) (sym a),
        )
