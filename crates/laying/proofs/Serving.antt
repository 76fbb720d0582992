-- What `put_columns` serves: what is known where all tests of `serves` passed, what a call that is served comes to, and the call's three ends. Assumes nothing.
use mathlib.Core.Path.{◌≡◌, refl, sym, ap, ◌∙◌}
use mathlib.Core.Bool.{Bool, true, false, not}
use mathlib.Core.List.{List}
use Prim.Native.Nat.{ℕ, ◌+◌, ◌*◌, ◌<◌, ◌≤◌}
use native.Mathlib.Omega.{arith}
use borrow.Author.Tests.{lt-ltb, le-ltb, le-leb, not-true, not-false}
use lib.ListN.{length}
use lib.Seq.{sets}
use Rattle.std.proofs.lemmas.Bool.Decides.{nat_tests}
use Rattle.ground.specs.Lists.{listed}
use Rattle.ground.proofs.Writing.{sets-front}
use Rattle.refusals.specs.declared.Refusal.TheVariants.{Field, Output}
use Rattle.layout.specs.Layout.{tables_of}
use Rattle.filling.specs.Put.{put_as}
use Rattle.laying.specs.Lay.{part_of, lay_serves, lay_verdict, lay_into}
use Rattle.laying.specs.InnerLay.{sent_byte, Part}
use Rattle.laying.proofs.Positions.{part-listed, length_part}
use Rattle.refusals.specs.declared.Refusal.{Refusal}
use Rattle.std.specs.Prelude.{Result}
use Rattle.std.specs.Prelude.{Ok, Err}

-- all tests passed, and there is room
part_served : (len m from n room : ℕ) → lay_serves len m from n ≡ true → n ≤ room → Part len m from n room 0
unfolding lay_serves
part_served len m from n room e l = record {
  rows = grind (arith, nat_tests);
  rows-most = grind (arith, nat_tests);
  len-most = grind (arith, nat_tests);
  few = grind (arith, nat_tests);
  there = grind (arith, nat_tests);
  enough = omega arith;
}

serves_part : (len m from n room : ℕ) → Part len m from n room 0 → lay_serves len m from n ≡ true
unfolding lay_serves
serves_part len m from n room fits =
    rw (lt-ltb 0 m fits.rows, le-leb m 255 fits.rows-most, le-leb len 16777216 fits.len-most, le-leb n 4077 fits.few)
    (le-leb (from + n) (255 * m * tables_of m len) fits.there)

-- ---- the call is served: the answer, and what is written

pub lay_accepted : (len m from n room : ℕ) → Part len m from n room 0 → lay_verdict len m from n room ≡ (Ok tt)
unfolding lay_verdict
lay_accepted len m from n room fits =
    let r : 0 + n ≤ room = fits.enough in
    rw (serves_part len m from n room fits, le-ltb room n (omega arith)) refl

pub lay_done : (file : List ℕ) (m from n : ℕ) (out : List ℕ) → Part (length file) m from n (length out) 0 → sets out 0 (part_of m file from n) ≡ lay_into file m from n out
unfolding lay_into
lay_done file m from n out fits =
    let r : 0 + n ≤ length out = fits.enough in
    sets-front out (part_of m file from n) (omega (arith, length_part m file from n fits.there))
    ∙ ap (λ (v : Result (Unit {0}) Refusal). put_as v (part_of m file from n) out) (sym (lay_accepted (length file) m from n (length out) fits))

-- ---- the call's three ends, where the tests said r

module _ (file : List ℕ) (m from n : ℕ) (out : List ℕ) (r : Bool) (e : r ≡ lay_serves (length file) m from n) where
  abbrev said : Result (Unit {0}) Refusal
  said = lay_verdict (length file) m from n (length out)

  kept : (v : Result (Unit {0}) Refusal) → said ≡ v → put_as v (part_of m file from n) out ≡ out → (v ≡ said) × (out ≡ lay_into file m from n out)
  unfolding lay_into
  kept v s k = (sym s, sym (ap (λ (x : Result (Unit {0}) Refusal). put_as x (part_of m file from n) out) s ∙ k))

  pub lay_refused : not r ≡ true → (Err Field ≡ said) × (out ≡ lay_into file m from n out)
  unfolding lay_verdict
  lay_refused h = kept (Err Field) (rw (sym e ∙ not-true r h) refl) refl

  module _ (h : not r ≡ false) where
    served : lay_serves (length file) m from n ≡ true
    served = sym e ∙ not-false r h

    pub lay_short : length out < n → (Err Output ≡ said) × (out ≡ lay_into file m from n out)
    unfolding lay_verdict
    lay_short l = kept (Err Output) (rw (served, lt-ltb (length out) n l) refl) refl

    module _ (l : n ≤ length out) where
      pub lay_part : Part (length file) m from n (length out) 0
      lay_part = part_served (length file) m from n (length out) served l

      pub lay_written : (next : List ℕ) → next ≡ sets out 0 (listed (sent_byte m file) n from) → ((Ok tt) ≡ said) × (next ≡ lay_into file m from n out)
      lay_written next g = (
        sym (lay_accepted (length file) m from n (length out) lay_part),
        g ∙ ap (sets out 0) (sym (part-listed m file from n lay_part.there)) ∙ lay_done file m from n out lay_part,
      )
