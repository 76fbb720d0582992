-- Status through the face: a place of a good record has at most 1048575 slots, so that both numbers fit an answer; and the answer is status's own.
-- Assumes nothing.
use mathlib.Core.Path.{◌≡◌, refl, sym, ap, subst, ◌∙◌}
use mathlib.Core.Bool.{Bool, true, false, cond}
use mathlib.Core.List.{List}
use Prim.Native.Nat.{ℕ, ◌<◌, ◌≤◌}
use native.Mathlib.Omega.{arith}
use borrow.Author.Tests.{eq-eqb, ne_eqb}
use lib.Dec.{eqb}
use lib.ListN.{length, get_or}
use Rattle.refusals.specs.declared.Refusal.{Refusal}
use Rattle.refusals.specs.declared.Refusal.TheVariants.{Slot}
use Rattle.places.specs.declared.Record.{Record}
use Rattle.places.specs.declared.Name.{Name}
use Rattle.places.specs.Places.{unused, good, place_named}
use Rattle.places.proofs.Facts.{named_facts}
use Rattle.contents.specs.Contents.{Slot as Content, contents, any_wrong, filled, lowest_empty}
use Rattle.contents.proofs.Places.{length-contents}
use Rattle.contents.proofs.Filled.{filled-most, lowest-found}
use Rattle.standing.specs.declared.Standing.{Standing}
use Rattle.standing.specs.Told.{standing_told}
use Rattle.standing.specs.Status.{standing_in, status_found, status_of}
use Rattle.holding.specs.Layout.{record_length, record_in}
use Rattle.face.specs.Face.{answer_of, bad_record, status_says}
use Rattle.std.specs.Prelude.{Option, Some, None, Result, Ok, Err}

standing_short : (c : List Content) → length c ≤ 1048575 → answer_of (standing_told (standing_in c)) < 18446744073709551616
unfolding standing_in
standing_short c h = by (any_wrong c) (lowest_empty c 0) refl
  where
    by : (b : Bool) (f : Option ℕ) → lowest_empty c 0 ≡ f → answer_of (standing_told (cond b (Err Slot) (Ok (record { filled = filled c; lowest = f })))) < 18446744073709551616
    by true f e = omega arith
    by false (Some k) e = omega (arith, filled-most c, (lowest-found c k e).below)
    by false None e = omega (arith, filled-most c)

status_short : (h : Record) (s : List ℕ) (x : Name) → answer_of (standing_told (status_of h s x)) < 18446744073709551616
unfolding status_of
status_short h s x = by (good (length s) h.places) refl (place_named h.places x) refl
  where
    by : (b : Bool) → good (length s) h.places ≡ b → (f : Option ℕ) → place_named h.places x ≡ f
        → answer_of (standing_told (cond b (status_found h s f) (Err Refusal.Record))) < 18446744073709551616
    by false g f e = omega arith
    by true g None e = omega arith
    by true g (Some i) e =
        let p = get_or h.places i unused in
        let most : p.count ≤ 1048575 = (named_facts (length s) h.places g x i e).count_most in
        standing_short (contents p s) (omega (arith, length-contents p s))

module _ (h s : List ℕ) (x : Name) (r : ℕ) where
  pub status_bad : (length h ≡ record_length → ⊥) → r ≡ bad_record → r ≡ status_says h s x
  unfolding status_says
  status_bad d e = let t : eqb (length h) record_length ≡ false = ne_eqb (length h) record_length d in rw t e

  pub status_says_lem : (held : Record) (o : Result Standing Refusal) → length h ≡ record_length → held ≡ record_in h → o ≡ status_of held s x → r ≡ answer_of (standing_told o) → r ≡ status_says h s x
  unfolding status_says
  status_says_lem held o n e a d =
      let t : eqb (length h) record_length ≡ true = eq-eqb (length h) record_length n in
      rw t (d ∙ ap (λ (y : Result Standing Refusal). answer_of (standing_told y)) (a ∙ ap (λ (y : Record). status_of y s x) e))

pub standing_fits : (held : Record) (s : List ℕ) (x : Name) (o : Result Standing Refusal) → o ≡ status_of held s x → answer_of (standing_told o) < 18446744073709551616
standing_fits held s x o e = subst (λ (y : Result Standing Refusal). answer_of (standing_told y) < 18446744073709551616) (sym e) (status_short held s x)
