-- Thirty numbers as a description: numbers over zeros, as far as these reach, give the same one (`over_thirty`), and a description's own numbers give it back (`numbers_back`). And what the two
-- functions of the C face say, by cases. Assumes nothing.
use mathlib.Core.Path.{◌≡◌, refl, sym, ap, ◌∙◌}
use mathlib.Core.Logic.{◌⊎◌, inl, inr}
use mathlib.Core.Bool.{Bool, cond}
use mathlib.Core.List.{List, ◌++◌}
use Prim.Native.Nat.{ℕ, ◌+◌, ◌*◌, ◌%◌, ◌<◌, ◌≤◌, min}
use native.Mathlib.Omega.{arith}
use borrow.Author.Tests.{eq-eqb, ne_eqb}
use lib.Dec.{eqb}
use lib.ListN.{length, get_or, take, drop}
use lib.Seq.{sets, get_or-take, length-take-le, take_all}
use Rattle.ground.proofs.Listed.{le_or_lt}
use Rattle.ground.proofs.Writing.{sets-front}
use Rattle.code.proofs.Lists.{zeros, length_zeros}
use Rattle.refusals.specs.declared.Refusal.{Refusal}
use Rattle.refusals.specs.declared.Refusal.TheVariants.{Field}
use Rattle.refusals.specs.Told.{refused_as}
use Rattle.attributes.specs.declared.Description.{Description}
use Rattle.attributes.specs.Describe.{describe_of}
use Rattle.attributes.specs.Compose.{compose_of}
use Rattle.attributes.specs.Told.{description_list}
use Rattle.face.specs.Face.{Says, answer_of, puts, puts_if}
use Rattle.face.proofs.SayLaws.{says_as, refused-puts}
use Rattle.holding.proofs.LayoutLaws.{over_zeros}
use Rattle.listing.specs.Listing.{description_from, described_says, describe_says, composed_answer, compose_says}
use Rattle.std.specs.Prelude.{Result}
use Rattle.std.specs.Prelude.{Err}
use Rattle.std.specs.Prelude.{Ok}

-- ---- numbers

-- the first thirty numbers are all that counts
alike : (l m : List ℕ) → ((j : ℕ) → j < 30 → get_or l j 0 ≡ get_or m j 0) → description_from l ≡ description_from m
unfolding description_from
alike l m e = λ i. record {
  service = e 0 (omega arith) i;
  mode = e 1 (omega arith) i;
  resource = e 2 (omega arith) i;
  update = e 3 (omega arith) i;
  name = record { at = e 4 (omega arith) i; length = e 5 (omega arith) i };
  kind = e 6 (omega arith) i;
  title = record { at = e 7 (omega arith) i; length = e 8 (omega arith) i };
  summary = record { at = e 9 (omega arith) i; length = e 10 (omega arith) i };
  keywords = record { at = e 11 (omega arith) i; length = e 12 (omega arith) i };
  charset = e 13 (omega arith) i;
  path = record { at = e 14 (omega arith) i; length = e 15 (omega arith) i };
  size = e 16 (omega arith) i;
  begins = record {
    year = e 17 (omega arith) i;
    month = e 18 (omega arith) i;
    day = e 19 (omega arith) i;
    hour = e 20 (omega arith) i;
    minute = e 21 (omega arith) i;
    second = e 22 (omega arith) i;
  };
  ends = record {
    year = e 23 (omega arith) i;
    month = e 24 (omega arith) i;
    day = e 25 (omega arith) i;
    hour = e 26 (omega arith) i;
    minute = e 27 (omega arith) i;
    second = e 28 (omega arith) i;
  };
  delete = e 29 (omega arith) i;
}

-- of numbers that are copied over zeros as far as these reach, none is missed
reached : (b : List ℕ) (n j : ℕ) → n ≡ min (length b) 30 → j < 30 → get_or (take n b) j 0 ≡ get_or b j 0
reached b n j e h = by (le_or_lt (length b) 30)
  where
    by : (length b ≤ 30) ⊎ (30 < length b) → get_or (take n b) j 0 ≡ get_or b j 0
    by (inl l) = ap (λ (x : List ℕ). get_or x j 0) (take_all n b (omega arith))
    by (inr l) = get_or-take n b j 0 (omega arith)

pub over_thirty : (b : List ℕ) (n : ℕ) → n ≡ min (length b) 30 → description_from (take n b ++ drop n (zeros 30)) ≡ description_from b
over_thirty b n e =
    let long : length (take n b) ≡ n = length-take-le n b (omega arith) in
    let put : sets (zeros 30) 0 (take n b) ≡ take n b ++ drop n (zeros 30) =
    sets-front (zeros 30) (take n b) (omega (arith, length_zeros 30)) ∙ ap (λ (k : ℕ). take n b ++ drop k (zeros 30)) long in
    alike (take n b ++ drop n (zeros 30)) b
    (λ j h. ap (λ (x : List ℕ). get_or x j 0) (sym put) ∙ over_zeros 30 (take n b) (omega arith) j ∙ reached b n j e h)

-- a description by its own numbers
pub numbers_back : (d : Description) → description_from (description_list d) ≡ d
unfolding description_from
numbers_back d = refl

-- ---- what C is answered

module _ (t out : List ℕ) (r : ℕ) where
  pub describe_given : (x : List ℕ) (d : Description) → describe_of t ≡ Ok d → Says (puts (description_list d) out) r x → Says (describe_says t out) r x
  unfolding describe_says puts_if
  describe_given x d e s = says_as (ap (λ (y : Result Description Refusal). described_says y out) (sym e)) s

  pub describe_refused : (z : Refusal) → describe_of t ≡ Err z → r ≡ answer_of (refused_as z) → Says (describe_says t out) r out
  unfolding describe_says
  describe_refused z e s = says_as (ap (λ (y : Result Description Refusal). described_says y out) (sym e)) (refused-puts z _ out r s)

module _ (v t out : List ℕ) (r : ℕ) where
  by_count : (b : Bool) → eqb (length v) 30 ≡ b
      → cond b (record { answer = composed_answer (compose_of t (description_from v) out).answer; output = (compose_of t (description_from v) out).out })
      (record { answer = answer_of (refused_as Field); output = out }) ≡ compose_says v t out
  unfolding compose_says
  by_count b e = ap (λ (c : Bool). cond c (record { answer = composed_answer (compose_of t (description_from v) out).answer; output = (compose_of t (description_from v) out).out })
      (record { answer = answer_of (refused_as Field); output = out })) (sym e)

  pub compose_field : (length v ≡ 30 → ⊥) → r ≡ answer_of (refused_as Field) → Says (compose_says v t out) r out
  compose_field h e = says_as (by_count _ (ne_eqb (length v) 30 h)) (record { answers = e; leaves = refl })

  pub compose_says_lem : (d : Description) (a : Result ℕ Refusal) (x : List ℕ) → length v ≡ 30 → d ≡ description_from v → a ≡ (compose_of t d out).answer → x ≡ (compose_of t d out).out
      → r ≡ composed_answer a → Says (compose_says v t out) r x
  compose_says_lem d a x h e f g s =
      says_as (by_count _ (eq-eqb (length v) 30 h))
      (record {
        answers = s ∙ ap composed_answer (f ∙ ap (λ (y : Description). (compose_of t y out).answer) e);
        leaves = g ∙ ap (λ (y : Description). (compose_of t y out).out) e;
      })

-- below 2^56 bytes of output no bit of the answer is lost
pub compose_whole : (n : ℕ) → n < 72057594037927936 → (0 + 256 * n) % 18446744073709551616 ≡ 256 * n
compose_whole n h = omega arith
