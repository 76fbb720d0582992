-- What the writer writes, the reader takes, and gives the same attributes (`reads_back`): it is the lines of attributes in their ranges.
-- Assumes nothing.
use mathlib.Core.Path.{◌≡◌, refl, ap, ap₂, ◌∙◌}
use mathlib.Core.Bool.{Bool, true, false, cond}
use mathlib.Core.List.{List}
use Prim.Native.Nat.{ℕ, ◌<◌, ◌≤◌}
use native.Mathlib.Omega.{arith}
use borrow.Author.Tests.{leb-false, ltb-false}
use lib.Dec.{leb, ltb}
use lib.ListN.{length, take, drop}
use lib.Seq.{sets, take_at}
use Rattle.ground.proofs.Writing.{sets-front}
use Rattle.refusals.specs.declared.Refusal.TheVariants.{Line, Output}
use Rattle.attributes.specs.declared.Description.{Description}
use Rattle.attributes.specs.Attributes.{Attributes, attributes_of, values}
use Rattle.attributes.specs.Rules.{rules_of, placed, rules, lowest}
use Rattle.attributes.specs.Describe.{describe_of}
use Rattle.attributes.specs.Compose.{text_of, Writing, compose_of}
use Rattle.attributes.specs.Statements.{InRange, plain, ReadsBack}
use Rattle.attributes.proofs.PlainLaws.{lines_own}
use Rattle.attributes.proofs.RuleLaws.{lowest-before, both-all, sound-range, values-unbroken}
use Rattle.attributes.proofs.TakesSound.{takes_sound}
use Rattle.std.specs.Prelude.{Ok, Err}

-- ---- an accepted writing

pub record Accepted (t : List ℕ) (d : Description) (out : List ℕ) (n : ℕ) : Type 0 where
  pub sound : 15 < lowest (rules t d)
  pub count : n ≡ length (text_of (attributes_of t d))
  pub room : n ≤ length out
  pub written : (compose_of t d out).out ≡ sets out 0 (text_of (attributes_of t d))

pub accepted : (t : List ℕ) (d : Description) (out : List ℕ) (n : ℕ) → (compose_of t d out).answer ≡ Ok n → Accepted t d out n
unfolding compose_of
accepted t d out n e = by (leb (lowest (rules t d)) 15) (ltb (length out) (length x)) refl refl refl
  where
    x : List ℕ
    x = text_of (attributes_of t d)

    outcome : Bool → Bool → Writing
    outcome b c =
        cond b (record { answer = Err (Line (lowest (rules t d))); out = out })
        (cond c (record { answer = Err Output; out = out }) (record { answer = Ok (length x); out = sets out 0 x }))

    by : (b c : Bool) → leb (lowest (rules t d)) 15 ≡ b → ltb (length out) (length x) ≡ c → compose_of t d out ≡ outcome b c → Accepted t d out n
    by true c f g h = let z : ◌≡◌ {A = ℕ} 0 1 = cc in absurd (omega arith)
    by false true f g h = let z : ◌≡◌ {A = ℕ} 0 1 = cc in absurd (omega arith)
    by false false f g h =
        let m : n ≡ length x = cc in
        let l = ltb-false (length out) (length x) g in
        record { sound = leb-false (lowest (rules t d)) 15 f; count = m; room = omega arith; written = ap (λ (w : Writing). w.out) h }

-- what is written has no CR
pub text_own : (a : Attributes) → InRange a → plain (text_of a) ≡ text_of a
unfolding text_of
text_own a r = lines_own 1 (values a) (values-unbroken a r)

pub reads_back : ReadsBack describe_of compose_of
unfolding rules
reads_back t d out n e = takes_sound (take n (compose_of t d out).out) a r (ap plain here ∙ text_own a r)
  where
    a : Attributes
    a = attributes_of t d

    ok : Accepted t d out n
    ok = accepted t d out n e

    here : take n (compose_of t d out).out ≡ text_of a
    here =
        let c : n ≡ length (text_of a) = ok.count in
        let m : length (text_of a) ≤ length out = omega (arith, ok.room) in
        ap₂ take c (ok.written ∙ sets-front out (text_of a) m) ∙ take_at (text_of a) (drop (length (text_of a)) out) (length (text_of a)) refl

    r : InRange a
    r = sound-range a (λ i h. (both-all (placed t d) (rules_of a) i (lowest-before (rules t d) i (omega (arith, ok.sound)))).1)
