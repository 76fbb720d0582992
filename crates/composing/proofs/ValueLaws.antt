-- The values of the lines as the code holds them, at the front of nineteen bytes. Assumes nothing.
use mathlib.Core.Path.{◌≡◌, sym, ap, subst, ◌∙◌}
use mathlib.Core.Bool.{Bool, true, false, cond}
use mathlib.Core.List.{List, [], ◌++◌, append_assoc}
use Prim.Native.Nat.{ℕ, suc, ◌+◌, ◌-◌, ◌≤◌}
use native.Mathlib.Omega.{arith}
use borrow.Author.Tests.{eq-eqb, ne_eqb}
use lib.ListN.{length, take, drop, replicate, length-append, length-replicate}
use lib.Seq.{sets, take_at, take_all}
use Rattle.ground.proofs.Writing.{sets-front}
use Rattle.decimal.specs.Decimal.{digits}
use Rattle.decimal.proofs.DigitLaws.{digits_long}
use Rattle.calendar.specs.declared.Time.{Time}
use Rattle.times.specs.Written.{time_text}
use Rattle.times.proofs.WrittenLaws.{time_long}
use Rattle.calendar.specs.Calendar.{not_given}
use Rattle.attributes.specs.declared.Description.{Description}
use Rattle.attributes.specs.Attributes.{optional_text, time_value}
use Rattle.attributes.specs.Describe.{nowhere}
use Rattle.composing.specs.declared.Value.{Value}
use Rattle.composing.specs.Inner.{own, lent, piece_of, Holds}

-- the digits lie in eight bytes, which are written over the first of nineteen
pub number-holds : (n k : ℕ) (eight zeros bytes : List ℕ) → k ≡ length (digits n) → eight ≡ digits n ++ replicate (8 - length (digits n)) 0
    → length zeros ≡ 19 → bytes ≡ sets zeros 0 eight → Holds (own (digits n)) (record { bytes = bytes; length = k; part = nowhere })
number-holds n k eight zeros bytes e f l g =
    let h : length (digits n) ≤ 8 = digits_long n in
    let r : List ℕ = replicate (8 - length (digits n)) 0 in
    let y : length r ≡ 8 - length (digits n) = length-replicate {A = ℕ} (8 - length (digits n)) 0 in
    let x : length (digits n ++ r) ≡ length (digits n) + length r = length-append (digits n) r in
    let z : length eight ≡ 8 = ap length f ∙ x ∙ omega arith in
    let s : bytes ≡ digits n ++ (r ++ drop (length eight) zeros)
    = g ∙ sets-front zeros eight (omega arith) ∙ ap (λ (x : List ℕ). x ++ drop (length eight) zeros) f
    ∙ append_assoc (digits n) r (drop (length eight) zeros) in
    let t : take k bytes ≡ digits n = ap (take k) s ∙ take_at (digits n) (r ++ drop (length eight) zeros) k (sym e) in
    record { most = omega arith; long = e; same = λ i. record { short = t i; part = nowhere } }

pub optional_none : (none n : ℕ) (v : Value) → n ≡ none → Holds (lent nowhere) v → Holds (own (optional_text none n)) v
optional_none none n v e h = subst (λ (x : List ℕ). Holds (own x) v) (ap (λ (c : Bool). cond c [] (digits n)) (sym (eq-eqb n none e))) h

pub optional_some : (none n : ℕ) (v : Value) → (n ≡ none → ⊥) → Holds (own (digits n)) v → Holds (own (optional_text none n)) v
optional_some none n v e h = subst (λ (x : List ℕ). Holds (own x) v) (ap (λ (c : Bool). cond c [] (digits n)) (sym (ne_eqb n none e))) h

pub time_none : (t : Time) (v : Value) → not_given t ≡ true → Holds (lent nowhere) v → Holds (own (time_value t)) v
time_none t v e h = subst (λ (x : List ℕ). Holds (own x) v) (ap (λ (c : Bool). cond c [] (time_text t)) (sym e)) h

pub time_some : (t : Time) (bytes : List ℕ) → not_given t ≡ false → bytes ≡ time_text t
    → Holds (own (time_value t)) (record { bytes = bytes; length = 19; part = nowhere })
time_some t bytes e f =
    let z : length (time_text t) ≡ 19 = time_long t in
    let g : time_value t ≡ time_text t = ap (λ (c : Bool). cond c [] (time_text t)) e in
    let s : take 19 bytes ≡ time_text t = ap (take 19) f ∙ take_all 19 (time_text t) (omega arith) in
    subst (λ (x : List ℕ). Holds (own x) (record { bytes = bytes; length = 19; part = nowhere })) (sym g)
    (record { most = omega arith; long = sym z; same = λ i. record { short = s i; part = nowhere } })

-- above a line that it is not
pub up : (k j : ℕ) → j ≤ k → (k ≡ j → ⊥) → suc j ≤ k
up k j h n = omega arith

-- line k is line j
pub at-line : (d : Description) (k j : ℕ) (v : Value) → k ≡ j → Holds (piece_of d j) v → Holds (piece_of d k) v
at-line d k j v e h = subst (λ (x : ℕ). Holds (piece_of d x) v) (sym e) h
