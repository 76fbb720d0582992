-- A text that is, with LF for CR LF, what is written of attributes in their ranges, the reader takes, and gives these attributes (`takes_sound`). Its lines are found with
-- their values; each value reads as what it was written of; so all rules are kept. Assumes nothing.
use mathlib.Core.Path.{◌≡◌, refl, sym, ap, ap₂, ◌∙◌}
use mathlib.Core.Logic.{◌⊎◌, inl, inr}
use mathlib.Core.Bool.{Bool, true, false, true≢false, cond}
use mathlib.Core.List.{List, []}
use Prim.Native.Nat.{ℕ, suc, ◌<◌, ◌≤◌}
use native.Mathlib.Omega.{arith}
use borrow.Author.Tests.{eqb-true, ne_eqb}
use lib.Dec.{eqb}
use lib.ListN.{length, get_or}
use Rattle.ground.proofs.Listed.{le_or_lt}
use Rattle.content.specs.declared.Content.TheVariants.{File, Stream}
use Rattle.content.specs.Content.{content_of}
use Rattle.content.proofs.Blocks.{from_132}
use Rattle.decimal.specs.Decimal.{digits, number_in, no_number}
use Rattle.decimal.proofs.DigitLaws.{digits-some}
use Rattle.decimal.proofs.NumberLaws.{number_digits}
use Rattle.calendar.specs.declared.Time.{Time}
use Rattle.calendar.specs.Calendar.{no_time, not_given}
use Rattle.calendar.specs.Range.{RealTime}
use Rattle.times.specs.Written.{time_text, time_in}
use Rattle.calendar.proofs.RangeLaws.{range-real}
use Rattle.times.proofs.WrittenLaws.{time_long, time_written}
use Rattle.attributes.specs.declared.Part.{Part}
use Rattle.attributes.specs.declared.Description.{Description}
use Rattle.attributes.specs.Attributes.{Attributes, attributes_of, part_of, no_charset, no_size, optional_text, time_value, values}
use Rattle.attributes.specs.Rules.{inside, lowest}
use Rattle.attributes.specs.Lines.{lines_of}
use Rattle.attributes.specs.Describe.{nowhere, optional_in, given_time, description_in, lower, fault_of, describe_of}
use Rattle.attributes.specs.Compose.{text_of}
use Rattle.attributes.specs.Statements.{InRange, PartsInside, plain, TakesSound}
use Rattle.attributes.proofs.LineLaws.{values_length, values-at, Parted, lines_found}
use Rattle.attributes.proofs.RuleLaws.{not_given_lem, rules-sound, values-unbroken}
use Rattle.attributes.proofs.ReadLaws.{takes}

-- ---- values that may be left out

pub optional_back : (none n : ℕ) → n < 100000000 → optional_in none (optional_text none n) ≡ n
unfolding optional_in
optional_back none n h = by (eqb n none) refl
  where
    by : (c : Bool) → eqb n none ≡ c → optional_in none (cond c [] (digits n)) ≡ n
    by true e = sym (eqb-true n none e)
    by false e =
        let z : eqb (length (digits n)) 0 ≡ false = ne_eqb (length (digits n)) 0 (λ x. let s = digits-some n in omega arith) in
        let m : number_in (digits n) ≡ n = number_digits n h in
        ap (λ (c : Bool). cond c none (cond (eqb (number_in (digits n)) none) no_number (number_in (digits n)))) z
        ∙ ap (λ (x : ℕ). cond (eqb x none) no_number x) m ∙ ap (λ (c : Bool). cond c no_number n) e

pub time_back : (t : Time) → (t ≡ no_time) ⊎ RealTime t → given_time (time_value t) ≡ t
unfolding given_time
time_back t f = by (not_given t) refl f
  where
    by : (c : Bool) → not_given t ≡ c → (t ≡ no_time) ⊎ RealTime t → given_time (cond c [] (time_text t)) ≡ t
    by true e f = sym (not_given_lem t e)
    by false e (inl z) = absurd (true≢false (sym (ap not_given z) ∙ e))
    by false e (inr r) =
        let z : eqb (length (time_text t)) 0 ≡ false = ne_eqb (length (time_text t)) 0 (λ x. let s = time_long t in omega arith) in
        ap (λ (c : Bool). cond c no_time (time_in (time_text t))) z ∙ time_written t (range-real t r)

-- ---- numbers below 100,000,000 are read as they are written

module _ (a : Attributes) (r : InRange a) where
  pub charset_small : a.charset < 100000000
  charset_small = by r.charset
    where
      by : ((a.kind ≡ 21) × (a.charset ≤ 4)) ⊎ ((a.kind ≡ 21 → ⊥) × (a.charset ≡ no_charset)) → a.charset < 100000000
      by (inl x) = omega (arith, x.1)
      by (inr x) = omega (arith, x.1)

  pub size_small : a.size < 100000000
  size_small = by r.size
    where
      by : ((a.mode ≡ 1) × (1 ≤ a.size) × (a.size ≤ 16777216)) ⊎ ((a.mode ≡ 0) × (a.size ≡ no_size)) → a.size < 100000000
      by (inl x) = omega (arith, x.2)
      by (inr x) = omega (arith, x.1)

  pub kind_small : a.kind < 100000000
  kind_small = by (le_or_lt a.kind 131) r.kind
    where
      by : (a.kind ≤ 131) ⊎ (131 < a.kind)
          → ((content_of a.kind ≡ File) × (a.mode ≡ 1)) ⊎ ((content_of a.kind ≡ Stream) × (a.mode ≡ 0)) → a.kind < 100000000
      by (inl h) k = omega arith
      by (inr h) (inl k) = let e = from_132 a.kind h in let z : ◌≡◌ {A = ℕ} 0 1 = cc k.0 in absurd (omega arith)
      by (inr h) (inr k) = let e = from_132 a.kind h in let z : ◌≡◌ {A = ℕ} 0 1 = cc k.0 in absurd (omega arith)

-- ---- a text with the lines of attributes in their ranges

module _ (t : List ℕ) (a : Attributes) (r : InRange a) (here : plain t ≡ text_of a) where
  abbrev ps : List Part
  ps = (lines_of t).parts

  abbrev d : Description
  d = description_in t ps

  parted : Parted t (values a) (lines_of t)
  unfolding lines_of text_of values
  parted = lines_found t 1 (values a) 0 here (values-unbroken a r)

  fifteen : length ps ≡ 15
  unfolding values
  fifteen = sym (values_length t ps) ∙ ap length parted.values

  hold : (i : ℕ) → i < 15 → part_of t (get_or ps i nowhere) ≡ get_or (values a) i []
  hold i h =
      let n = fifteen in
      sym (values-at t ps i (omega arith)) ∙ ap (λ (l : List (List ℕ)). get_or l i []) parted.values

  -- the same attributes
  read_same : attributes_of t d ≡ a
  unfolding description_in values
  read_same = λ i. record {
    service = (ap number_in (hold 0 (omega arith)) ∙ number_digits a.service (omega (arith, r.service.1))) i;
    mode = (ap number_in (hold 1 (omega arith)) ∙ number_digits a.mode (omega (arith, r.mode))) i;
    resource = (ap number_in (hold 2 (omega arith)) ∙ number_digits a.resource (omega (arith, r.resource.1))) i;
    update = (ap number_in (hold 3 (omega arith)) ∙ number_digits a.update (omega (arith, r.update))) i;
    name = hold 4 (omega arith) i;
    kind = (ap number_in (hold 5 (omega arith)) ∙ number_digits a.kind (kind_small a r)) i;
    title = hold 6 (omega arith) i;
    summary = hold 7 (omega arith) i;
    keywords = hold 8 (omega arith) i;
    charset = (ap (optional_in no_charset) (hold 9 (omega arith)) ∙ optional_back no_charset a.charset (charset_small a r)) i;
    path = hold 10 (omega arith) i;
    size = (ap (optional_in no_size) (hold 11 (omega arith)) ∙ optional_back no_size a.size (size_small a r)) i;
    begins = (ap given_time (hold 12 (omega arith)) ∙ time_back a.begins r.begins) i;
    ends = (ap given_time (hold 13 (omega arith)) ∙ time_back a.ends r.ends) i;
    delete = (ap number_in (hold 14 (omega arith)) ∙ number_digits a.delete (omega (arith, r.delete))) i;
  }

  part-inside : (i : ℕ) → i < 15 → inside t (get_or ps i nowhere) ≡ true
  part-inside i h = let n = fifteen in parted.within i (omega arith)

  parts-inside : PartsInside t d
  unfolding description_in
  parts-inside = record {
    name = part-inside 4 (omega arith);
    title = part-inside 6 (omega arith);
    summary = part-inside 7 (omega arith);
    keywords = part-inside 8 (omega arith);
    path = part-inside 10 (omega arith);
  }

  -- every line is there, and keeps its rule
  no_fault : 15 < fault_of t
  unfolding fault_of
  no_fault = omega (arith, ap₂ lower (ap lowest (rules-sound t d parts-inside (rw read_same r))) (ap suc fifteen))

pub takes_sound : TakesSound describe_of
takes_sound t a r here =
    record { found = d t a r here; taken = takes t (no_fault t a r here) (parted t a r here).end; same = read_same t a r here }
