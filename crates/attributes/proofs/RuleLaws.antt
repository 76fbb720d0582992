-- What it means that all fifteen rules are kept: each attribute is in document 02's range (`sound-range`), and back (`range-sound`, `rules-sound`); and none of the values
-- that are written has CR or LF (`values-unbroken`). Assumes nothing.
use mathlib.Core.Path.{◌≡◌, refl, sym, ap, ap₂, ◌∙◌}
use mathlib.Core.Logic.{◌⊎◌, inl, inr}
use mathlib.Core.Bool.{Bool, true, false, true≢false, cond, ◌||◌}
use mathlib.Core.List.{List, [], ◌∷◌}
use Prim.Native.Nat.{ℕ, zero, suc, ◌<◌, ◌≤◌}
use native.Mathlib.Omega.{arith}
use borrow.Author.Tests.{eqb-true, eqb-false, leb-true, eq-eqb, ne_eqb, le-leb}
use lib.Dec.{eqb, leb}
use lib.ListN.{length, get_or}
use Rattle.std.proofs.lemmas.Bool.{and_parts, or_cases}
use Rattle.ground.specs.Ranges.{between}
use Rattle.ground.proofs.Truth.{and_join, or_left, or_right}
use Rattle.ground.proofs.RangeLaws.{between_bounds, bounds_between}
use Rattle.slices.proofs.SameLaws.{same_equal}
use Rattle.texts.specs.Utf8.{well_formed}
use Rattle.texts.specs.Breaks.{unbroken}
use Rattle.texts.proofs.BreakLaws.{unbroken_by}
use Rattle.decimal.specs.Decimal.{digits}
use Rattle.decimal.proofs.DigitLaws.{digits-bytes}
use Rattle.content.specs.declared.Content.{Content}
use Rattle.content.specs.declared.Content.TheVariants.{File, Stream, Reserved}
use Rattle.content.specs.Content.{content_of}
use Rattle.calendar.specs.declared.Time.{Time}
use Rattle.calendar.specs.Calendar.{fields, real, not_after, no_time, not_given}
use Rattle.calendar.specs.Range.{RealTime}
use Rattle.times.specs.Written.{time_text}
use Rattle.calendar.proofs.RangeLaws.{real-range, range-real}
use Rattle.times.proofs.WrittenLaws.{time_long, time_bytes}
use Rattle.attributes.specs.declared.Description.{Description}
use Rattle.attributes.specs.Attributes.{Attributes, attributes_of, no_charset, no_size, optional_text, time_value, values}
use Rattle.attributes.specs.Rules.{is_text, fits_mode, time_fits, ordered, rules_of, placed, rules, both, lowest}
use Rattle.attributes.specs.Statements.{InRange, PartsInside}
use Rattle.attributes.proofs.LineLaws.{all_unbroken}

-- ---- the lowest

pub lowest-some : (bs : List Bool) → 1 ≤ lowest bs
lowest-some [] = omega arith
lowest-some (true ∷ bs) = omega arith
lowest-some (false ∷ bs) = omega arith

-- before it all are kept
pub lowest-before : (bs : List Bool) (i : ℕ) → suc i < lowest bs → get_or bs i false ≡ true
lowest-before [] i h = absurd (omega arith)
lowest-before (true ∷ bs) zero h = refl
lowest-before (true ∷ bs) (suc i) h = lowest-before bs i (omega arith)
lowest-before (false ∷ bs) i h = absurd (omega arith)

-- and it is not
pub lowest_not : (bs : List Bool) (i : ℕ) → suc i ≡ lowest bs → get_or bs i false ≡ false
lowest_not [] i e = refl
lowest_not (true ∷ bs) zero e = absurd (let h = lowest-some bs in omega arith)
lowest_not (true ∷ bs) (suc i) e = lowest_not bs i (omega arith)
lowest_not (false ∷ bs) zero e = refl
lowest_not (false ∷ bs) (suc i) e = absurd (omega arith)

pub both-all : (xs ys : List Bool) (i : ℕ) → get_or (both xs ys) i false ≡ true → (get_or xs i false ≡ true) × (get_or ys i false ≡ true)
both-all [] ys i e = absurd (true≢false (sym e))
both-all (x ∷ xs) [] i e = absurd (true≢false (sym e))
both-all (x ∷ xs) (y ∷ ys) zero e = and_parts x y e
both-all (x ∷ xs) (y ∷ ys) (suc i) e = both-all xs ys i e

-- it is where the first of them stands that does not hold
pub lowest_is : (bs : List Bool) (k : ℕ) → (get_or bs k false ≡ true → ⊥) → ((j : ℕ) → j < k → get_or bs j false ≡ true) → lowest bs ≡ suc k
lowest_is [] zero bad good = refl
lowest_is [] (suc k) bad good = absurd (true≢false (sym (good 0 (omega arith))))
lowest_is (true ∷ bs) zero bad good = absurd (bad refl)
lowest_is (true ∷ bs) (suc k) bad good = ap suc (lowest_is bs k bad (λ j h. good (suc j) (omega arith)))
lowest_is (false ∷ bs) zero bad good = refl
lowest_is (false ∷ bs) (suc k) bad good = absurd (true≢false (sym (good 0 (omega arith))))

-- ---- each rule as a fact

-- a time of zeros is not given
pub not_given_lem : (t : Time) → not_given t ≡ true → t ≡ no_time
not_given_lem t e =
    let z : fields t ≡ fields no_time = same_equal (fields t) (fields no_time) e in
    λ i. record {
      year = ap (λ (l : List ℕ). get_or l 0 0) z i;
      month = ap (λ (l : List ℕ). get_or l 1 0) z i;
      day = ap (λ (l : List ℕ). get_or l 2 0) z i;
      hour = ap (λ (l : List ℕ). get_or l 3 0) z i;
      minute = ap (λ (l : List ℕ). get_or l 4 0) z i;
      second = ap (λ (l : List ℕ). get_or l 5 0) z i;
    }

time_fact : (t : Time) → time_fits t ≡ true → (t ≡ no_time) ⊎ RealTime t
time_fact t e = by (or_cases (not_given t) (real t) e)
  where
    by : (not_given t ≡ true) ⊎ (real t ≡ true) → (t ≡ no_time) ⊎ RealTime t
    by (inl g) = inl (not_given_lem t g)
    by (inr r) = inr (real-range t r)

order_fact : (a b : Time) → ordered a b ≡ true → (a ≡ no_time) ⊎ ((b ≡ no_time) ⊎ (not_after a b ≡ true))
order_fact a b e = by (or_cases (not_given a) (not_given b || not_after a b) e)
  where
    then : (not_given b ≡ true) ⊎ (not_after a b ≡ true) → (b ≡ no_time) ⊎ (not_after a b ≡ true)
    then (inl g) = inl (not_given_lem b g)
    then (inr r) = inr r

    by : (not_given a ≡ true) ⊎ ((not_given b || not_after a b) ≡ true) → (a ≡ no_time) ⊎ ((b ≡ no_time) ⊎ (not_after a b ≡ true))
    by (inl g) = inl (not_given_lem a g)
    by (inr r) = inr (then (or_cases (not_given b) (not_after a b) r))

kind_fact : (c : Content) (mode : ℕ) → fits_mode c mode ≡ true → ((c ≡ File) × (mode ≡ 1)) ⊎ ((c ≡ Stream) × (mode ≡ 0))
kind_fact File mode e = inl (refl, eqb-true mode 1 e)
kind_fact Stream mode e = inr (refl, eqb-true mode 0 e)
kind_fact Reserved mode e = absurd (true≢false (sym e))

charset_fact : (kind n : ℕ) → cond (eqb kind 21) (between 0 4 n) (eqb n no_charset) ≡ true
    → ((kind ≡ 21) × (n ≤ 4)) ⊎ ((kind ≡ 21 → ⊥) × (n ≡ no_charset))
charset_fact kind n e = by (eqb kind 21) refl e
  where
    by : (c : Bool) → eqb kind 21 ≡ c → cond c (between 0 4 n) (eqb n no_charset) ≡ true
        → ((kind ≡ 21) × (n ≤ 4)) ⊎ ((kind ≡ 21 → ⊥) × (n ≡ no_charset))
    by true k f = inl (eqb-true kind 21 k, (between_bounds 0 4 n f).1)
    by false k f = inr (eqb-false kind 21 k, eqb-true n no_charset f)

size_fact : (mode n : ℕ) → mode ≤ 1 → cond (eqb mode 1) (between 1 16777216 n) (eqb n no_size) ≡ true
    → ((mode ≡ 1) × (1 ≤ n) × (n ≤ 16777216)) ⊎ ((mode ≡ 0) × (n ≡ no_size))
size_fact mode n h e = by (eqb mode 1) refl e
  where
    by : (c : Bool) → eqb mode 1 ≡ c → cond c (between 1 16777216 n) (eqb n no_size) ≡ true
        → ((mode ≡ 1) × (1 ≤ n) × (n ≤ 16777216)) ⊎ ((mode ≡ 0) × (n ≡ no_size))
    by true k f = let b = between_bounds 1 16777216 n f in inl (eqb-true mode 1 k, b.0, b.1)
    by false k f = let d = eqb-false mode 1 k in inr (zero_left d, eqb-true n no_size f)
      where
        zero_left : (mode ≡ 1 → ⊥) → mode ≡ 0
        zero_left d = go mode h d
          where
            go : (m : ℕ) → m ≤ 1 → (m ≡ 1 → ⊥) → m ≡ 0
            go zero l n = refl
            go (suc m) l n = absurd (n (omega arith))

-- what all fifteen rules say together
module _ (a : Attributes) (kept : (i : ℕ) → i < 15 → get_or (rules_of a) i false ≡ true) where
  pub sound-range : InRange a
  unfolding rules_of
  sound-range = record {
    service = between_bounds 9000 9999 a.service (kept 0 (omega arith));
    mode = (between_bounds 0 1 a.mode (kept 1 (omega arith))).1;
    resource = between_bounds 1 65535 a.resource (kept 2 (omega arith));
    update = (between_bounds 0 15 a.update (kept 3 (omega arith))).1;
    name = let b = and_parts (leb 1 (length a.name)) (is_text a.name) (kept 4 (omega arith)) in (leb-true 1 (length a.name) b.0, b.1);
    kind = kind_fact (content_of a.kind) a.mode (kept 5 (omega arith));
    title = kept 6 (omega arith);
    summary = kept 7 (omega arith);
    keywords = kept 8 (omega arith);
    charset = charset_fact a.kind a.charset (kept 9 (omega arith));
    path = kept 10 (omega arith);
    size = size_fact a.mode a.size (between_bounds 0 1 a.mode (kept 1 (omega arith))).1 (kept 11 (omega arith));
    begins = time_fact a.begins (kept 12 (omega arith));
    ends = time_fact a.ends (and_parts (time_fits a.ends) (ordered a.begins a.ends) (kept 13 (omega arith))).0;
    order = order_fact a.begins a.ends (and_parts (time_fits a.ends) (ordered a.begins a.ends) (kept 13 (omega arith))).1;
    delete = (between_bounds 0 1 a.delete (kept 14 (omega arith))).1;
  }

-- ---- and back: each fact as a rule

fact_time : (t : Time) → (t ≡ no_time) ⊎ RealTime t → time_fits t ≡ true
fact_time t (inl e) = or_left (real t) (ap not_given e)
fact_time t (inr r) = or_right (not_given t) (range-real t r)

fact_order : (a b : Time) → (a ≡ no_time) ⊎ ((b ≡ no_time) ⊎ (not_after a b ≡ true)) → ordered a b ≡ true
fact_order a b (inl e) = or_left (not_given b || not_after a b) (ap not_given e)
fact_order a b (inr (inl e)) = or_right (not_given a) (or_left (not_after a b) (ap not_given e))
fact_order a b (inr (inr e)) = or_right (not_given a) (or_right (not_given b) e)

fact_kind : (c : Content) (mode : ℕ) → ((c ≡ File) × (mode ≡ 1)) ⊎ ((c ≡ Stream) × (mode ≡ 0)) → fits_mode c mode ≡ true
fact_kind c mode (inl f) = ap₂ fits_mode f.0 f.1
fact_kind c mode (inr f) = ap₂ fits_mode f.0 f.1

fact_charset : (kind n : ℕ) → ((kind ≡ 21) × (n ≤ 4)) ⊎ ((kind ≡ 21 → ⊥) × (n ≡ no_charset))
    → cond (eqb kind 21) (between 0 4 n) (eqb n no_charset) ≡ true
fact_charset kind n (inl f) = ap (λ (c : Bool). cond c (between 0 4 n) (eqb n no_charset)) (eq-eqb kind 21 f.0) ∙ bounds_between 0 4 n (omega arith) f.1
fact_charset kind n (inr f) = ap (λ (c : Bool). cond c (between 0 4 n) (eqb n no_charset)) (ne_eqb kind 21 f.0) ∙ eq-eqb n no_charset f.1

fact_size : (mode n : ℕ) → ((mode ≡ 1) × (1 ≤ n) × (n ≤ 16777216)) ⊎ ((mode ≡ 0) × (n ≡ no_size))
    → cond (eqb mode 1) (between 1 16777216 n) (eqb n no_size) ≡ true
fact_size mode n (inl f) = ap (λ (m : ℕ). cond (eqb m 1) (between 1 16777216 n) (eqb n no_size)) f.0 ∙ bounds_between 1 16777216 n f.1 f.2
fact_size mode n (inr f) = ap (λ (m : ℕ). cond (eqb m 1) (between 1 16777216 n) (eqb n no_size)) f.0 ∙ eq-eqb n no_size f.1

abbrev pub trues : List Bool
trues = true ∷ true ∷ true ∷ true ∷ true ∷ true ∷ true ∷ true ∷ true ∷ true ∷ true ∷ true ∷ true ∷ true ∷ true ∷ []

-- attributes in their ranges keep all fifteen rules
pub range-sound : (a : Attributes) → InRange a → rules_of a ≡ trues
unfolding rules_of
range-sound a r =
    λ i. bounds_between 9000 9999 a.service r.service.0 r.service.1 i
    ∷ bounds_between 0 1 a.mode (omega arith) r.mode i
    ∷ bounds_between 1 65535 a.resource r.resource.0 r.resource.1 i
    ∷ bounds_between 0 15 a.update (omega arith) r.update i
    ∷ and_join (le-leb 1 (length a.name) r.name.0) r.name.1 i
    ∷ fact_kind (content_of a.kind) a.mode r.kind i
    ∷ r.title i ∷ r.summary i ∷ r.keywords i
    ∷ fact_charset a.kind a.charset r.charset i
    ∷ r.path i
    ∷ fact_size a.mode a.size r.size i
    ∷ fact_time a.begins r.begins i
    ∷ and_join (fact_time a.ends r.ends) (fact_order a.begins a.ends r.order) i
    ∷ bounds_between 0 1 a.delete (omega arith) r.delete i
    ∷ []

parts-placed : (t : List ℕ) (d : Description) → PartsInside t d → placed t d ≡ trues
unfolding placed
parts-placed t d p =
    λ i. true ∷ true ∷ true ∷ true ∷ p.name i ∷ true ∷ p.title i ∷ p.summary i ∷ p.keywords i ∷ true ∷ p.path i ∷ true ∷ true ∷ true ∷ true ∷ []

-- also as parts of a text
pub rules-sound : (t : List ℕ) (d : Description) → PartsInside t d → InRange (attributes_of t d) → rules t d ≡ trues
unfolding rules
rules-sound t d p r = ap₂ both (parts-placed t d p) (range-sound (attributes_of t d) r)

-- ---- what is written has no CR or LF

digits-unbroken : (n : ℕ) → unbroken (digits n) ≡ true
digits-unbroken n = unbroken_by (digits n) (λ i h. let b = digits-bytes n i h in omega arith)

optional_unbroken : (none n : ℕ) → unbroken (optional_text none n) ≡ true
optional_unbroken none n = by (eqb n none)
  where
    by : (c : Bool) → unbroken (cond c [] (digits n)) ≡ true
    by true = refl
    by false = digits-unbroken n

time_unbroken : (t : Time) → unbroken (time_value t) ≡ true
time_unbroken t = by (not_given t)
  where
    by : (c : Bool) → unbroken (cond c [] (time_text t)) ≡ true
    by true = refl
    by false = unbroken_by (time_text t) (λ i h. let b = time_bytes t i (omega (arith, time_long t)) in omega arith)

text_unbroken : (v : List ℕ) → is_text v ≡ true → unbroken v ≡ true
text_unbroken v e = (and_parts (unbroken v) (well_formed v) e).0

pub values-unbroken : (a : Attributes) → InRange a → all_unbroken (values a) ≡ true
unfolding values
values-unbroken a r =
    simp (
      digits-unbroken,
      optional_unbroken,
      time_unbroken,
      text_unbroken a.name r.name.1,
      text_unbroken a.title r.title,
      text_unbroken a.summary r.summary,
      text_unbroken a.keywords r.keywords,
      text_unbroken a.path r.path,
    )
