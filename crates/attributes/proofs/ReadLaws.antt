-- What an answer of the reader says: an accepted text has fifteen lines and nothing behind them, and keeps every rule (`taken`); each refusal has its reason. So the line
-- that is told is the lowest, 30 comes last, and both are told wherever they are due. Assumes nothing.
use mathlib.Core.Path.{◌≡◌, refl, sym, ap, ◌∙◌}
use mathlib.Core.Logic.{◌⊎◌, inl, inr}
use mathlib.Core.Bool.{Bool, true, false, true≢false, cond}
use mathlib.Core.List.{List}
use Prim.Native.Nat.{ℕ, zero, suc, ◌<◌, ◌≤◌}
use native.Mathlib.Omega.{arith}
use borrow.Author.Tests.{leb-true, leb-false, ltb-true, ltb-false, lt-leb, le-ltb}
use lib.Dec.{leb, ltb}
use lib.ListN.{length, get_or}
use Rattle.ground.proofs.Listed.{le_or_lt}
use Rattle.refusals.specs.declared.Refusal.TheVariants.{Line, Extra}
use Rattle.attributes.specs.declared.Part.{Part}
use Rattle.attributes.specs.declared.Description.{Description}
use Rattle.attributes.specs.Attributes.{attributes_of}
use Rattle.attributes.specs.Rules.{rules_of, placed, rules, lowest}
use Rattle.attributes.specs.Lines.{is_line, value_at, behind_line, alone, before, lines_from, lines_of}
use Rattle.attributes.specs.Describe.{description_in, lower, fault_of, describe_of}
use Rattle.attributes.specs.Statements.{ReadingInRange, SoundLine, LowestFault, ExtraLast, TellsFault, TellsExtra}
use Rattle.attributes.proofs.RuleLaws.{lowest-some, lowest-before, lowest_not, both-all, sound-range}
use Rattle.refusals.specs.declared.Refusal.{Refusal}
use Rattle.std.specs.Prelude.{Result}
use Rattle.std.specs.Prelude.{Err}
use Rattle.std.specs.Prelude.{Ok}

-- ---- the number of lines, and the number of the fault

pub lines_most : (t : List ℕ) (k n at : ℕ) → length (lines_from t k n at).parts ≤ n
lines_most t k zero at = omega arith
lines_most t k (suc n) at = by (is_line t k at) (lines_most t (suc k) n (behind_line t at))
  where
    by : (c : Bool) → length (lines_from t (suc k) n (behind_line t at)).parts ≤ n
        → length (cond c (before (value_at t at) (lines_from t (suc k) n (behind_line t at))) (alone at)).parts ≤ suc n
    by true h = omega arith
    by false h = omega arith

pub lines_fifteen : (t : List ℕ) → length (lines_of t).parts ≤ 15
unfolding lines_of
lines_fifteen t = lines_most t 1 15 0

pub lower-left : (a b : ℕ) → lower a b ≤ a
lower-left a b = by (leb a b) refl
  where
    by : (c : Bool) → leb a b ≡ c → cond c a b ≤ a
    by true e = omega arith
    by false e = let h = leb-false a b e in omega arith

pub lower-right : (a b : ℕ) → lower a b ≤ b
lower-right a b = by (leb a b) refl
  where
    by : (c : Bool) → leb a b ≡ c → cond c a b ≤ b
    by true e = leb-true a b e
    by false e = omega arith

lower_either : (a b : ℕ) (P : ℕ → Type 0) → P a → P b → P (lower a b)
lower_either a b P p q = by (leb a b)
  where
    by : (c : Bool) → P (cond c a b)
    by true = p
    by false = q

-- what was found of a text
abbrev found : List ℕ → List Part
found t = (lines_of t).parts

abbrev kept : List ℕ → List Bool
kept t = rules t (description_in t (found t))

fault_lines : (t : List ℕ) → fault_of t ≤ suc (length (found t))
unfolding fault_of
fault_lines t = lower-right (lowest (kept t)) (suc (length (found t)))

fault_rules : (t : List ℕ) → fault_of t ≤ lowest (kept t)
unfolding fault_of
fault_rules t = lower-left (lowest (kept t)) (suc (length (found t)))

-- lines before the fault are sound
sound-before : (t : List ℕ) (j : ℕ) → 1 ≤ j → j < fault_of t → SoundLine t j
sound-before t zero l h = absurd (omega arith)
sound-before t (suc j) l h =
    let a = fault_lines t in
    let b = fault_rules t in
    (omega arith, lowest-before (kept t) j (omega arith))

-- the line of the fault is not
not_sound : (t : List ℕ) → SoundLine t (fault_of t) → ⊥
unfolding fault_of
not_sound t = lower_either (lowest (kept t)) (suc (length (found t))) (λ k. SoundLine t k → ⊥) (by (lowest (kept t)) refl (lowest-some (kept t))) (λ s. omega (arith, s.0))
  where
    by : (k : ℕ) → lowest (kept t) ≡ k → 1 ≤ k → SoundLine t k → ⊥
    by zero e h s = absurd (omega arith)
    by (suc k) e h s = true≢false (sym s.1 ∙ lowest_not (kept t) k (sym e))

fault_some : (t : List ℕ) → 1 ≤ fault_of t
unfolding fault_of
fault_some t = lower_either (lowest (kept t)) (suc (length (found t))) (λ k. 1 ≤ k) (lowest-some (kept t)) (omega arith)

-- ---- each answer with its reason

pub data Reason (t : List ℕ) : Result Description Refusal → Type 0 where
  at-line : fault_of t ≤ 15 → Reason t (Err (Line (fault_of t)))
  behind : 15 < fault_of t → (lines_of t).next < length t → Reason t (Err Extra)
  whole : 15 < fault_of t → length t ≤ (lines_of t).next → Reason t (Ok (description_in t (found t)))

pub reason : (t : List ℕ) → Reason t (describe_of t)
unfolding describe_of
reason t = by (leb (fault_of t) 15) refl (ltb (lines_of t).next (length t)) refl
  where
    by : (b : Bool) → leb (fault_of t) 15 ≡ b → (c : Bool) → ltb (lines_of t).next (length t) ≡ c
        → Reason t (cond b (Err (Line (fault_of t))) (cond c (Err Extra) (Ok (description_in t (found t)))))
    by true e c f = at-line (leb-true (fault_of t) 15 e)
    by false e true f = behind (leb-false (fault_of t) 15 e) (ltb-true (lines_of t).next (length t) f)
    by false e false f = whole (leb-false (fault_of t) 15 e) (ltb-false (lines_of t).next (length t) f)

-- the reader takes a text without a fault
pub takes : (t : List ℕ) → 15 < fault_of t → length t ≤ (lines_of t).next → describe_of t ≡ Ok (description_in t (found t))
unfolding describe_of
takes t h e =
    ap (λ (b : Bool). cond b (Err (Line (fault_of t))) (cond (ltb (lines_of t).next (length t)) (Err Extra) (Ok (description_in t (found t)))))
    (lt-leb (fault_of t) 15 h)
    ∙ ap (λ (c : Bool). cond c (Err Extra) (Ok (description_in t (found t)))) (le-ltb (lines_of t).next (length t) e)

-- what is known of a text that it takes
pub record Taken (t : List ℕ) (d : Description) : Type 0 where
  pub parts : d ≡ description_in t (lines_of t).parts
  pub fifteen : length (lines_of t).parts ≡ 15
  pub end : length t ≤ (lines_of t).next
  pub rules-kept : (i : ℕ) → i < 15 → get_or (rules t d) i false ≡ true

pub taken : (t : List ℕ) (d : Description) → describe_of t ≡ Ok d → Taken t d
taken t d e = by (describe_of t) (reason t) e
  where
    by : (r : Result Description Refusal) → Reason t r → r ≡ Ok d → Taken t d
    by _ (at-line h) f = let z : ◌≡◌ {A = ℕ} 0 1 = cc in absurd (omega arith)
    by _ (behind h l) f = let z : ◌≡◌ {A = ℕ} 0 1 = cc in absurd (omega arith)
    by _ (whole h l) f =
        let s : d ≡ description_in t (found t) = cc in
        let a = fault_lines t in
        let b = fault_rules t in
        let c = lines_fifteen t in
        record {
          parts = s;
          fifteen = omega arith;
          end = l;
          rules-kept = λ i m. ap (λ (y : Description). get_or (rules t y) i false) s ∙ lowest-before (kept t) i (omega arith);
        }

pub reading_in_range : ReadingInRange describe_of
unfolding rules
reading_in_range t d e = sound-range (attributes_of t d) (λ i h. (both-all (placed t d) (rules_of (attributes_of t d)) i ((taken t d e).rules-kept i h)).1)

pub lowest_fault : LowestFault describe_of
lowest_fault t k e = by (describe_of t) (reason t) e
  where
    by : (r : Result Description Refusal) → Reason t r → r ≡ Err (Line k) → (1 ≤ k) × (k ≤ 15) × (SoundLine t k → ⊥) × ((j : ℕ) → 1 ≤ j → j < k → SoundLine t j)
    by _ (at-line h) f =
        let s : fault_of t ≡ k = cc in
        let l = fault_some t in
        (omega arith, omega arith, rw s at (not_sound t), λ j a b. sound-before t j a (omega arith))
    by _ (behind h l) f = let z : ◌≡◌ {A = ℕ} 0 1 = cc in absurd (omega arith)
    by _ (whole h l) f = let z : ◌≡◌ {A = ℕ} 0 1 = cc in absurd (omega arith)

pub extra_last : ExtraLast describe_of
extra_last t e j l h = by (describe_of t) (reason t) e
  where
    by : (r : Result Description Refusal) → Reason t r → r ≡ Err Extra → SoundLine t j
    by _ (at-line m) f = let z : ◌≡◌ {A = ℕ} 0 1 = cc in absurd (omega arith)
    by _ (behind m o) f = sound-before t j l (omega arith)
    by _ (whole m o) f = let z : ◌≡◌ {A = ℕ} 0 1 = cc in absurd (omega arith)

-- ---- and a refusal that is due is told

pub tells_fault : TellsFault describe_of
tells_fault t k l m bad good = by (describe_of t) (reason t)
  where
    -- a line that is not sound, all before it sound, is the fault
    is_fault : fault_of t ≡ k
    is_fault = near (le_or_lt k (fault_of t)) (le_or_lt (fault_of t) k)
      where
        near : (k ≤ fault_of t) ⊎ (fault_of t < k) → (fault_of t ≤ k) ⊎ (k < fault_of t) → fault_of t ≡ k
        near (inl a) (inl b) = omega arith
        near (inl a) (inr b) = absurd (bad (sound-before t k l b))
        near (inr a) b = absurd (not_sound t (good (fault_of t) (fault_some t) a))

    by : (r : Result Description Refusal) → Reason t r → r ≡ Err (Line k)
    by _ (at-line h) = ap (λ (n : ℕ). Err (Line n)) is_fault
    by _ (behind h n) = let e = is_fault in absurd (omega arith)
    by _ (whole h n) = let e = is_fault in absurd (omega arith)

pub tells_extra : TellsExtra describe_of
tells_extra t good more = by (describe_of t) (reason t)
  where
    by : (r : Result Description Refusal) → Reason t r → r ≡ Err Extra
    by _ (at-line h) = absurd (not_sound t (good (fault_of t) (fault_some t) h))
    by _ (behind h n) = refl
    by _ (whole h n) = absurd (omega arith)
