-- Lines are found again: of a text that is, with LF for CR LF, the lines of values without CR or LF, all lines are found with their values, and nothing behind them
-- (`lines_found`). Assumes nothing.
use mathlib.Core.Path.{◌≡◌, refl, sym, ap, ap₂, ◌∙◌}
use mathlib.Core.Bool.{Bool, true, false, true≢false, cond, not, ◌&&◌}
use mathlib.Core.List.{List, [], ◌∷◌, ◌++◌}
use Prim.Native.Nat.{ℕ, zero, suc, ◌+◌, ◌-◌, ◌<◌, ◌≤◌}
use native.Mathlib.Omega.{arith}
use borrow.Author.Tests.{eqb-true, leb-true, eq-eqb, lt-ltb, le-leb}
use lib.Dec.{eqb, leb, ltb}
use lib.ListN.{length, get_or, take, drop, length-append, length-drop, get_or-append}
use lib.Seq.{drop-drop, drop-append-add, get_or-append_seam, take_at}
use Rattle.std.proofs.lemmas.Bool.{and_parts}
use Rattle.ground.proofs.Truth.{and_join}
use Rattle.slices.specs.Slices.{same}
use Rattle.slices.proofs.SameLaws.{same_self}
use Rattle.texts.specs.Breaks.{LF, CR, until_lf, unbroken}
use Rattle.texts.proofs.BreakLaws.{unbroken-append, unbroken_by}
use Rattle.attributes.specs.declared.Part.{Part}
use Rattle.attributes.specs.Attributes.{part_of}
use Rattle.attributes.specs.Rules.{inside}
use Rattle.attributes.specs.Lines.{label, lines_text, is_line, without_cr, value_at, behind_line, Found, lines_from}
use Rattle.attributes.specs.Describe.{nowhere}
use Rattle.attributes.specs.Statements.{starts_lf, plain}

-- ---- values without CR or LF

abbrev pub all_unbroken : List (List ℕ) → Bool
all_unbroken [] = true
all_unbroken (v ∷ vs) = unbroken v && all_unbroken vs

-- the first byte is neither, and the others are unbroken
pub first-unbroken : (b : ℕ) (v : List ℕ) → unbroken (b ∷ v) ≡ true → (eqb b LF ≡ false) × (eqb b CR ≡ false) × (unbroken v ≡ true)
first-unbroken b v u = by (eqb b LF) (eqb b CR) u
  where
    by : (l c : Bool) → (not l && (not c && unbroken v)) ≡ true → (l ≡ false) × (c ≡ false) × (unbroken v ≡ true)
    by true c e = absurd (true≢false (sym e))
    by false true e = absurd (true≢false (sym e))
    by false false e = (refl, refl, e)

no_cr : (v : List ℕ) (i : ℕ) → unbroken v ≡ true → i < length v → eqb (get_or v i 0) CR ≡ false
no_cr [] i u h = absurd (omega arith)
no_cr (b ∷ v) zero u h = (first-unbroken b v u).1
no_cr (b ∷ v) (suc i) u h = no_cr v i (first-unbroken b v u).2 (omega arith)

pub label-unbroken : (k : ℕ) → unbroken (label k) ≡ true
label-unbroken k = unbroken_by (label k) by
  where
    by : (i : ℕ) → i < 3 → 14 ≤ get_or (label k) i 0
    by zero h = omega arith
    by (suc zero) h = omega arith
    by (suc (suc zero)) h = omega arith
    by (suc (suc (suc i))) h = absurd (omega arith)

-- the bytes of parts
abbrev pub values_in : List ℕ → List Part → List (List ℕ)
values_in t [] = []
values_in t (p ∷ ps) = part_of t p ∷ values_in t ps

pub values_length : (t : List ℕ) (ps : List Part) → length (values_in t ps) ≡ length ps
values_length t [] = refl
values_length t (p ∷ ps) = ap suc (values_length t ps)

pub values-at : (t : List ℕ) (ps : List Part) (i : ℕ) → i < length ps → get_or (values_in t ps) i [] ≡ part_of t (get_or ps i nowhere)
values-at t [] i h = absurd (omega arith)
values-at t (p ∷ ps) zero h = refl
values-at t (p ∷ ps) (suc i) h = values-at t ps i (omega arith)

-- ---- the end of a line

-- LF, or CR LF, before what follows
abbrev ended : Bool → List ℕ → List ℕ
ended false s = LF ∷ s
ended true s = CR ∷ (LF ∷ s)

ended-long : (c : Bool) (s : List ℕ) → until_lf (ended c s) < length (ended c s)
ended-long false s = omega arith
ended-long true s = omega arith

ended-behind : (c : Bool) (s : List ℕ) → drop (until_lf (ended c s) + 1) (ended c s) ≡ s
ended-behind false s = refl
ended-behind true s = refl

until_behind : (v l : List ℕ) → unbroken v ≡ true → until_lf (v ++ l) ≡ length v + until_lf l
until_behind [] l u = omega arith
until_behind (b ∷ v) l u =
    let f = first-unbroken b v u in
    let e = until_behind v l f.2 in
    ap (λ (c : Bool). cond c zero (suc (until_lf (v ++ l)))) f.0 ∙ (omega arith)

-- one CR before LF is not of the value, and no other byte is left out
value-long : (c : Bool) (v s : List ℕ) → unbroken v ≡ true → without_cr (v ++ ended c s) (length v + until_lf (ended c s)) ≡ length v
value-long true v s u =
    let l : leb 1 (length v + 1) ≡ true = le-leb 1 (length v + 1) (omega arith) in
    let e : length v + 1 - 1 ≡ length v = omega arith in
    ap₂ (λ (b : Bool) (n : ℕ). cond (b && eqb (get_or (v ++ ended true s) n 0) CR) n (length v + 1)) l e
    ∙ ap (λ (x : ℕ). cond (eqb x CR) (length v) (length v + 1)) (get_or-append_seam v CR (LF ∷ s) 0)
value-long false v s u = ap (without_cr (v ++ ended false s)) nothing ∙ by (leb 1 (length v)) refl
  where
    nothing : length v + 0 ≡ length v
    nothing = omega arith

    by : (c : Bool) → leb 1 (length v) ≡ c → cond (c && eqb (get_or (v ++ ended false s) (length v - 1) 0) CR) (length v - 1) (length v) ≡ length v
    by true e =
        let h : 1 ≤ length v = leb-true 1 (length v) e in
        ap (λ (c : Bool). cond c (length v - 1) (length v))
        (ap (λ (x : ℕ). eqb x CR) (get_or-append v (LF ∷ s) 0 (length v - 1) (omega arith)) ∙ no_cr v (length v - 1) u (omega arith))
    by false e = refl

-- ---- a text by its plain text

-- the first byte stays, or is a CR that goes
data First (b : ℕ) (s : List ℕ) (x : ℕ) (m : List ℕ) : Type 0 where
  stays : b ≡ x → plain s ≡ m → First b s x m
  goes : b ≡ CR → (r : List ℕ) → s ≡ LF ∷ r → x ≡ LF → plain r ≡ m → First b s x m

first : (b : ℕ) (s : List ℕ) (x : ℕ) (m : List ℕ) → plain (b ∷ s) ≡ x ∷ m → First b s x m
first b s x m e = by (eqb b CR && starts_lf s) refl e
  where
    gone : eqb b CR ≡ true → (s : List ℕ) → starts_lf s ≡ true → plain s ≡ x ∷ m → First b s x m
    gone c [] l e = absurd (true≢false (sym l))
    gone c (y ∷ r) l e =
        let f : y ≡ LF = eqb-true y LF l in
        let g : LF ∷ plain r ≡ x ∷ m = sym (ap (λ (z : ℕ). plain (z ∷ r)) f) ∙ e in
        goes (eqb-true b CR c) r (λ i. f i ∷ r) (cc) (cc)

    by : (c : Bool) → (eqb b CR && starts_lf s) ≡ c → cond c (plain s) (b ∷ plain s) ≡ x ∷ m → First b s x m
    by true f e = let w = and_parts (eqb b CR) (starts_lf s) f in gone w.0 s w.1 e
    by false f e = stays (cc) (cc)

none-plain : (l : List ℕ) → plain l ≡ [] → l ≡ []
none-plain [] e = refl
none-plain (b ∷ s) e = absurd (by (eqb b CR && starts_lf s) refl e)
  where
    ends : (s : List ℕ) → starts_lf s ≡ true → plain s ≡ [] → ⊥
    ends [] l e = true≢false (sym l)
    ends (y ∷ r) l e =
        let g : LF ∷ plain r ≡ [] = sym (ap (λ (z : ℕ). plain (z ∷ r)) (eqb-true y LF l)) ∙ e in
        let z : ◌≡◌ {A = ℕ} 0 1 = cc in
        omega arith

    by : (c : Bool) → (eqb b CR && starts_lf s) ≡ c → cond c (plain s) (b ∷ plain s) ≡ [] → ⊥
    by true f e = ends s (and_parts (eqb b CR) (starts_lf s) f).1 e
    by false f e = let z : ◌≡◌ {A = ℕ} 0 1 = cc in omega arith

-- p and the end of its line
record Ending (l p rest : List ℕ) : Type 0 where
  cr : Bool
  tail : List ℕ
  here : l ≡ p ++ ended cr tail
  follows : plain tail ≡ rest

ending : (p l rest : List ℕ) → unbroken p ≡ true → plain l ≡ p ++ (LF ∷ rest) → Ending l p rest
ending [] [] rest u e = let z : ◌≡◌ {A = ℕ} 0 1 = cc in absurd (omega arith)
ending [] (b ∷ s) rest u e = by (first b s LF rest e)
  where
    by : First b s LF rest → Ending (b ∷ s) [] rest
    by (stays f g) = record { cr = false; tail = s; here = λ i. f i ∷ s; follows = g }
    by (goes f r g x h) = record { cr = true; tail = r; here = λ i. f i ∷ g i; follows = h }
ending (x ∷ p) [] rest u e = let z : ◌≡◌ {A = ℕ} 0 1 = cc in absurd (omega arith)
ending (x ∷ p) (b ∷ s) rest u e = by (first b s x (p ++ (LF ∷ rest)) e) (ending p s rest (first-unbroken x p u).2)
  where
    by : First b s x (p ++ (LF ∷ rest)) → (plain s ≡ p ++ (LF ∷ rest) → Ending s p rest) → Ending (b ∷ s) (x ∷ p) rest
    by (stays f g) again = let w = again g in record { cr = w.cr; tail = w.tail; here = λ i. f i ∷ w.here i; follows = w.follows }
    by (goes f r g y h) again = absurd (true≢false (sym (eq-eqb x LF y) ∙ (first-unbroken x p u).0))

-- ---- one line

pub record LineAt (t : List ℕ) (k at : ℕ) (v rest : List ℕ) : Type 0 where
  pub line : is_line t k at ≡ true
  pub value : part_of t (value_at t at) ≡ v
  pub within : inside t (value_at t at) ≡ true
  pub follows : plain (drop (behind_line t at) t) ≡ rest

module _ (t : List ℕ) (k at : ℕ) (v rest : List ℕ) (here : plain (drop at t) ≡ label k ++ (v ++ (LF ∷ rest))) (u : unbroken v ≡ true) where
  end : Ending (drop at t) (label k ++ v) rest
  end = ending (label k ++ v) (drop at t) rest (unbroken-append (label k) v ∙ ap₂ ◌&&◌ (label-unbroken k) u) here

  abbrev e : List ℕ
  e = ended end.cr end.tail

  value-here : drop (at + 3) t ≡ v ++ e
  value-here = sym (drop-drop 3 at t) ∙ ap (drop 3) end.here

  until_here : until_lf (drop (at + 3) t) ≡ length v + until_lf e
  until_here = ap until_lf value-here ∙ until_behind v e u

  long-here : length t - (at + 3) ≡ length v + length e
  long-here = sym (length-drop (at + 3) t) ∙ ap length value-here ∙ length-append v e

  without-here : without_cr (drop (at + 3) t) (until_lf (drop (at + 3) t)) ≡ length v
  without-here = ap₂ without_cr value-here until_here ∙ value-long end.cr v end.tail u

  line-here : is_line t k at ≡ true
  line-here =
      let a : same (take 3 (drop at t)) (label k) ≡ true = ap (λ (l : List ℕ). same (take 3 l) (label k)) end.here ∙ same_self (label k) in
      let n : length (drop (at + 3) t) ≡ length v + length e = ap length value-here ∙ length-append v e in
      and_join a
      (ap₂ ltb until_here n ∙ lt-ltb (length v + until_lf e) (length v + length e) (omega (arith, ended-long end.cr end.tail)))

  behind-here : drop (behind_line t at) t ≡ end.tail
  behind-here =
      let z : at + 3 + until_lf (drop (at + 3) t) + 1 ≡ at + 3 + (length v + (until_lf e + 1)) = omega (arith, until_here) in
      ap (λ (n : ℕ). drop n t) z ∙ sym (drop-drop (length v + (until_lf e + 1)) (at + 3) t) ∙ ap (drop (length v + (until_lf e + 1))) value-here
      ∙ drop-append-add v e (until_lf e + 1) ∙ ended-behind end.cr end.tail

  pub line-found : LineAt t k at v rest
  unfolding value_at
  line-found = record {
    line = line-here;
    value = ap₂ take without-here value-here ∙ take_at v e (length v) refl;
    within =
        let z = ended-long end.cr end.tail in
        let w = long-here in
        let m = without-here in
        and_join (le-leb (at + 3) (length t) (omega arith))
        (le-leb (without_cr (drop (at + 3) t) (until_lf (drop (at + 3) t))) (length t - (at + 3)) (omega arith));
    follows = ap plain behind-here ∙ end.follows;
  }

-- ---- all lines

pub record Parted (t : List ℕ) (vs : List (List ℕ)) (f : Found) : Type 0 where
  pub values : values_in t f.parts ≡ vs
  pub within : (i : ℕ) → i < length f.parts → inside t (get_or f.parts i nowhere) ≡ true
  pub end : length t ≤ f.next

pub lines_found : (t : List ℕ) (k : ℕ) (vs : List (List ℕ)) (at : ℕ) → plain (drop at t) ≡ lines_text k vs → all_unbroken vs ≡ true
    → Parted t vs (lines_from t k (length vs) at)
lines_found t k [] at here u =
    let z : length (drop at t) ≡ 0 = ap length (none-plain (drop at t) here) in
    record { values = refl; within = λ i h. absurd (omega arith); end = omega (arith, length-drop at t) }
lines_found t k (v ∷ vs) at here u =
    let w = and_parts (unbroken v) (all_unbroken vs) u in
    let l = line-found t k at v (lines_text (suc k) vs) here w.0 in
    by l (lines_found t (suc k) vs (behind_line t at) l.follows w.1)
  where
    by : LineAt t k at v (lines_text (suc k) vs) → Parted t vs (lines_from t (suc k) (length vs) (behind_line t at))
        → Parted t (v ∷ vs) (lines_from t k (suc (length vs)) at)
    by l more = rw l.line (record { values = λ i. l.value i ∷ more.values i; within = inner; end = more.end })
      where
        inner : (i : ℕ) → i < suc (length (lines_from t (suc k) (length vs) (behind_line t at)).parts)
            → inside t (get_or (value_at t at ∷ (lines_from t (suc k) (length vs) (behind_line t at)).parts) i nowhere) ≡ true
        inner zero h = l.within
        inner (suc i) h = more.within i (omega arith)
