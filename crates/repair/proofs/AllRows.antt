-- Rows mended all or none: the row at the front, and those behind it, come to what all come to (`mend_rows` of crate code).
-- Assumes nothing.
use mathlib.Core.Path.{◌≡◌, refl, sym, ap, ap₂, subst, ◌∙◌}
use Rattle.std.proofs.Common.{Some, None}
use mathlib.Core.List.{List, [], ◌∷◌, ◌++◌, append-nil}
use Prim.Native.Nat.{ℕ, zero, suc, ◌+◌, ◌-◌, ◌*◌, ◌/◌, ◌%◌, ◌≤◌, ◌<◌}
use native.Mathlib.Nat.{min-eq_right, lt_of_lt_of_le, le_of_eq}
use native.Mathlib.Omega.{arith}
use borrow.Author.Tests.{eq-eqb, ne_eqb, le-leb, lt-leb, lt-ltb, le-ltb}
use lib.ListN.{length, get_or, take, drop, set, length-append, length-drop, take-append-drop, get_or-append}
use lib.Seq.{set-append_left, length-take-le, take_all, drop-drop}
use borrow.Rule.Slice.PartMut.{put_mid}
use Rattle.ground.specs.Bits.{sum}
use Rattle.refusals.specs.declared.Refusal.{Refusal}
use Rattle.refusals.specs.declared.Refusal.TheVariants.{Short, Repair}
use Rattle.code.specs.Code.{Bytes, distance}
use Rattle.code.specs.Search.{Repaired, remainder}
use Rattle.code.specs.Search.Repaired.{found, none}
use Rattle.code.specs.Repair.{repair_of}
use Rattle.code.specs.Mend.{Mended as Whole, whole, broken, behind, mend_rows}
use Rattle.code.proofs.Division.{length-remainder, remainder-bytes}
use Rattle.code.proofs.Mend.{mend_first, mend_few, none_left, bytes_split}
use Rattle.errata.specs.declared.Errata.{Errata}
use Rattle.errata.specs.Errata.{errata_of}
use Rattle.errata.specs.InnerErrata.{entries, mended_by, Ordered}
use Rattle.errata.proofs.Mending.{mended-length}
use Rattle.errata.proofs.Moved.{Found, errata_ordered, errata_found, errata_none}
use Rattle.encoding.specs.Encode.{remainders_of}
use Rattle.encoding.proofs.Feeding.{rest_there, rest_among, length_remainders}
use Rattle.repair.specs.Repair.{Mending, mending_as, mending_of, Mends}
use Rattle.repair.specs.InnerRows.{Resting, Ends, Finished, told_of}
use Rattle.std.specs.Prelude.{Ok, Err}
use Rattle.std.specs.Prelude.{Result}

-- ---- the row at the front

mended-front : (x y : List ℕ) (a c : ℕ → ℕ) (n : ℕ) → length x ≡ 255 → mended_by (x ++ y) a c n ≡ mended_by x a c n ++ y
unfolding mended_by
mended-front x y a c zero h = refl
mended-front x y a c (suc k) h =
    let m : List ℕ = mended_by x a c k in
    let l : 254 - a k < length m = omega (arith, mended-length x h a c k) in
    ap (λ (z : List ℕ). set z (254 - a k) (sum (get_or z (254 - a k) 0) (c k))) (mended-front x y a c k h)
    ∙ ap (λ (z : ℕ). set (m ++ y) (254 - a k) (sum z (c k))) (get_or-append m y 0 (254 - a k) l)
    ∙ set-append_left m y (254 - a k) (sum (get_or m (254 - a k) 0) (c k)) l

-- a part behind the first row, lent and given back
pub lent-behind : (l ys : List ℕ) → 255 ≤ length l → put_mid 255 (length l - 255) l ys ≡ take 255 l ++ ys
lent-behind l ys h =
    let d : drop (length l - 255) (drop 255 l) ≡ [] = sym (none_left (drop (length l - 255) (drop 255 l)) (length-drop (length l - 255) (drop 255 l) ∙ omega (arith, length-drop 255 l))) in
    ap (λ (x : List ℕ). take 255 l ++ (ys ++ x)) d ∙ ap (λ (x : List ℕ). take 255 l ++ x) (append-nil ys)

pub back_length : (l ys : List ℕ) → 255 ≤ length l → 255 ≤ length (put_mid 255 (length l - 255) l ys)
back_length l ys h =
    omega (arith, ap length (lent-behind l ys h), length-append (take 255 l) ys, length-take-le 255 l h)

pub behind-part : (b : List ℕ) → take (length b - 255) (drop 255 b) ≡ drop 255 b
behind-part b = take_all (length b - 255) (drop 255 b) (omega (arith, length-drop 255 b))

-- ---- rows one by one

pub no_rows : (b : List ℕ) (i : ℕ) → length b ≡ 0 → Ends b (mend_rows (length b / 255) i b) 15 b
unfolding mend_rows
no_rows [] i h = (refl, refl)
no_rows (x ∷ b) i h = absurd (omega arith)

module _ (b : List ℕ) (i : ℕ) (some : 255 ≤ length b) where
  abbrev first : List ℕ
  first = take 255 b

  abbrev others : List ℕ
  others = drop 255 b

  all : (a : Repaired) → repair_of first ≡ a → mend_rows (length b / 255) i b ≡ behind first a i (mend_rows (length others / 255) (i + 1) others)
  all a e =
      let n : length b / 255 - 1 ≡ length others / 255 = omega (arith, length-drop 255 b) in
      let k : suc i ≡ i + 1 = omega arith in
      mend_first (length b / 255) i b (omega arith)
      ∙ ap (λ (x : Repaired). behind first x i (mend_rows (length b / 255 - 1) (suc i) others)) e
      ∙ ap₂ (λ (x y : ℕ). behind first a i (mend_rows x y others)) n k

  pub row-broken : i < 15 → repair_of first ≡ none → Ends b (mend_rows (length b / 255) i b) i b
  row-broken h e = subst (λ (m : Whole). Ends b m i b) (sym (all none e)) (h, refl, refl)

  module _ (at c : List ℕ) (n : ℕ) (e : Found first (mended_by first (entries at) (entries c) n) n) where
    abbrev fixed : List ℕ
    fixed = mended_by first (entries at) (entries c) n

    -- the rows behind came to m, ended as r, and left `rest`
    pub row_done : (r : ℕ) (part rest mid out : List ℕ) → part ≡ others → Ends part (mend_rows (length part / 255) (i + 1) part) r rest → mid ≡ first ++ rest
        → {x : ℕ} → Finished r mid at c n x out → Ends b (mend_rows (length b / 255) i b) x out
    row_done r part rest mid out s p q {x} f =
        by (mend_rows (length others / 255) (i + 1) others) refl (subst (λ (l : List ℕ). Ends l (mend_rows (length l / 255) (i + 1) l) r rest) s p)
      where
        by : (m : Whole) → mend_rows (length others / 255) (i + 1) others ≡ m → Ends others m r rest → Ends b (mend_rows (length b / 255) i b) x out
        by (whole s k) z p =
            let g : mend_rows (length b / 255) i b ≡ whole (fixed ++ s) (distance first fixed + k) = all (found fixed) e.answered ∙ ap (behind first (found fixed) i) z in
            let d = f.added (omega (arith, p.0)) in
            subst (λ (m : Whole). Ends b m x out) (sym g) (
              omega (arith, d.0, p.0, e.counted),
              d.1 ∙ ap (λ (l : List ℕ). mended_by l (entries at) (entries c) n) (q ∙ ap (λ (l : List ℕ). first ++ l) p.1)
                  ∙ mended-front first s (entries at) (entries c) n (length-take-le 255 b some),
            )
        by (broken j) z p =
            let g : mend_rows (length b / 255) i b ≡ broken j = all (found fixed) e.answered ∙ ap (behind first (found fixed) i) z in
            let d = f.kept (omega (arith, p.0, p.1)) in
            subst (λ (m : Whole). Ends b m x out) (sym g)
            (p.0, d.0 ∙ p.1, d.1 ∙ q ∙ ap (λ (l : List ℕ). first ++ l) p.2 ∙ take-append-drop 255 b)

-- ---- the row at the front mended

pub nothing-added : (r : ℕ) (b at c : List ℕ) (n : ℕ) → n ≡ 0 → Finished r b at c n r b
unfolding mended_by
nothing-added r b at c n e =
    record { kept = λ h. (refl, refl); added = λ h. (omega arith, sym (ap (λ (k : ℕ). mended_by b (entries at) (entries c) k) e)) }

pub not_added : (r : ℕ) (b at c : List ℕ) (n : ℕ) → r < 15 → Finished r b at c n r b
not_added r b at c n h = record { kept = λ l. (refl, refl); added = λ l. absurd (omega arith) }

-- the row at the front, held by value, mended and put back
pub put_back : (r : ℕ) (b at c : List ℕ) (n : ℕ) (fixed : List ℕ) → 15 ≤ r → 255 ≤ length b → fixed ≡ mended_by (take 255 b) (entries at) (entries c) n
    → Finished r b at c n (r + n) (fixed ++ drop 255 b)
put_back r b at c n fixed l h f =
    record {
      kept = λ x. absurd (omega arith);
      added =
          λ x. (
            refl,
            ap (λ (l : List ℕ). l ++ drop 255 b) f
                ∙ sym (mended-front (take 255 b) (drop 255 b) (entries at) (entries c) n (length-take-le 255 b h))
                ∙ ap (λ (l : List ℕ). mended_by l (entries at) (entries c) n) (take-append-drop 255 b),
          );
    }

-- ---- what is known of the row at the front, and of those behind it

pub some-rows : (b : List ℕ) (i : ℕ) (rests : List ℕ) → Resting b i rests → (length b ≡ 0 → ⊥) → 255 ≤ length b
some-rows b i rests w h = let m : length b % 255 ≡ 0 = w.multiple in omega arith

pub row-known : (b : List ℕ) (i : ℕ) (rests : List ℕ) → Resting b i rests → 255 ≤ length b → take 16 (drop (i * 16) rests) ≡ remainder 239 (take 255 b)
row-known b i rests w h =
    let e : (i + 0) * 16 ≡ i * 16 = omega arith in
    ap (λ (k : ℕ). take 16 (drop k rests)) (sym e) ∙ w.left 0 (omega arith)

pub rows_behind : (b : List ℕ) (i : ℕ) (rests : List ℕ) → Resting b i rests → 255 ≤ length b → Resting (drop 255 b) (i + 1) rests
rows_behind b i rests w h =
    let n : length (drop 255 b) ≡ length b - 255 = length-drop 255 b in
    let m : length b % 255 ≡ 0 = w.multiple in
    record {
      multiple = omega arith;
      few = omega (arith, w.few);
      sized = w.sized;
      left = λ j l.
          let e : (i + 1 + j) * 16 ≡ (i + suc j) * 16 = omega arith in
          let f : suc j * 255 ≡ 255 + j * 255 = omega arith in
          ap (λ (k : ℕ). take 16 (drop k rests)) e ∙ w.left (suc j) (omega arith)
          ∙ ap (λ (l : List ℕ). remainder 239 (take 255 l)) (ap (λ (k : ℕ). drop k b) f ∙ sym (drop-drop (j * 255) 255 b));
    }

module _ (b : List ℕ) (some : 255 ≤ length b) (bytes : Bytes b) (rest : List ℕ) (left : rest ≡ remainder 239 (take 255 b)) where
  long : length (take 255 b) ≡ 255
  long = length-take-le 255 b some

  row-bytes : Bytes (take 255 b)
  row-bytes = (bytes_split 255 b bytes).0

  rest_long : length rest ≡ 16
  rest_long = ap length left ∙ length-remainder 239 (take 255 b) long

  rest_bytes : Bytes rest
  rest_bytes = subst Bytes (sym left) (remainder-bytes 239 (take 255 b) row-bytes)

  module _ (e : Errata) (told : Some e ≡ errata_of rest) where
    pub row-ordered : Ordered e.n e.at
    row-ordered = errata_ordered rest rest_long rest_bytes e told

    pub row-found : Found (take 255 b) (mended_by (take 255 b) (entries e.at) (entries e.values) e.n) e.n
    row-found = errata_found rest rest_long rest_bytes (take 255 b) long row-bytes left e told

  pub row-none : None ≡ errata_of rest → repair_of (take 255 b) ≡ none
  row-none = errata_none rest rest_long rest_bytes (take 255 b) long row-bytes left

-- ---- how much is counted: at most eight bytes in each row

pub ends-few : (b : List ℕ) (i : ℕ) (r : ℕ) (out : List ℕ) → Ends b (mend_rows (length b / 255) i b) r out → r ≤ 15 + length b / 255 * 8
ends-few b i r out = by (mend_rows (length b / 255) i b) refl
  where
    by : (m : Whole) → mend_rows (length b / 255) i b ≡ m → Ends b m r out → r ≤ 15 + length b / 255 * 8
    by (whole c k) e p = omega (arith, p.0, mend_few (length b / 255) i b c k e)
    by (broken k) e p = omega (arith, p.0, p.1)

-- in the rows behind the first, of fifteen
pub ended-few : (b : List ℕ) (i : ℕ) (rests : List ℕ) → Resting b i rests → 255 ≤ length b → (part : List ℕ) → part ≡ drop 255 b
    → (r : ℕ) (out : List ℕ) → Ends part (mend_rows (length part / 255) (i + 1) part) r out → r ≤ 127
ended-few b i rests w h part e r out p =
    let n : length part / 255 ≤ 14 = omega (arith, ap length e, length-drop 255 b, w.few) in
    omega (arith, ends-few part (i + 1) r out p)

-- ---- the call's ends

pub ended-mended : (r : ℕ) → 15 ≤ r → told_of r ≡ Ok (r - 15)
unfolding told_of
ended-mended r h = rw (le-ltb r 15 h) refl

pub ended-broken : (r : ℕ) → r < 15 → told_of r ≡ Err (Repair r)
unfolding told_of
ended-broken r h = rw (lt-ltb r 15 h) refl

ends_mends : (b : List ℕ) (m : Whole) (r : ℕ) (v : Result ℕ Refusal) (out : List ℕ) → Ends b m r out → v ≡ told_of r → Mends (mending_as b m) v out
ends_mends b (whole c k) r v out p e =
    let n : r - 15 ≡ k = omega (arith, p.0) in
    record { answers = e ∙ ended-mended r (omega (arith, p.0)) ∙ ap (λ (x : ℕ). Ok x) n; leaves = p.1 }
ends_mends b (broken i) r v out p e =
    record { answers = e ∙ ended-broken r (omega (arith, p.0, p.1)) ∙ ap (λ (k : ℕ). Err (Repair k)) p.1; leaves = p.2 }

pub mend_short : (b : List ℕ) → (length b % 255 ≡ 0 → ⊥) → Mends (mending_of b) (Err Short) b
unfolding mending_of
mend_short b h = rw (ne_eqb (length b % 255) 0 h) (record { answers = refl; leaves = refl })

module _ (b : List ℕ) (m : length b % 255 ≡ 0) where
  pub mend_long : 3825 < length b → Mends (mending_of b) (Err Short) b
  unfolding mending_of
  mend_long h = rw (eq-eqb (length b % 255) 0 m, lt-leb (length b) 3825 h) (record { answers = refl; leaves = refl })

  module _ (h : length b ≤ 3825) where
    pub mend_all : (r : ℕ) (v : Result ℕ Refusal) (out : List ℕ) → Ends b (mend_rows (length b / 255) 0 b) r out → v ≡ told_of r → Mends (mending_of b) v out
    unfolding mending_of
    mend_all r v out p e =
        rw (eq-eqb (length b % 255) 0 m, le-leb (length b) 3825 h) (ends_mends b (mend_rows (length b / 255) 0 b) r v out p e)

    pub all_resting : (rests : List ℕ) → rests ≡ remainders_of b → Resting b 0 rests
    all_resting rests e =
        let n : length b / 255 ≤ 15 = omega arith in
        record {
          multiple = m;
          few = omega arith;
          sized = ap length e ∙ length_remainders b;
          left = λ j l.
              let z : 0 + j ≡ j = omega arith in
              ap₂ (λ (x : List ℕ) (y : ℕ). take 16 (drop (y * 16) x)) e z
              ∙ rest_among b j (lt_of_lt_of_le l (le_of_eq (sym (min-eq_right n)))) ∙ rest_there b j (omega arith);
        }

-- ---- what an answer of `mend` tells of whole rows

module _ (b : List ℕ) (m : length b % 255 ≡ 0) (h : length b ≤ 3825) (v : Result ℕ Refusal) (out : List ℕ) (p : Mends (mending_of b) v out) where
  mended_as_lem : (w : Whole) → mend_rows (length b / 255) 0 b ≡ w → Mends (mending_as b w) v out
  unfolding mending_of
  mended_as_lem w e =
      subst (λ (x : Mending). Mends x v out) (rw (eq-eqb (length b % 255) 0 m, le-leb (length b) 3825 h) (ap (mending_as b) e)) p

  pub mend_accepted : (n : ℕ) → v ≡ Ok n → mend_rows (length b / 255) 0 b ≡ whole out n
  mend_accepted n e = by (mend_rows (length b / 255) 0 b) refl
    where
      by : (w : Whole) → mend_rows (length b / 255) 0 b ≡ w → w ≡ whole out n
      by (whole c k) f =
          let m = mended_as_lem (whole c k) f in
          let x : ◌≡◌ {A = Result ℕ Refusal} (Ok n) (Ok k) = sym e ∙ m.answers in
          let z : k ≡ n = cc in
          ap₂ whole (sym m.leaves) z
      by (broken i) f =
          let x : ◌≡◌ {A = Result ℕ Refusal} (Ok n) (Err (Repair i)) = sym e ∙ (mended_as_lem (broken i) f).answers in
          let z : ◌≡◌ {A = ℕ} 0 1 = cc in
          absurd (omega arith)

  pub mend_refused : (r : Refusal) → v ≡ Err r → (i : ℕ) × (r ≡ Repair i) × (mend_rows (length b / 255) 0 b ≡ broken i)
  mend_refused r e = by (mend_rows (length b / 255) 0 b) refl
    where
      by : (w : Whole) → mend_rows (length b / 255) 0 b ≡ w → (i : ℕ) × (r ≡ Repair i) × (w ≡ broken i)
      by (whole c k) f =
          let x : ◌≡◌ {A = Result ℕ Refusal} (Err r) (Ok k) = sym e ∙ (mended_as_lem (whole c k) f).answers in
          let z : ◌≡◌ {A = ℕ} 0 1 = cc in
          absurd (omega arith)
      by (broken i) f =
          let x : ◌≡◌ {A = Result ℕ Refusal} (Err r) (Err (Repair i)) = sym e ∙ (mended_as_lem (broken i) f).answers in
          (i, cc, refl)
