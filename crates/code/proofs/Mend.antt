-- What the repair of rows comes to, said by `Near` (document 01, section 5, Offer, and demand 2 of each row): where it is whole, each row is the coded row within eight bytes of
-- the row that came, and what is counted is how much they differ, row by row; it is broken at row k exactly if that row has none and each before it has one. Assumes nothing.
use mathlib.Core.Path.{◌≡◌, refl, sym, ap, ap₂, ◌∙◌}
use mathlib.Core.List.{List, [], ◌∷◌, ◌++◌}
use Prim.Native.Nat.{ℕ, zero, suc, ◌+◌, ◌-◌, ◌*◌, ◌≤◌, ◌<◌}
use native.Mathlib.Nat.{add-zero}
use native.Mathlib.Omega.{arith}
use lib.ListN.{length, take, drop, length-append, length-drop, take-append-drop}
use lib.Seq.{length-take-le, drop-drop, take_at, drop_at}
use Rattle.code.specs.Code.{Bytes, distance}
use Rattle.code.specs.Search.{Repaired}
use Rattle.code.specs.Search.Repaired.{found, none}
use Rattle.code.specs.Repair.{Near, repair_of}
use Rattle.code.specs.Mend.{Mended, whole, broken, behind, mend_rows, altered_in}
use Rattle.code.proofs.Lists.{bytes-parts}
use Rattle.code.proofs.Exact.{repair-near, repair-found, repair-none, none-near}

-- row j of some bytes
abbrev pub row_of : List ℕ → ℕ → List ℕ
row_of b j = take 255 (drop (j * 255) b)

pub row_next : (b : List ℕ) (j : ℕ) → row_of (drop 255 b) j ≡ row_of b (suc j)
row_next b j =
    let e : 255 + j * 255 ≡ suc j * 255 = omega arith in
    ap (take 255) (drop-drop (j * 255) 255 b ∙ ap (λ (x : ℕ). drop x b) e)

pub bytes_split : (n : ℕ) (l : List ℕ) → Bytes l → Bytes (take n l) × Bytes (drop n l)
bytes_split n l y = bytes-parts (take n l) (drop n l) (rw (take-append-drop n l) y)

pub none_left : (l : List ℕ) → length l ≡ 0 → [] ≡ l
none_left [] e = refl
none_left (x ∷ l) e = absurd (omega arith)

-- ---- the first of some rows, and the others
pub mend_first : (n i : ℕ) (b : List ℕ) → 0 < n → mend_rows n i b ≡ behind (take 255 b) (repair_of (take 255 b)) i (mend_rows (n - 1) (suc i) (drop 255 b))
unfolding mend_rows
mend_first n i b h = let e : n ≡ suc (n - 1) = omega arith in ap (λ (m : ℕ). mend_rows m i b) e

-- ---- rows, each within eight bytes of a coded row, come to those coded rows
pub mend_whole : (n i : ℕ) (b c : List ℕ) → Bytes b → length b ≡ n * 255 → length c ≡ n * 255
    → ((j : ℕ) → j < n → Near (row_of b j) (row_of c j)) → mend_rows n i b ≡ whole c (altered_in n b c)
unfolding mend_rows altered_in
mend_whole zero i b c y e d near = ap (λ (l : List ℕ). whole l 0) (none_left c d)
mend_whole (suc n) i b c y e d near =
    let first : repair_of (take 255 b) ≡ found (take 255 c) =
    repair-found (take 255 b) (take 255 c) (length-take-le 255 b (omega arith)) (bytes_split 255 b y).0 (near 0 (omega arith)) in
    let rest : mend_rows n (suc i) (drop 255 b) ≡ whole (drop 255 c) (altered_in n (drop 255 b) (drop 255 c)) =
    mend_whole n (suc i) (drop 255 b) (drop 255 c) (bytes_split 255 b y).1 (length-drop 255 b ∙ omega arith) (length-drop 255 c ∙ omega arith)
    (λ j h. rw (row_next b j, row_next c j) (near (suc j) (omega arith))) in
    ap₂ (λ (x : Repaired) (m : Mended). behind (take 255 b) x i m) first rest
    ∙ ap (λ (l : List ℕ). whole l (distance (take 255 b) (take 255 c) + altered_in n (drop 255 b) (drop 255 c))) (take-append-drop 255 c)

-- ---- the length stays
pub mend_length : (n i : ℕ) (b c : List ℕ) (k : ℕ) → mend_rows n i b ≡ whole c k → length c ≡ n * 255
unfolding mend_rows
mend_length zero i b c k e = let w : [] ≡ c = cc in ap length (sym w)
mend_length (suc n) i b c k e = by (repair_of (take 255 b)) refl (mend_rows n (suc i) (drop 255 b)) refl e (mend_length n (suc i) (drop 255 b))
  where
    by : (a : Repaired) → repair_of (take 255 b) ≡ a → (m : Mended) → mend_rows n (suc i) (drop 255 b) ≡ m → behind (take 255 b) a i m ≡ whole c k
        → ((d : List ℕ) (j : ℕ) → mend_rows n (suc i) (drop 255 b) ≡ whole d j → length d ≡ n * 255) → length c ≡ suc n * 255
    by (found s) p (whole d j) r e ih =
        let w : s ++ d ≡ c = cc in
        let x : length s ≡ 255 = (repair-near (take 255 b) s p).coded.sized in
        let y : length d ≡ n * 255 = ih d j r in
        let z : length c ≡ length s + length d = ap length (sym w) ∙ length-append s d in
        omega arith
    by (found s) p (broken j) r e ih = let z : ◌≡◌ {A = ℕ} 0 1 = cc in absurd (omega arith)
    by none p m r e ih = let z : ◌≡◌ {A = ℕ} 0 1 = cc in absurd (omega arith)

-- ---- whole: each row is near

pub mend_near : (n i : ℕ) (b c : List ℕ) (k : ℕ) → mend_rows n i b ≡ whole c k → (j : ℕ) → j < n → Near (row_of b j) (row_of c j)
unfolding mend_rows
mend_near zero i b c k e = λ j l. absurd (omega arith)
mend_near (suc n) i b c k e = by (repair_of (take 255 b)) refl (mend_rows n (suc i) (drop 255 b)) refl e (mend_near n (suc i) (drop 255 b))
  where
    at : (s d : List ℕ) → Near (take 255 b) s → s ++ d ≡ c → ((j : ℕ) → j < n → Near (row_of (drop 255 b) j) (row_of d j)) → (j : ℕ) → j < suc n → Near (row_of b j) (row_of c j)
    at s d near w ih zero l = rw (← w, take_at s d 255 near.coded.sized) near
    at s d near w ih (suc j) l =
        let e : row_of d j ≡ row_of c (suc j) = ap (λ (x : List ℕ). row_of x j) (sym (drop_at s d 255 near.coded.sized) ∙ ap (drop 255) w) ∙ row_next c j in
        rw (← row_next b j, ← e) (ih j (omega arith))

    by : (a : Repaired) → repair_of (take 255 b) ≡ a → (m : Mended) → mend_rows n (suc i) (drop 255 b) ≡ m → behind (take 255 b) a i m ≡ whole c k
        → ((d : List ℕ) (x : ℕ) → mend_rows n (suc i) (drop 255 b) ≡ whole d x → (j : ℕ) → j < n → Near (row_of (drop 255 b) j) (row_of d j))
        → (j : ℕ) → j < suc n → Near (row_of b j) (row_of c j)
    by (found s) p (whole d x) r e ih = let w : s ++ d ≡ c = cc in at s d (repair-near (take 255 b) s p) w (ih d x r)
    by (found s) p (broken x) r e ih = let z : ◌≡◌ {A = ℕ} 0 1 = cc in absurd (omega arith)
    by none p m r e ih = let z : ◌≡◌ {A = ℕ} 0 1 = cc in absurd (omega arith)

-- ---- whole: what is counted is how much the rows differ, at most eight bytes in each

pub mend_altered : (n i : ℕ) (b c : List ℕ) (k : ℕ) → mend_rows n i b ≡ whole c k → k ≡ altered_in n b c
unfolding mend_rows altered_in
mend_altered zero i b c k e = cc
mend_altered (suc n) i b c k e = by (repair_of (take 255 b)) refl (mend_rows n (suc i) (drop 255 b)) refl e (mend_altered n (suc i) (drop 255 b))
  where
    by : (a : Repaired) → repair_of (take 255 b) ≡ a → (m : Mended) → mend_rows n (suc i) (drop 255 b) ≡ m → behind (take 255 b) a i m ≡ whole c k
        → ((d : List ℕ) (x : ℕ) → mend_rows n (suc i) (drop 255 b) ≡ whole d x → x ≡ altered_in n (drop 255 b) d)
        → k ≡ distance (take 255 b) (take 255 c) + altered_in n (drop 255 b) (drop 255 c)
    by (found s) p (whole d x) r e ih =
        let w : s ++ d ≡ c = cc in
        let v : distance (take 255 b) s + x ≡ k = cc in
        let long : length s ≡ 255 = (repair-near (take 255 b) s p).coded.sized in
        sym v ∙ ap (λ (y : ℕ). distance (take 255 b) s + y) (ih d x r)
        ∙ ap₂ (λ (y z : List ℕ). distance (take 255 b) y + altered_in n (drop 255 b) z)
        (sym (take_at s d 255 long) ∙ ap (take 255) w) (sym (drop_at s d 255 long) ∙ ap (drop 255) w)
    by (found s) p (broken x) r e ih = let z : ◌≡◌ {A = ℕ} 0 1 = cc in absurd (omega arith)
    by none p m r e ih = let z : ◌≡◌ {A = ℕ} 0 1 = cc in absurd (omega arith)

altered_few : (n : ℕ) (b c : List ℕ) → ((j : ℕ) → j < n → distance (row_of b j) (row_of c j) ≤ 8) → altered_in n b c ≤ n * 8
unfolding altered_in
altered_few zero b c close = omega arith
altered_few (suc n) b c close =
    let first : distance (take 255 b) (take 255 c) ≤ 8 = close 0 (omega arith) in
    let rest : altered_in n (drop 255 b) (drop 255 c) ≤ n * 8 =
    altered_few n (drop 255 b) (drop 255 c) (λ j h. rw (row_next b j, row_next c j) (close (suc j) (omega arith))) in
    omega arith

pub mend_few : (n i : ℕ) (b c : List ℕ) (k : ℕ) → mend_rows n i b ≡ whole c k → k ≤ n * 8
mend_few n i b c k e =
    omega (arith, mend_altered n i b c k e, altered_few n b c (λ j h. (mend_near n i b c k e j h).close))

-- ---- broken: at the first row that has none

-- row j of the n rows of b is that row
pub record FirstLost (n : ℕ) (b : List ℕ) (j : ℕ) : Type 0 where
  pub within : j < n
  pub lost : (s : List ℕ) → Near (row_of b j) s → ⊥
  pub before : (k : ℕ) → k < j → (s : List ℕ) × Near (row_of b k) s

-- one row more in front, which has one
lost-next : (n : ℕ) (b : List ℕ) (j : ℕ) → (s : List ℕ) × Near (take 255 b) s → FirstLost n (drop 255 b) j → FirstLost (suc n) b (suc j)
lost-next n b j first f = record {
  within = omega (arith, f.within);
  lost = λ s w. f.lost s (rw (row_next b j) w);
  before = before;
}
  where
    before : (k : ℕ) → k < suc j → (s : List ℕ) × Near (row_of b k) s
    before zero l = first
    before (suc k) l = rw (row_next b k) at (f.before k (omega arith))

pub mend_broken : (n i : ℕ) (b : List ℕ) (k : ℕ) → Bytes b → length b ≡ n * 255 → mend_rows n i b ≡ broken k → (j : ℕ) × (k ≡ i + j) × FirstLost n b j
unfolding mend_rows
mend_broken zero i b k y l e = let z : ◌≡◌ {A = ℕ} 0 1 = cc in absurd (omega arith)
mend_broken (suc n) i b k y l e =
    by (repair_of (take 255 b)) refl (mend_rows n (suc i) (drop 255 b)) refl e
    (mend_broken n (suc i) (drop 255 b) k (bytes_split 255 b y).1 (length-drop 255 b ∙ omega arith))
  where
    by : (a : Repaired) → repair_of (take 255 b) ≡ a → (m : Mended) → mend_rows n (suc i) (drop 255 b) ≡ m → behind (take 255 b) a i m ≡ broken k
        → (mend_rows n (suc i) (drop 255 b) ≡ broken k → (j : ℕ) × (k ≡ suc i + j) × FirstLost n (drop 255 b) j)
        → (j : ℕ) × (k ≡ i + j) × FirstLost (suc n) b j
    by (found s) p (whole d x) r e ih = let z : ◌≡◌ {A = ℕ} 0 1 = cc in absurd (omega arith)
    by (found s) p (broken m) r e ih =
        let f = ih (r ∙ e) in
        (suc f.0, omega (arith, f.1), lost-next n b f.0 (s, repair-near (take 255 b) s p) f.2)
    by none p m r e ih =
        let w : i ≡ k = cc in (
          0,
          omega arith,
          record {
            within = omega arith;
            lost = none-near (take 255 b) (length-take-le 255 b (omega arith)) (bytes_split 255 b y).0 p;
            before = λ x h. absurd (omega arith);
          },
        )

pub broken_mend : (n i : ℕ) (b : List ℕ) (j : ℕ) → Bytes b → length b ≡ n * 255 → FirstLost n b j → mend_rows n i b ≡ broken (i + j)
unfolding mend_rows
broken_mend zero i b j y l f = absurd (omega (arith, f.within))
broken_mend (suc n) i b zero y l f =
    ap (λ (a : Repaired). behind (take 255 b) a i (mend_rows n (suc i) (drop 255 b))) (repair-none (take 255 b) (length-take-le 255 b (omega arith)) (bytes_split 255 b y).0 f.lost)
    ∙ ap broken (sym (add-zero i))
broken_mend (suc n) i b (suc j) y l f =
    let first = f.before 0 (omega arith) in
    let rest : mend_rows n (suc i) (drop 255 b) ≡ broken (suc i + j) =
    broken_mend n (suc i) (drop 255 b) j (bytes_split 255 b y).1 (length-drop 255 b ∙ omega arith) (record {
      within = omega (arith, f.within);
      lost = λ s w. f.lost s (rw (row_next b j) at w);
      before = λ k h. rw (row_next b k) (f.before (suc k) (omega arith));
    }) in
    let e : suc i + j ≡ i + suc j = omega arith in
    ap₂ (λ (a : Repaired) (m : Mended). behind (take 255 b) a i m) (repair-found (take 255 b) first.0 (length-take-le 255 b (omega arith)) (bytes_split 255 b y).0 first.1) rest
    ∙ ap broken e
