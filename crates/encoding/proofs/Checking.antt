-- Rows get their checks where they stand: what the loop of `put_checks` keeps.
-- Assumes nothing.
use mathlib.Core.Path.{◌≡◌, refl, sym, ap, ap₂, ◌∙◌, subst}
use mathlib.Core.Logic.{inr}
use mathlib.Core.List.{List}
use Prim.Native.Nat.{ℕ, ◌+◌, ◌*◌, ◌/◌, ◌<◌, ◌≤◌}
use native.Mathlib.Omega.{arith}
use lib.ListN.{length, get_or, length-append}
use lib.Seq.{sets}
use Rattle.ground.proofs.Writing.{sets-append}
use Rattle.ground.proofs.Pieces.{pieces, pieces_one, length-pieces, Laid, laid_start, laid_more, laid_done}
use Rattle.code.specs.Repair.{checks_of}
use Rattle.code.proofs.Division.{length_checks}
use Rattle.encoding.specs.Encode.{coded_row, checked_row, checked_of}
use Rattle.encoding.specs.InnerRegister.{part, checks_at, sealed}
use Rattle.encoding.proofs.Parts.{length_part, part_same, sets-beside, sets-again}

pub length-coded : (info : List ℕ) → length info ≡ 239 → length (coded_row info) ≡ 255
unfolding coded_row
length-coded info e = let f : length (checks_of info) ≡ 16 = length_checks info e in length-append info (checks_of info) ∙ omega arith

length_checked : (b : List ℕ) (i : ℕ) → length (checked_row b i) ≡ 255
unfolding checked_row
length_checked b i = length-coded (part b (i * 255) 239) (length_part b (i * 255) 239)

-- the checks alone are written: the information stands there
checks_written : (b : List ℕ) (o : ℕ) → o + 255 ≤ length b → sets b (o + 239) (checks_at b o) ≡ sets b o (coded_row (part b o 239))
unfolding coded_row checks_at
checks_written b o h =
    let info : List ℕ = part b o 239 in
    sym
    (sets-append b o info (checks_of info)
    ∙ ap₂ (λ (l : List ℕ) (k : ℕ). sets l (o + k) (checks_of info)) (sets-again b o 239 (omega arith)) (length_part b o 239))

-- r of n rows have their checks: what is left to write makes what all make, and behind those rows nothing has changed
pub record Checking (b₀ b : List ℕ) (n r : ℕ) : Type 0 where
  pub laid : Laid (checked_row b₀) 255 n 0 b₀ b r
  pub behind : (k : ℕ) → r * 255 ≤ k → get_or b k 0 ≡ get_or b₀ k 0

pub checking_start : (b : List ℕ) (n : ℕ) → Checking b b n 0
checking_start b n = record { laid = laid_start (checked_row b) 255 n 0 b; behind = λ k h. refl }

module _ (b₀ b : List ℕ) (n r : ℕ) (room : n * 255 ≤ length b₀) (c : Checking b₀ b n r) where
  -- the information of a row that is to come
  same_info : (o : ℕ) → r * 255 ≤ o → part b o 239 ≡ part b₀ o 239
  same_info o h = part_same b b₀ o 239 (λ k l m. c.behind k (omega arith))

  pub checking_more : (next q : List ℕ) → r < n → q ≡ checks_at b (r * 255) → next ≡ sets b (r * 255 + 239) q → Checking b₀ next n (r + 1)
  unfolding checked_row
  checking_more next q h e f =
      let o : ℕ = r * 255 in
      let z : r ≡ 0 + r = omega arith in
      let w : length b ≡ length b₀ = c.laid.long in
      let row : List ℕ = pieces (checked_row b₀) 1 (0 + r) in
      let s : length row ≡ 1 * 255 = length-pieces (checked_row b₀) 255 (length_checked b₀) 1 (0 + r) in
      let g : next ≡ sets b o row =
      f ∙ ap (sets b (o + 239)) e ∙ checks_written b o (omega arith)
      ∙ ap (sets b o) (ap coded_row (same_info o (omega arith)) ∙ ap (checked_row b₀) z ∙ sym (pieces_one (checked_row b₀) (0 + r))) in
      record {
        laid = laid_more (checked_row b₀) 255 (length_checked b₀) n 0 b₀ b next r 1 (omega arith) g c.laid;
        behind = λ k l. ap (λ (x : List ℕ). get_or x k 0) g ∙ sets-beside b o row k (inr (omega arith)) ∙ c.behind k (omega arith);
      }

  pub checking_done : n ≤ r → n ≡ length b₀ / 255 → b ≡ checked_of b₀
  unfolding checked_of
  checking_done h e = laid_done (checked_row b₀) 255 n 0 b₀ b r h c.laid ∙ ap (λ (k : ℕ). sets b₀ 0 (pieces (checked_row b₀) k 0)) e

-- the number of rows that are done, told otherwise
pub checking_at : (b₀ b : List ℕ) (n r s : ℕ) → s ≡ r → Checking b₀ b n r → Checking b₀ b n s
checking_at b₀ b n r s e c = subst (λ (k : ℕ). Checking b₀ b n k) (sym e) c

-- two rows at once: the first one's checks are no information of the second
pub checking_two : (b₀ b : List ℕ) (n r s : ℕ) → n * 255 ≤ length b₀ → Checking b₀ b n r → (next : List ℕ) → s ≡ r + 2 → s ≤ n → next ≡ sealed b (r * 255)
    → Checking b₀ next n s
unfolding sealed checks_at
checking_two b₀ b n r s room c next g h e =
    let o : ℕ = r * 255 in
    let x : List ℕ = sets b (o + 239) (checks_at b o) in
    let d : Checking b₀ x n (r + 1) = checking_more b₀ b n r room c x (checks_at b o) (omega arith) refl refl in
    let p : part b (o + 255) 239 ≡ part x (o + 255) 239 =
    same_info b₀ b n r room c (o + 255) (omega arith) ∙ sym (same_info b₀ x n (r + 1) room d (o + 255) (omega arith)) in
    let u : o + 255 ≡ (r + 1) * 255 = omega arith in
    let v : r + 1 + 1 ≡ s = omega arith in
    subst (Checking b₀ next n) v
    (checking_more b₀ x n (r + 1) room d next (checks_at x ((r + 1) * 255)) (omega arith) refl
    (e ∙ ap (λ (q : List ℕ). sets x (o + 255 + 239) (checks_of q)) p ∙ ap (λ (k : ℕ). sets x (k + 239) (checks_at x k)) u))
