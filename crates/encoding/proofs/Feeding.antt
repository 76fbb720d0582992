-- A row goes into the register word by word, the first word one byte short: what the loop of `register::checks` keeps, and what comes out.
-- Assumes nothing.
use mathlib.Core.Path.{◌≡◌, refl, sym, ap, ap₂, ◌∙◌}
use mathlib.Core.List.{List, [], ◌∷◌, ◌++◌}
use Prim.Native.Nat.{ℕ, ◌+◌, ◌-◌, ◌*◌, ◌/◌, ◌%◌, ◌^◌, ◌<◌, ◌≤◌}
use native.Mathlib.Omega.{arith}
use lib.ListN.{length, take, drop}
use lib.Seq.{length-sets, take_at}
use lib.Bits.{bit_xor}
use Rattle.ground.proofs.Listed.{listed-part, part_of_front}
use Rattle.ground.proofs.Writing.{sets-front}
use Rattle.ground.proofs.Pieces.{pieces, length-pieces, piece_at}
use native.Mathlib.Nat.{min-le_left}
use Rattle.code.specs.Code.{add}
use Rattle.code.specs.Search.{remainder}
use Rattle.code.specs.Register.{run}
use Rattle.code.specs.Repair.{checks_of}
use Rattle.code.proofs.Lists.{zeros, length_zeros}
use Rattle.code.proofs.Division.{length-remainder, remainder-row, run_checks}
use Rattle.encoding.specs.Encode.{rest_of, rows_in, remainders_of}
use Rattle.encoding.specs.InnerRegister.{part, unpack, both, checks_at, remainder_at, Feeding}
use Rattle.encoding.proofs.Parts.{part-append, length_part, part-whole}
use Rattle.encoding.proofs.Words.{length-unpack, unpack_push, unpack-top, both_zero, both-xor}
use Rattle.encoding.proofs.Turns.{run-append, next_zeros}

-- a word less its last byte
seven : (d : List ℕ) (at w : ℕ) → unpack 8 w ≡ part d at 8 → unpack 7 (w / 256) ≡ part d at 7
seven d at w e =
    let b : w % 256 < 256 = omega arith in
    let s : w ≡ w / 256 * 256 + w % 256 = omega arith in
    sym (take_at (unpack 7 (w / 256)) (w % 256 ∷ []) 7 (length-unpack 7 (w / 256)))
    ∙ ap (take 7) (sym (ap (unpack 8) s ∙ unpack_push 7 (w / 256) (w % 256) b) ∙ e)

short : (d : List ℕ) (at w : ℕ) → w < 2 ^ 64 → unpack 8 w ≡ part d at 8 → run (both 0 0) (unpack 8 (w / 256)) ≡ run (zeros 16) (part d at 7)
unfolding run
short d at w h e =
    ap₂ run both_zero (unpack-top (w / 256) (omega arith) ∙ ap (λ (l : List ℕ). 0 ∷ l) (seven d at w e))
    ∙ ap (λ (r : List ℕ). run r (part d at 7)) next_zeros

pub feeding_start : (d : List ℕ) (at w : ℕ) (r : List ℕ) → w < 2 ^ 64 → unpack 8 w ≡ part d at 8 → r ≡ run (both 0 0) (unpack 8 (w / 256)) → Feeding d at r 0
feeding_start d at w r h e q =
    let o : at + 0 + 7 ≡ at + 7 = omega arith in
    record {
      within = omega arith;
      left =
          ap₂ (λ (l : List ℕ) (j : ℕ). run l (part d j 232)) (q ∙ short d at w h e) o
          ∙ sym (run-append (zeros 16) (part d at 7) (part d (at + 7) 232)) ∙ ap (run (zeros 16)) (sym (part-append d at 7 232));
    }

pub feeding_more : (d : List ℕ) (at w k : ℕ) (r s : List ℕ) → k < 29 → unpack 8 w ≡ part d (at + 8 * k + 7) 8 → s ≡ run r (unpack 8 w) → Feeding d at r k
    → Feeding d at s (k + 1)
feeding_more d at w k r s h e q f =
    let i : ℕ = at + 8 * k + 7 in
    let n : ℕ = 8 * (29 - (k + 1)) in
    let o : at + 8 * (k + 1) + 7 ≡ i + 8 = omega arith in
    let p : 8 + n ≡ 8 * (29 - k) = omega arith in
    record {
      within = omega arith;
      left =
          ap₂ (λ (l : List ℕ) (j : ℕ). run l (part d j n)) (q ∙ ap (run r) e) o
          ∙ sym (run-append r (part d i 8) (part d (i + 8) n)) ∙ ap (run r) (sym (part-append d i 8 n) ∙ ap (part d i) p)
          ∙ f.left;
    }

pub feeding_done : (d : List ℕ) (at k : ℕ) (r : List ℕ) → 29 ≤ k → Feeding d at r k → r ≡ checks_at d at
unfolding checks_at run
feeding_done d at k r h f =
    let m : k ≤ 29 = f.within in
    let e : 8 * (29 - k) ≡ 0 = omega arith in
    ap (λ (n : ℕ). run r (part d (at + 8 * k + 7) n)) (sym e) ∙ f.left ∙ run_checks (part d at 239) (length_part d at 239)

-- of a list that has no more
pub checks_whole : (d : List ℕ) → length d ≡ 239 → checks_at d 0 ≡ checks_of d
unfolding checks_at
checks_whole d e = ap checks_of (part-whole d 239 e)

-- the checks of a row, less those that came with it
pub rest_is : (d : List ℕ) (at h l x y : ℕ) → both h l ≡ checks_at d at → unpack 8 x ≡ part d (at + 239) 8 → unpack 8 y ≡ part d (at + 247) 8
    → both (bit_xor h x) (bit_xor l y) ≡ remainder_at d at
unfolding both checks_at remainder_at
rest_is d at h l x y e u v =
    let o : at + 247 ≡ at + 239 + 8 = omega arith in
    both-xor h l x y
    ∙ ap₂ add e
    (ap₂ ◌++◌ u (v ∙ ap (λ (i : ℕ). part d i 8) o) ∙ sym (part-append d (at + 239) 8 8))
    ∙ sym (remainder-row (part d at 239) (part d (at + 239) 16) (length_part d at 239) (length_part d (at + 239) 16))
    ∙ ap (remainder 239) (sym (part-append d at 239 16))

-- ---- what row i of some bytes leaves

pub length_rest : (b : List ℕ) (i : ℕ) → length (rest_of b i) ≡ 16
unfolding rest_of
length_rest b i = length-remainder 239 (part b (i * 255) 255) (length_part b (i * 255) 255)

pub rest_there : (b : List ℕ) (i : ℕ) → i * 255 + 255 ≤ length b → rest_of b i ≡ remainder 239 (take 255 (drop (i * 255) b))
unfolding rest_of
rest_there b i h = ap (remainder 239) (listed-part b 0 255 (i * 255) h)

-- among the remainders, row j stands where it must
pub rest_among : (b : List ℕ) (j : ℕ) → j < rows_in b → take 16 (drop (j * 16) (remainders_of b)) ≡ rest_of b j
unfolding remainders_of
rest_among b j h =
    let p : List ℕ = pieces (rest_of b) (rows_in b) 0 in
    let n : length p ≡ rows_in b * 16 = length-pieces (rest_of b) 16 (length_rest b) (rows_in b) 0 in
    let o : rows_in b ≤ 15 = min-le_left 15 (length b / 255) in
    let z : length (zeros 240) ≡ 240 = length_zeros 240 in
    ap (λ (l : List ℕ). take 16 (drop (j * 16) l)) (sets-front (zeros 240) p (omega arith))
    ∙ sym (part_of_front 16 (j * 16) (length p) (p ++ drop (length p) (zeros 240)) (omega arith))
    ∙ ap (λ (l : List ℕ). take 16 (drop (j * 16) l)) (take_at p (drop (length p) (zeros 240)) (length p) refl)
    ∙ piece_at (rest_of b) 16 (length_rest b) (rows_in b) j h

pub length_remainders : (b : List ℕ) → length (remainders_of b) ≡ 240
unfolding remainders_of
length_remainders b = length-sets (zeros 240) 0 (pieces (rest_of b) (rows_in b) 0) ∙ length_zeros 240
