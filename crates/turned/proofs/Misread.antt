-- Our definitions are not the misreadings of document 01, section 9: an input on which each differs.
-- Assumes nothing.
use mathlib.Core.Path.{◌≡◌, refl, sym, ap, ◌∙◌}
use mathlib.Core.Bool.{Bool, true, false, cond, true≢false}
use mathlib.Core.List.{List, [], ◌∷◌, ◌++◌, flatten}
use Prim.Native.Nat.{ℕ, ◌+◌}
use native.Mathlib.Omega.{arith}
use lib.ListN.{length, get_or, replicate}
use Rattle.ground.specs.Bits.{sum}
use Rattle.field.specs.Field.{product, carryless, reduce}
use Rattle.crc.specs.Crc.{bit, bits, feed, crc, crc32_of}
use Rattle.code.specs.Code.{add, scale, distance}
use Rattle.code.specs.Search.{Repaired, lower, remainder}
use Rattle.code.specs.Repair.{checks_of}
use Rattle.code.proofs.Exact.{repair-found}
use Rattle.layout.specs.Layout.{info_of, row_of, coded_file, undone}
use Rattle.layout.proofs.Coded.{undone-coded}
use Rattle.sealing.specs.Sealing.{four_bytes}
use Rattle.code.specs.Mend.{whole, behind, mend_rows}
use Rattle.record.specs.Mend.{mended_in}
use Rattle.sealing.specs.Sealing.{agrees}
use Rattle.handing.specs.Hand.{hand_rows}
use Rattle.handing.proofs.HandLaws.{rows-coded}
use Rattle.turned.proofs.Turned.{zero_row, wrong_row, wrong-near, wrong-bytes}
use Rattle.turned.specs.Misreadings.{info_by_rows, information_first, agrees_before, kept_if_fits, cut_zeros}
use Rattle.std.specs.Prelude.{Ok}

abbrev five : List ℕ
five = 10 ∷ 11 ∷ 12 ∷ 13 ∷ 14 ∷ []

-- filled by columns, row 0 of two goes on with 12; by rows it would go on with 11
pub not_by_rows : info_by_rows 2 five 0 0 ≡ info_of 2 five 0 0 → ⊥
unfolding info_by_rows info_of
not_by_rows e = let z : ◌≡◌ {A = ℕ} 11 12 = ap (λ (l : List ℕ). get_or l 1 0) e in omega arith

-- behind the 239 bytes of row 0 its checks follow, which are 0 here; the next row's first byte would be 1
pub not_information_first : information_first 2 (0 ∷ 1 ∷ []) ≡ coded_file 0 2 (0 ∷ 1 ∷ []) → ⊥
unfolding information_first coded_file info_of row_of checks_of remainder add scale lower product carryless reduce sum flatten
not_information_first e = let z : ◌≡◌ {A = ℕ} 1 0 = ap (λ (l : List ℕ). get_or l 239 0) e in omega arith

-- a row with one wrong byte, under the CRC of the repaired row and under that of the row as it is
abbrev under : List ℕ → List ℕ
under row = replicate 14 0 ++ (wrong_row ++ four_bytes (crc32_of (replicate 14 0 ++ row)))

agrees_after : agrees (under zero_row) zero_row ≡ true
unfolding agrees crc feed bits bit sum
agrees_after = refl

not_agrees-before : agrees_before (under zero_row) ≡ false
unfolding agrees_before agrees crc feed bits bit sum
not_agrees-before = refl

-- the CRC is tested after repair: the packet agrees, though what was received does not
pub not_before : agrees_before (under zero_row) ≡ agrees (under zero_row) zero_row → ⊥
not_before e = true≢false (sym agrees_after ∙ sym e ∙ not_agrees-before)

-- a row is repaired though the CRC fits it as it is
fits-before : agrees_before (under wrong_row) ≡ true
unfolding agrees_before agrees crc feed bits bit sum
fits-before = refl

mended-all_the_same : mended_in 1 (under wrong_row) ≡ whole (zero_row ++ []) (distance wrong_row zero_row + 0)
unfolding mended_in mend_rows
mended-all_the_same = ap (λ (a : Repaired). behind wrong_row a 0 (whole [] 0)) (repair-found wrong_row zero_row refl wrong-bytes wrong-near)

pub not_kept : kept_if_fits (under wrong_row) ≡ mended_in 1 (under wrong_row) → ⊥
unfolding kept_if_fits
not_kept e =
    let f : whole wrong_row 0 ≡ whole (zero_row ++ []) (distance wrong_row zero_row + 0) =
    sym (ap (λ (t : Bool). cond t (whole wrong_row 0) (mended_in 1 (under wrong_row))) fits-before) ∙ e ∙ mended-all_the_same in
    let g : wrong_row ≡ zero_row ++ [] = cc in
    let z : ◌≡◌ {A = ℕ} 1 0 = ap (λ (l : List ℕ). get_or l 0 0) g in
    omega arith

-- a file of 7 and 0 is handed out of its tables with its 0; what they hold, cut at the last nonzero byte, is another
abbrev ending : List ℕ
ending = 7 ∷ 0 ∷ []

pub zeros_handed : hand_rows 1 (coded_file 0 1 ending) 2 (9 ∷ 9 ∷ []) ≡ record { answer = (Ok tt); output = ending }
zeros_handed = rows-coded 1 (omega arith) ending (9 ∷ 9 ∷ []) (omega arith)

pub not_cut : cut_zeros (undone 0 1 (coded_file 0 1 ending) 239 0) ≡ ending → ⊥
not_cut e =
    let cut : cut_zeros (undone 0 1 (coded_file 0 1 ending) 239 0) ≡ 7 ∷ [] = ap cut_zeros (undone-coded 0 1 (omega arith) ending) in
    let z : ◌≡◌ {A = ℕ} 1 2 = ap length (sym cut ∙ e) in
    omega arith
