-- Bytes read into a word, and a word's bytes written.
-- Assumes nothing.
use mathlib.Core.Path.{◌≡◌, refl, sym, ap, ap₂, ◌∙◌}
use mathlib.Core.List.{List, [], ◌∷◌, ◌++◌, append_assoc}
use Prim.Native.Nat.{ℕ, zero, suc, ◌+◌, ◌-◌, ◌<◌, ◌≤◌}
use native.Mathlib.Nat.{div-one}
use native.Mathlib.Omega.{arith}
use lib.ListN.{length, get_or, take}
use lib.Seq.{sets, drop-drop}
use borrow.Rule.Slice.PartMut.{put_mid}
use Rattle.std.specs.Int.{w64, to_be_bytes, from_be_bytes}
use Rattle.std.proofs.lemmas.Nat.{be_bytes_8}
use Rattle.std.proofs.lemmas.List.Edits.{sets-eq}
use Rattle.ground.proofs.Writing.{sets-append}
use Rattle.encoding.specs.InnerRegister.{part, unpack, both}
use Rattle.encoding.proofs.Words.{length-unpack}

-- ---- a word's bytes

pub bytes_of : (w : ℕ) → to_be_bytes w64 w ≡ unpack 8 w
unfolding unpack
bytes_of w = rw div-one

-- the eight bytes of d from `at` on, as the code has them
module _ (d : List ℕ) (at : ℕ) where
  abbrev eight : List ℕ
  eight = get_or d at 0 ∷ get_or d (at + 1) 0 ∷ get_or d (at + 2) 0 ∷ get_or d (at + 3) 0 ∷ get_or d (at + 4) 0 ∷ get_or d (at + 5) 0 ∷ get_or d (at + 6) 0 ∷ get_or d (at + 7) 0 ∷ []

  eight_part : eight ≡ part d at 8
  eight_part =
      let e1 : at + 1 ≡ suc at = omega arith in
      let e2 : at + 2 ≡ suc (suc at) = omega arith in
      let e3 : at + 3 ≡ suc (suc (suc at)) = omega arith in
      let e4 : at + 4 ≡ suc (suc (suc (suc at))) = omega arith in
      let e5 : at + 5 ≡ suc (suc (suc (suc (suc at)))) = omega arith in
      let e6 : at + 6 ≡ suc (suc (suc (suc (suc (suc at))))) = omega arith in
      let e7 : at + 7 ≡ suc (suc (suc (suc (suc (suc (suc at)))))) = omega arith in
      λ i. get_or d at 0 ∷ get_or d (e1 i) 0 ∷ get_or d (e2 i) 0 ∷ get_or d (e3 i) 0 ∷ get_or d (e4 i) 0 ∷ get_or d (e5 i) 0 ∷ get_or d (e6 i) 0 ∷ get_or d (e7 i) 0 ∷ []

  module _ (fit : (k : ℕ) → get_or d k 0 < 256) where
    small : (i : ℕ) → get_or eight i 0 < 256
    small zero = fit at
    small (suc zero) = fit (at + 1)
    small (suc (suc zero)) = fit (at + 2)
    small (suc (suc (suc zero))) = fit (at + 3)
    small (suc (suc (suc (suc zero)))) = fit (at + 4)
    small (suc (suc (suc (suc (suc zero))))) = fit (at + 5)
    small (suc (suc (suc (suc (suc (suc zero)))))) = fit (at + 6)
    small (suc (suc (suc (suc (suc (suc (suc zero))))))) = fit (at + 7)
    small (suc (suc (suc (suc (suc (suc (suc (suc i)))))))) = omega arith

    pub word_is : (w : ℕ) → w ≡ from_be_bytes w64 eight → unpack 8 w ≡ part d at 8
    word_is w e = sym (bytes_of w) ∙ be_bytes_8 eight w refl small e ∙ eight_part

-- eight bytes in the place of those that stand from `at` on
pub put_back : (out bytes : List ℕ) (at w : ℕ) → at + 8 ≤ length out → bytes ≡ unpack 8 w → put_mid at (at + 8 - at) out bytes ≡ sets out at (unpack 8 w)
put_back out bytes at w h e =
    let k : at + 8 - at ≡ length (unpack 8 w) = omega (arith, length-unpack 8 w) in
    ap₂ (λ (n : ℕ) (l : List ℕ). put_mid at n out l) k e
    ∙ ap (λ (l : List ℕ). take at out ++ (unpack 8 w ++ l)) (drop-drop (length (unpack 8 w)) at out)
    ∙ sym (append_assoc (take at out) (unpack 8 w) _) ∙ sym (sets-eq (unpack 8 w) out at (omega (arith, length-unpack 8 w)))

pub put_both : (out : List ℕ) (at h l : ℕ) → sets (sets out at (unpack 8 h)) (at + 8) (unpack 8 l) ≡ sets out at (both h l)
unfolding both
put_both out at h l =
    ap (λ (n : ℕ). sets (sets out at (unpack 8 h)) (at + n) (unpack 8 l)) (sym (length-unpack 8 h))
    ∙ sym (sets-append out at (unpack 8 h) (unpack 8 l))
