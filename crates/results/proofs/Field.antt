-- One result (document 01, section 7) of each public call of crate field, by that call's own contract.
-- Assumes nothing.
use borrow.Fn.Kinds.{ended_of}
use mathlib.Core.Path.{◌≡◌, refl, sym, ap, ◌∙◌}
use mathlib.Core.Bool.{Bool, true, false}
use mathlib.Core.List.{List}
use Prim.Native.Nat.{ℕ}
use lib.Dec.{eqb}
use lib.Seq.{ext_get_or}
use borrow.Author.Tests.{eqb-true, eqb-false}
use Rattle.ground.proofs.OneResult.{equation}
use Rattle.field.specs.Field.{product, Inverse}
use Rattle.field.specs.Tables.{Powers}
use Rattle.field.specs.Words.{entry}
use Rattle.field.proofs.InWords.{same_bytes, same_entries}
use Rattle.field.proofs.Laws.{product_comm, product_assoc, product_one}
use Rattle.results.specs.OneResult.{OneResult}
use Rattle.field.proofs as field

same_powers : (r s : List ℕ) → Powers r → Powers s → r ≡ s
same_powers r s p q = ext_get_or 0 r s (p.room ∙ sym q.room) (λ i h. p.entry i (rw p.room at h) ∙ sym (q.entry i (rw p.room at h)))

-- r = (a·s)·r = (a·r)·s = s
same_inverse : (a r s : ℕ) → Inverse a r → Inverse a s → r ≡ s
same_inverse a r s p q = split (eqb a 0) refl
  where
    split : (t : Bool) → eqb a 0 ≡ t → r ≡ s
    split true e = p.of_zero (eqb-true a 0 e) ∙ sym (q.of_zero (eqb-true a 0 e))
    split false e =
        sym (product_one r p.byte)
        ∙ ap (λ (x : ℕ). product x r) (sym (q.of_other (eqb-false a 0 e)))
        ∙ product_assoc a s r
        ∙ ap (product a) (product_comm s r)
        ∙ sym (product_assoc a r s)
        ∙ ap (λ (x : ℕ). product x s) (p.of_other (eqb-false a 0 e))
        ∙ product_one s q.byte

pub powers_one : OneResult (ended_of _ field.powers.Kinds.ps field.powers.Kinds.r) field.powers.Reads.Learnt
powers_one κs a r s d e p q = (same_powers r s p q, refl)

pub doubles_one : OneResult (ended_of _ field.doubles.Kinds.ps field.doubles.Kinds.r) field.doubles.Reads.Learnt
doubles_one κs a r s d e p q = (same_bytes r s p.word q.word (λ k h. equation (p.entry k h) (q.entry k h)), refl)

pub products_one : OneResult (ended_of _ field.products.Kinds.ps field.products.Kinds.r) field.products.Reads.Learnt
products_one κs a r s d e p q = (same_entries r s p.words q.words (λ k h. equation (p.entry k h) (q.entry k h)), refl)

pub inverses_one : OneResult (ended_of _ field.inverses.Kinds.ps field.inverses.Kinds.r) field.inverses.Reads.Learnt
inverses_one κs a r s d e p q = (same_entries r s p.words q.words (λ k h. same_inverse (entry a.0 k) (entry r k) (entry s k) (p.entry k h) (q.entry k h)), refl)

pub mul-one : OneResult (ended_of _ field.mul.Kinds.ps field.mul.Kinds.r) field.mul.Reads.Learnt
mul-one κs a r s d e p q = (equation p q, refl)

pub inverse_one : OneResult (ended_of _ field.inverse.Kinds.ps field.inverse.Kinds.r) field.inverse.Reads.Learnt
inverse_one κs a r s d e p q = (same_inverse a.0 r s p q, refl)
