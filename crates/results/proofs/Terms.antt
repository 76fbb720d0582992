-- One result (document 01, section 7) of each public call of crate terms, by that call's own contract.
-- Assumes nothing.
use borrow.Fn.Kinds.{ended_of}
use mathlib.Core.Path.{refl}
use Rattle.ground.proofs.OneResult.{equation}
use Rattle.field.proofs.InWords.{same_entries}
use Rattle.results.specs.OneResult.{OneResult}
use Rattle.terms.proofs as terms

pub syndromes_one : OneResult (ended_of _ terms.syndromes.Kinds.ps terms.syndromes.Kinds.r) terms.syndromes.Reads.Learnt
syndromes_one κs a r s d e p q = (same_entries r s p.words q.words (λ k h. equation (p.entry k h) (q.entry k h)), refl)
