-- The record's bytes are as many as those that they replace.
use mathlib.Core.Path.{refl, subst, sym, ◌∙◌}
use native.Mathlib.Omega.{arith}
use borrow.Author.Rules.{rules}
use Rattle.places.proofs.Steps.{mapped_length}
use Rattle.holding.proofs.RecordLaws.{put_over}
use Rattle.face.proofs.PutBack.{PutBack}
use Rattle.brithelva.proofs.put_kept.Goals as goal

pub returns-in-Ok : goal.returns-in-Ok
returns-in-Ok c =
    subst (λ k. PutBack c.args.held.now k 0 c.put_record.new.bytes) (sym c.in-Ok.is)
    (refl, c.put_record.ensures ∙ put_over _ _ (search (rules, mapped_length)) (omega arith))
