-- Each line is judged by a call of its own, in their order.
use mathlib.Core.List.{[], ◌∷◌}
use Rattle.attributes.specs.Rules.{rules, rules_of, placed}
use Rattle.judging.proofs.PartLaws.{any_length}
use Rattle.judging.proofs.judged.Goals as goal

pub returns : goal.returns
unfolding rules rules_of placed
returns c =
    let a = c.args in
    λ i.
    c.within.ensures i
    ∷ c.within-2.ensures i
    ∷ c.within-3.ensures i
    ∷ c.within-4.ensures i
    ∷ c.text_fits.ensures i
    ∷ c.kind_fits.ensures i
    ∷ any_length a.text.now a.d.title c.text_fits-2.ensures i
    ∷ any_length a.text.now a.d.summary c.text_fits-3.ensures i
    ∷ any_length a.text.now a.d.keywords c.text_fits-4.ensures i
    ∷ c.given_where.ensures i
    ∷ any_length a.text.now a.d.path c.text_fits-5.ensures i
    ∷ c.given_where-2.ensures i
    ∷ c.time_fits.ensures i
    ∷ c.end_fits.ensures i
    ∷ c.within-5.ensures i
    ∷ []
