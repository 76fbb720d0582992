-- Each digit where the text has it, with the signs between.
use mathlib.Core.List.{[], ◌∷◌}
use Rattle.times.specs.Written.{time_text}
use Rattle.times.proofs.time_text.Goals as goal

pub returns : goal.returns
unfolding time_text
returns c = λ i.
    c.tens.ensures i
    ∷ c.ones.ensures i
    ∷ c.tens-2.ensures i
    ∷ c.ones-2.ensures i
    ∷ 46
    ∷ c.tens-3.ensures i
    ∷ c.ones-3.ensures i
    ∷ 46
    ∷ c.tens-4.ensures i
    ∷ c.ones-4.ensures i
    ∷ 47
    ∷ c.tens-5.ensures i
    ∷ c.ones-5.ensures i
    ∷ 58
    ∷ c.tens-6.ensures i
    ∷ c.ones-6.ensures i
    ∷ 58
    ∷ c.tens-7.ensures i
    ∷ c.ones-7.ensures i
    ∷ []
