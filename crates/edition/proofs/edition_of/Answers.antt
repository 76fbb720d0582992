-- `edition::edition_of` meets its contract: it asks for edition 1, then for edition 2.
-- Assumes nothing.
use mathlib.Core.Path.{sym, ◌∙◌}
use Rattle.packet.specs.Edition.{edition_of}
use Rattle.edition.proofs.edition_of.Goals as goal

pub returns-then-is_of : goal.returns-then-is_of
unfolding edition_of
returns-then-is_of c = rw (sym c.is_of.ensures ∙ c.if-is_of.true)

pub returns-then-is_of-2 : goal.returns-then-is_of-2
unfolding edition_of
returns-then-is_of-2 c = rw (sym c.is_of.ensures ∙ c.if-is_of.false, sym c.is_of-2.ensures ∙ c.if-is_of-2.true)

pub returns : goal.returns
unfolding edition_of
returns c = rw (sym c.is_of.ensures ∙ c.if-is_of.false, sym c.is_of-2.ensures ∙ c.if-is_of-2.false)
