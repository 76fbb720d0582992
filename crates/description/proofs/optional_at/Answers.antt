-- An empty part is told by `none`; a number that is `none` itself is no number that may be written.
-- Assumes nothing.
use Rattle.description.proofs.ValueLaws.{optional_none, optional_fault, optional_some}
use Rattle.description.proofs.optional_at.Goals as goal

pub returns-then-p-eq0 : goal.returns-then-p-eq0
returns-then-p-eq0 c = let a = c.args in optional_none a.text.now a.p.at a.p.length a.none c.if-p-eq0.true

pub returns-then-found-none : goal.returns-then-found-none
returns-then-found-none c =
    let a = c.args in
    optional_fault a.text.now a.p.at a.p.length a.none c.requires c.if-p-eq0.false _ c.number_at-found.ensures c.if-found-none.true

pub returns : goal.returns
returns c =
    let a = c.args in
    optional_some a.text.now a.p.at a.p.length a.none c.requires c.if-p-eq0.false _ c.number_at-found.ensures c.if-found-none.false
