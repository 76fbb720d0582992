-- The tests of what a slot holds: there is such a slot, and its length fits.
use mathlib.Core.Path.{sym, ◌∙◌}
use Rattle.losses.proofs.Payloads.{slot-sum, slot-room, fits-known, held-beyond, held-wrong, held-right}
use Rattle.losses.proofs.runs.held_by.Goals as goal

pub returns-then-p-k : goal.returns-then-p-k
returns-then-p-k c = held-beyond _ _ _ c.if-p-k.true

pub length_at-n-requires : goal.length_at-n-requires
length_at-n-requires c = slot-room c.args.p c.args.k _ c.if-p-k.false c.requires.0

pub returns-then-may_hold : goal.returns-then-may_hold
returns-then-may_hold c =
    let a = c.args in
    held-right a.p _ a.k c.if-p-k.false _ _ (slot-sum a.p a.k) c.length_at-n.ensures
    (sym (fits-known a.p _ a.by_rows c.requires.1) ∙ sym c.may_hold.ensures ∙ c.if-may_hold.true)

pub returns : goal.returns
returns c =
    let a = c.args in
    held-wrong a.p _ a.k c.if-p-k.false _ _ (slot-sum a.p a.k) c.length_at-n.ensures
    (sym (fits-known a.p _ a.by_rows c.requires.1) ∙ sym c.may_hold.ensures ∙ c.if-may_hold.false)
