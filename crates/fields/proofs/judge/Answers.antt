-- `fields::judge` meets its contract: it asks the definition's questions in its order, and stops at the first that is answered yes.
-- Assumes nothing.
use mathlib.Core.Path.{sym, ◌∙◌}
use borrow.Author.Tests.{eq-eqb, ne_eqb}
use Rattle.packet.specs.Packet.{judged}
use Rattle.fields.proofs.judge.Goals as goal

pub returns-then-fields-eq3 : goal.returns-then-fields-eq3
unfolding judged
returns-then-fields-eq3 c = rw (eq-eqb _ _ c.if-fields-eq3.true)

pub returns-then-bad_protection : goal.returns-then-bad_protection
unfolding judged
returns-then-bad_protection c = rw (ne_eqb _ _ c.if-fields-eq3.false, sym c.bad_protection.ensures ∙ c.if-bad_protection.true)

pub returns-then-bad_number : goal.returns-then-bad_number
unfolding judged
returns-then-bad_number c =
    rw (
      ne_eqb _ _ c.if-fields-eq3.false,
      sym c.bad_protection.ensures ∙ c.if-bad_protection.false,
      sym c.bad_number.ensures ∙ c.if-bad_number.true,
    )

pub returns-then-bad_rows : goal.returns-then-bad_rows
unfolding judged
returns-then-bad_rows c =
    rw (
      ne_eqb _ _ c.if-fields-eq3.false,
      sym c.bad_protection.ensures ∙ c.if-bad_protection.false,
      sym c.bad_number.ensures ∙ c.if-bad_number.false,
      sym c.bad_rows.ensures ∙ c.if-bad_rows.true,
    )

pub returns-then-fields-eq0 : goal.returns-then-fields-eq0
unfolding judged
returns-then-fields-eq0 c =
    rw (
      ne_eqb _ _ c.if-fields-eq3.false,
      sym c.bad_protection.ensures
          ∙ c.if-bad_protection.false,
      sym c.bad_number.ensures ∙ c.if-bad_number.false,
      sym c.bad_rows.ensures ∙ c.if-bad_rows.false,
      eq-eqb _ _ c.if-fields-eq0.true,
    )

pub returns : goal.returns
unfolding judged
returns c =
    rw (
      ne_eqb _ _ c.if-fields-eq3.false,
      sym c.bad_protection.ensures
          ∙ c.if-bad_protection.false,
      sym c.bad_number.ensures ∙ c.if-bad_number.false,
      sym c.bad_rows.ensures ∙ c.if-bad_rows.false,
      ne_eqb _ _ c.if-fields-eq0.false,
    )
