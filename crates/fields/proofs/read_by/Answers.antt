-- `fields::read_by` meets its contract: it asks for length, mark and length field in the definition's order, and the rest is `judge`.
-- Assumes nothing.
use mathlib.Core.Path.{sym, ◌∙◌}
use borrow.Author.Tests.{lt-ltb, le-ltb, eq-eqb, ne_eqb}
use Rattle.packet.specs.Packet.{read_by}
use Rattle.fields.proofs.read_by.Goals as goal

pub returns-then-packet : goal.returns-then-packet
unfolding read_by
returns-then-packet c = rw (lt-ltb _ _ c.if-packet.true)

pub returns-then-not-marked : goal.returns-then-not-marked
unfolding read_by
returns-then-not-marked c = rw (le-ltb _ _ c.if-packet.false, sym c.marked.ensures ∙ c.if-not-marked.true)

pub returns-then-fields-packet : goal.returns-then-fields-packet
unfolding read_by
returns-then-fields-packet c =
    rw (
      le-ltb _ _ c.if-packet.false,
      sym c.marked.ensures ∙ c.if-not-marked.false,
      ← c.fields_in-fields.ensures,
      ne_eqb _ _ c.if-fields-packet.true,
    )

pub returns : goal.returns
unfolding read_by
returns c =
    rw (
      le-ltb _ _ c.if-packet.false,
      sym c.marked.ensures ∙ c.if-not-marked.false,
      ← c.fields_in-fields.ensures,
      eq-eqb _ _ c.if-fields-packet.false,
    )
    c.judge.ensures
