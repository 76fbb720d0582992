-- What is said of a number is said of the bytes: where they are not counted, where one is no digit, and at the end.
use mathlib.Core.Path.{sym, ◌∙◌}
use Rattle.decimal.proofs.ReadLaws.{counted_not, reading_not, reading_end}
use Rattle.decimal.proofs.number_in.Goals as goal

pub returns-then-not-counted : goal.returns-then-not-counted
returns-then-not-counted c = counted_not _ (sym c.counted.ensures ∙ c.if-not-counted.true)

pub returns-then-not-is_ascii_digit : goal.returns-then-not-is_ascii_digit
returns-then-not-is_ascii_digit c =
    reading_not _ _ _ c.loop-b.invariant c.loop-b-test.true (sym c.is_ascii_digit.ensures.value ∙ c.if-not-is_ascii_digit.true)

pub returns : goal.returns
returns c = reading_end _ _ _ c.loop-b.invariant c.loop-b-test.false
