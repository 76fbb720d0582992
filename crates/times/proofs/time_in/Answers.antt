-- Bytes of another form, or of no real time, give the wrong time; others what they write.
use mathlib.Core.Path.{sym, ap, ◌∙◌}
use Rattle.calendar.specs.Calendar.{real}
use Rattle.times.specs.Written.{form}
use Rattle.times.proofs.WrittenLaws.{formed-long}
use Rattle.times.proofs.FormLaws.{no-form, no_time_lem, some_time}
use Rattle.times.proofs.time_in.Goals as goal

pub returns-then-not-formed : goal.returns-then-not-formed
returns-then-not-formed c = no-form _ (sym c.formed.ensures ∙ c.if-not-formed.true)

pub time_at-t-requires : goal.time_at-t-requires
time_at-t-requires c =
    formed-long form c.args.bytes.now (sym c.formed.ensures ∙ c.if-not-formed.false)

pub returns-then-not-is_real : goal.returns-then-not-is_real
returns-then-not-is_real c =
    let f = sym c.formed.ensures ∙ c.if-not-formed.false in
    let r = ap real (sym c.time_at-t.ensures) ∙ sym c.is_real.ensures ∙ c.if-not-is_real.true in
    no_time_lem c.args.bytes.now f r

pub returns : goal.returns
returns c =
    let f = sym c.formed.ensures ∙ c.if-not-formed.false in
    let r = ap real (sym c.time_at-t.ensures) ∙ sym c.is_real.ensures ∙ c.if-not-is_real.false in
    c.time_at-t.ensures ∙ some_time c.args.bytes.now f r
