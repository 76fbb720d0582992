-- Where nothing is awaited the byte is a first one. Else it must be in the next range: outside of it nothing can follow, in it the ranges behind are left.
use Rattle.texts.proofs.Utf8Laws as laws
use Rattle.texts.proofs.step.Goals as goal

pub returns : goal.returns
returns c =
    laws.step_in _ _ _ _ c.if-wait-eq0.false c.if-b-wait.false c.if-wait-b.false
