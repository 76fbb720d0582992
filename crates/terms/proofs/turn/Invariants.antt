-- `terms::turn` adds the powers of one byte after the other, or nothing (`Adding`).
-- Assumes nothing.
use Rattle.field.specs.declared.Sixteen.{Sixteen}
use Rattle.field.specs.Words.{Doubled}
use Rattle.terms.proofs.Summing.{Adding}
use Rattle.terms.proofs.turn.Given as goal

abbrev pub invariant-loop-m : goal.invariant-loop-m
invariant-loop-m l = (s : Sixteen) → Doubled s.low l.initial.low → Doubled s.high l.initial.high → Adding l.rest s l.i l.low l.high l.m
