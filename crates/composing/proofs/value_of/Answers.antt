-- Each line has its arm, the last one for line 14: the call there answers that line's value.
use mathlib.Core.Path.{◌≡◌}
use Prim.Native.Nat.{◌≤◌}
use native.Mathlib.Omega.{arith}
use Rattle.composing.specs.Inner.{pieces}
use Rattle.composing.proofs.ValueLaws.{up, at-line}
use Rattle.composing.proofs.value_of.Goals as goal

pub returns-in-0 : goal.returns-in-0
unfolding pieces
returns-in-0 c = at-line c.args.d _ 0 _ c.in-0.is c.number.ensures

pub returns-in-1 : goal.returns-in-1
unfolding pieces
returns-in-1 c = at-line c.args.d _ 1 _ c.in-1.is c.number-in-1.ensures

pub returns-in-2 : goal.returns-in-2
unfolding pieces
returns-in-2 c = at-line c.args.d _ 2 _ c.in-2.is c.number-in-2.ensures

pub returns-in-3 : goal.returns-in-3
unfolding pieces
returns-in-3 c = at-line c.args.d _ 3 _ c.in-3.is c.number-in-3.ensures

pub returns-in-4 : goal.returns-in-4
unfolding pieces
returns-in-4 c = at-line c.args.d _ 4 _ c.in-4.is c.text_part.ensures

pub returns-in-5 : goal.returns-in-5
unfolding pieces
returns-in-5 c = at-line c.args.d _ 5 _ c.in-5.is c.number-in-5.ensures

pub returns-in-6 : goal.returns-in-6
unfolding pieces
returns-in-6 c = at-line c.args.d _ 6 _ c.in-6.is c.text_part-in-6.ensures

pub returns-in-7 : goal.returns-in-7
unfolding pieces
returns-in-7 c = at-line c.args.d _ 7 _ c.in-7.is c.text_part-in-7.ensures

pub returns-in-8 : goal.returns-in-8
unfolding pieces
returns-in-8 c = at-line c.args.d _ 8 _ c.in-8.is c.text_part-in-8.ensures

pub returns-in-9 : goal.returns-in-9
unfolding pieces
returns-in-9 c = at-line c.args.d _ 9 _ c.in-9.is c.optional.ensures

pub returns-in-10 : goal.returns-in-10
unfolding pieces
returns-in-10 c = at-line c.args.d _ 10 _ c.in-10.is c.text_part-in-10.ensures

pub returns-in-11 : goal.returns-in-11
unfolding pieces
returns-in-11 c = at-line c.args.d _ 11 _ c.in-11.is c.optional-in-11.ensures

pub returns-in-12 : goal.returns-in-12
unfolding pieces
returns-in-12 c = at-line c.args.d _ 12 _ c.in-12.is c.time.ensures

pub returns-in-13 : goal.returns-in-13
unfolding pieces
returns-in-13 c = at-line c.args.d _ 13 _ c.in-13.is c.time-in-13.ensures

pub returns-in_default : goal.returns-in_default
unfolding pieces
returns-in_default c =
    let k = c.args.k in
    let r = c.in_default.in_default-own.rest in
    let p = r.0.0.0.0.0.0.0.0.0.0 in
    let q = r.0.0.0.0.0.0 in
    let s = r.0.0 in
    let a = up k 3 (up k 2 (up k 1 (up k 0 (omega arith) p.0.0.0.1) p.0.0.1) p.0.1) p.1 in
    let b = up k 7 (up k 6 (up k 5 (up k 4 a q.0.0.0.1) q.0.0.1) q.0.1) q.1 in
    let e = up k 11 (up k 10 (up k 9 (up k 8 b s.0.0.0.1) s.0.0.1) s.0.1) s.1 in
    let f : 14 ≤ k = up k 13 (up k 12 e r.0.1) r.1 in
    let last : k ≡ 14 = omega arith in
    at-line c.args.d _ 14 _ last c.number-in_default.ensures
