-- A line's own bytes and its part's are what the line comes to (`size-line`).
use mathlib.Core.Path.{sym, ap}
use native.Mathlib.Omega.{arith}
use borrow.Author.Tests.{lt-ltb, le-ltb}
use lib.ListN.{drop_of_length-le}
use Rattle.composing.specs.Inner.{pieces, size_by}
use Rattle.composing.proofs.LineLaws.{fifteen, size-line}
use Rattle.composing.proofs.lacks_room.Goals as goal

pub returns-then-left-own : goal.returns-then-left-own
returns-then-left-own c =
    let v = c.value_of-v in
    let l = c.loop-k in
    let a = c.args in
    let s = size-line a.d l.k v.result (omega arith) v.ensures in
    sym (lt-ltb a.room (size_by (pieces a.d)) (omega (arith, s, l.invariant)))

pub loop-k-preserved : goal.loop-k-preserved
loop-k-preserved c =
    let v = c.value_of-v in
    let l = c.loop-k in
    let s = size-line c.args.d l.k v.result (omega arith) v.ensures in
    omega (arith, s, l.invariant)

pub returns : goal.returns
returns c =
    let d = c.args.d in
    let e = ap size_by (drop_of_length-le (pieces d) {i = c.loop-k.k} (omega (arith, fifteen d))) in
    sym (le-ltb c.args.room (size_by (pieces d)) (omega (arith, e, c.loop-k.invariant)))
