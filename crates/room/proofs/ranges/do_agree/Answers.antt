-- `room::ranges::do_agree` meets its contract: an unused place agrees with every place; two in use agree by their names and by
-- the one's end and the other's start.
-- Assumes nothing.
use mathlib.Core.Path.{◌≡◌, sym, ◌∙◌}
use mathlib.Core.Bool.{true}
use Rattle.places.specs.Places.{in_use, place_name}
use Rattle.ground.proofs.Truth.{differ}
use Rattle.places.proofs.Named.{use_not, in_use_lem, not_in_use, names-yes, names-name}
use Rattle.places.proofs.Agreeing.{agree_left, agree_right, agree_shared, agree-before, agree_not_before}
use Rattle.room.proofs.ranges.do_agree.Goals as goal

pub returns-then-q-eq0 : goal.returns-then-q-eq0
returns-then-q-eq0 c =
    let a = c.args in
    sym (agree_right a.p a.q (not_in_use a.q c.if-q-eq0.true))

pub returns-then-p-eq0 : goal.returns-then-p-eq0
returns-then-p-eq0 c =
    let a = c.args in
    sym (agree_left a.p a.q (not_in_use a.p c.if-p-eq0.true))

pub returns-then-holds : goal.returns-then-holds
returns-then-holds c =
    let used_p : in_use c.args.p ≡ true = in_use_lem c.args.p c.if-p-eq0.false in
    let used_q : in_use c.args.q ≡ true = in_use_lem c.args.q c.if-q-eq0.false in
    let a = c.args in
    sym (agree_shared a.p a.q used_p used_q (sym (names-name a.q (place_name a.p) (sym c.holds.ensures ∙ c.if-holds.true))))

pub returns-then-end_of-q : goal.returns-then-end_of-q
returns-then-end_of-q c =
    let used_p : in_use c.args.p ≡ true = in_use_lem c.args.p c.if-p-eq0.false in
    let used_q : in_use c.args.q ≡ true = in_use_lem c.args.q c.if-q-eq0.false in
    let other : place_name c.args.p ≡ place_name c.args.q → ⊥ = λ e. let a = c.args in
    differ (sym (names-yes a.q (place_name a.p) (use_not a.p used_p) (sym e)) ∙ sym c.holds.ensures ∙ c.if-holds.false) in
    let a = c.args in
    sym (agree-before a.p a.q used_p used_q other (rw c.end_of.ensures at c.if-end_of-q.true))

pub returns : goal.returns
returns c =
    let used_p : in_use c.args.p ≡ true = in_use_lem c.args.p c.if-p-eq0.false in
    let used_q : in_use c.args.q ≡ true = in_use_lem c.args.q c.if-q-eq0.false in
    let other : place_name c.args.p ≡ place_name c.args.q → ⊥ = λ e. let a = c.args in
    differ (sym (names-yes a.q (place_name a.p) (use_not a.p used_p) (sym e)) ∙ sym c.holds.ensures ∙ c.if-holds.false) in
    let a = c.args in
    rw c.end_of-2.ensures
    (sym (agree_not_before a.p a.q used_p used_q other (rw c.end_of.ensures at c.if-end_of-q.false)))
