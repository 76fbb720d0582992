-- `pack::judge` meets its contract: its tests are those of `plan_of`, in the same order, and each number it computes is the one named there.
-- Assumes nothing.
use mathlib.Core.Path.{◌≡◌, sym, ap, ap₂, subst, ◌∙◌}
use mathlib.Core.Bool.{Bool, true, false, not}
use Prim.Native.Nat.{ℕ, ◌-◌, ◌*◌, ◌<◌, ◌≤◌, min}
use native.Mathlib.Nat.{mul-le-mul, le_of_lt}
use native.Mathlib.Omega.{arith}
use borrow.Author.Rules.{rules}
use borrow.Author.Tests.{not-false}
use Rattle.ground.specs.Lists.{ceil}
use Rattle.ground.proofs.Listed.{ceil-below}
use Rattle.settings.specs.declared.Settings.{Settings}
use Rattle.settings.specs.Settings.{settings_fit}
use Rattle.settings.proofs.Laws.{settings_facts}
use Rattle.pack.specs.Pack.{coded_length, count_of}
use Rattle.pack.specs.Inner.{payload_length}
use Rattle.std.specs.Prelude.{Ok}
use Rattle.pack.proofs.Plans.{plan_field, plan_none, plan_long, plan_count, plan_number, plan_go}
use Rattle.pack.proofs.judge.Goals as goal

-- what the test of the settings says
fitting : (g : Settings) (r : Bool) → r ≡ settings_fit g → not r ≡ false → settings_fit g ≡ true
fitting g r e h = sym e ∙ not-false r h

-- the count, from the coded length
counting : (g : Settings) (len coded count : ℕ) → coded ≡ coded_length g len → count ≡ ceil coded g.size → count ≡ count_of g len
counting g len coded count e f = f ∙ ap (λ (x : ℕ). ceil x g.size) e

pub returns-then-not-settings_fit : goal.returns-then-not-settings_fit
returns-then-not-settings_fit c = plan_field _ _ _ (sym c.settings_fit.ensures ∙ c.if-not-settings_fit.true)

pub returns-then-len-eq0 : goal.returns-then-len-eq0
returns-then-len-eq0 c = plan_none _ _ _ (fitting _ _ c.settings_fit.ensures (ap not c.if-not-settings_fit.false)) c.if-len-eq0.true

pub returns-then-len-gt-LARGEST_FILE : goal.returns-then-len-gt-LARGEST_FILE
returns-then-len-gt-LARGEST_FILE c = plan_long _ _ _ (fitting _ _ c.settings_fit.ensures (ap not c.if-not-settings_fit.false)) c.if-len-eq0.false c.if-len-gt-LARGEST_FILE.true

pub coded_length-coded-requires : goal.coded_length-coded-requires
coded_length-coded-requires c = (fitting _ _ c.settings_fit.ensures (ap not c.if-not-settings_fit.false), c.if-len-gt-LARGEST_FILE.false)

pub overflow_cast-size : goal.overflow_cast-size
overflow_cast-size c = omega arith

pub returns-then-count-gt1048575 : goal.returns-then-count-gt1048575
returns-then-count-gt1048575 c =
    let a = c.args in
    plan_count a.settings a.len a.number (fitting _ _ c.settings_fit.ensures (ap not c.if-not-settings_fit.false)) c.if-len-eq0.false c.if-len-gt-LARGEST_FILE.false
    (subst (λ (x : ℕ). 1048575 < x) (counting a.settings a.len _ _ c.coded_length-coded.ensures c.over-count.ensures) c.if-count-gt1048575.true)

pub returns-then-count-number : goal.returns-then-count-number
returns-then-count-number c =
    let a = c.args in
    let n = counting a.settings a.len _ _ c.coded_length-coded.ensures c.over-count.ensures in
    plan_number a.settings a.len a.number (fitting _ _ c.settings_fit.ensures (ap not c.if-not-settings_fit.false)) c.if-len-eq0.false c.if-len-gt-LARGEST_FILE.false
    (subst (λ (x : ℕ). x ≤ 1048575) n c.if-count-gt1048575.false) (subst (λ (x : ℕ). x ≤ a.number) n c.if-count-number.true)

pub overflow_cast-result : goal.overflow_cast-result
overflow_cast-result c = omega arith

pub overflow_mul-number : goal.overflow_mul-number
overflow_mul-number c =
    let g = c.args.settings in
    let fit : settings_fit g ≡ true = fitting g _ c.settings_fit.ensures (ap not c.if-not-settings_fit.false) in
    let n : c.args.number ≤ 1048575 = omega arith in
    let b : c.args.number * g.size ≤ 1048575 * 4077 = mul-le-mul n (settings_facts g fit).size.most in
    search rules

pub overflow_sub-coded : goal.overflow_sub-coded
overflow_sub-coded c =
    let a = c.args in
    let fit : settings_fit a.settings ≡ true = fitting _ _ c.settings_fit.ensures (ap not c.if-not-settings_fit.false) in
    let n : a.number < ceil c.coded_length-coded.result a.settings.size = subst (λ (x : ℕ). a.number < x) c.over-count.ensures c.if-count-number.false in
    le_of_lt (ceil-below _ a.settings.size a.number (settings_facts _ fit).size.least n)

pub returns : goal.returns
returns c =
    let a = c.args in
    let n = counting a.settings a.len _ _ c.coded_length-coded.ensures c.over-count.ensures in
    let s : c.lesser.result ≡ payload_length a.settings a.len a.number = c.lesser.ensures ∙ ap (λ (x : ℕ). min a.settings.size (x - a.number * a.settings.size)) c.coded_length-coded.ensures in
    ap₂ (λ (x y : ℕ). Ok (x, y)) n s
    ∙ plan_go a.settings a.len a.number (fitting _ _ c.settings_fit.ensures (ap not c.if-not-settings_fit.false)) c.if-len-eq0.false c.if-len-gt-LARGEST_FILE.false
    (subst (λ (x : ℕ). x ≤ 1048575) n c.if-count-gt1048575.false) (subst (λ (x : ℕ). a.number < x) n c.if-count-number.false)
