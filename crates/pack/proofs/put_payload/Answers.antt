-- `pack::put_payload` meets its contract: without protection the payload is a part of the file, with it a part of the coded file, in row order whole rows of it, and the
-- functions called write those. Assumes nothing.
use mathlib.Core.Path.{◌≡◌, sym, ap, subst, ◌∙◌}
use Prim.Native.Nat.{ℕ, ◌+◌, ◌-◌, ◌*◌, ◌/◌, ◌≤◌}
use native.Mathlib.Omega.{arith}
use lib.ListN.{length, take, drop}
use lib.Seq.{sets}
use Rattle.laying.specs.Lay.{lay_into}
use Rattle.laying.proofs.Serving.{lay_done}
use Rattle.pack.specs.Inner.{payload_length, coded_rows, RunFits}
use Rattle.pack.proofs.Laws.{row-order}
use Rattle.pack.proofs.Parts.{plain_payload, columns_fit, columns_payload, coded-fits, coded_payload}
use Rattle.pack.proofs.put_payload.Goals as goal

pub returns-then-settings-eq0 : goal.returns-then-settings-eq0
returns-then-settings-eq0 c =
    let a = c.args in
    let from = a.number * a.settings.size in
    let e : from + a.size - from ≡ payload_length a.settings (length a.file.now) a.number = omega (arith, c.requires.1) in
    c.copy_in.ensures
    ∙ ap (λ (x : ℕ). sets a.out.now 0 (take x (drop from a.file.now))) e
    ∙ ap (sets a.out.now 0) (plain_payload a.settings a.file.now a.number c.requires.0 c.if-settings-eq0.true)

pub returns-then-settings-eq1 : goal.returns-then-settings-eq1
returns-then-settings-eq1 c =
    let a = c.args in
    let e : a.size ≡ payload_length a.settings (length a.file.now) a.number = c.requires.1 in
    let h = c.if-settings-eq0.false in
    let o = c.if-settings-eq1.true in
    let fit = columns_fit a.settings a.file.now a.number c.requires.0 h o (length a.out.now) (subst (λ (x : ℕ). x ≤ length a.out.now) e c.requires.2) in
    c.put_columns.ensures.1
    ∙ ap (λ (x : ℕ). lay_into a.file.now a.settings.rows (a.number * a.settings.size) x a.out.now) e
    ∙ sym (lay_done a.file.now a.settings.rows (a.number * a.settings.size) (payload_length a.settings (length a.file.now) a.number) a.out.now fit)
    ∙ ap (sets a.out.now 0) (columns_payload a.settings a.file.now a.number c.requires.0 h o)

pub put_coded-requires : goal.put_coded-requires
put_coded-requires c =
    let a = c.args in
    let e : a.size ≡ payload_length a.settings (length a.file.now) a.number = c.requires.1 in
    subst (λ (c : ℕ). RunFits a.file.now a.settings.rows (a.number * a.settings.size / 255) (c / 255) (length a.out.now) 0) (sym e)
    (coded-fits a.settings a.file.now a.number c.requires.0 c.if-settings-eq0.false (row-order a.settings c.requires.0.fits c.if-settings-eq1.false) (length a.out.now) (subst (λ (c : ℕ). c ≤ length a.out.now) e c.requires.2))

pub returns : goal.returns
returns c =
    let a = c.args in
    let e : a.size ≡ payload_length a.settings (length a.file.now) a.number = c.requires.1 in
    c.put_coded.ensures
    ∙ ap (λ (c : ℕ). sets a.out.now 0 (coded_rows a.file.now a.settings.rows (a.number * a.settings.size / 255) (c / 255))) e
    ∙ ap (sets a.out.now 0) (coded_payload a.settings a.file.now a.number c.requires.0 c.if-settings-eq0.false (row-order a.settings c.requires.0.fits c.if-settings-eq1.false))
