-- The refusals 22, 23, 24 and 26 are ruled out in this order; then the rows laid where they belong are the file.
use mathlib.Core.Path.{sym, ap, ◌∙◌}
use Prim.Native.Nat.{ℕ, ◌/◌}
use Rattle.handing.proofs.HandCases.{rows_shape, rows-size, rows_padding, rows-output, rows-file}
use Rattle.handing.proofs.hand.hand_rows.Goals as goal

pub returns-then-rows-m-ne0 : goal.returns-then-rows-m-ne0
returns-then-rows-m-ne0 c = rows_shape _ _ _ _ _ (ap (λ (x : ℕ). x / 255) c.requires.1) c.if-rows-m-ne0.true

pub returns-then-not-needs_tables : goal.returns-then-not-needs_tables
returns-then-not-needs_tables c =
    rows-size _ _ _ _ _ (ap (λ (x : ℕ). x / 255) c.requires.1) c.if-rows-m-ne0.false (sym c.needs_tables.ensures ∙ c.if-not-needs_tables.true)

pub returns-then-not-padding_ends : goal.returns-then-not-padding_ends
returns-then-not-padding_ends c =
    rows_padding _ _ _ _ _ (ap (λ (x : ℕ). x / 255) c.requires.1) c.if-rows-m-ne0.false
    (sym c.needs_tables.ensures ∙ c.if-not-needs_tables.false) c.requires.0.least _ (c.if-not-padding_ends.true) c.padding_ends.ensures

pub returns-then-out-n : goal.returns-then-out-n
returns-then-out-n c =
    rows-output _ _ _ _ _ (ap (λ (x : ℕ). x / 255) c.requires.1) c.if-rows-m-ne0.false
    (sym c.needs_tables.ensures ∙ c.if-not-needs_tables.false) c.requires.0.least _ (c.if-not-padding_ends.false) c.padding_ends.ensures
    c.if-out-n.true

pub returns : goal.returns
returns c =
    rows-file _ _ _ _ _ (ap (λ (x : ℕ). x / 255) c.requires.1) c.if-rows-m-ne0.false
    (sym c.needs_tables.ensures ∙ c.if-not-needs_tables.false) c.requires.0.least _ (c.if-not-padding_ends.false) c.padding_ends.ensures
    c.if-out-n.false _ c.write_rows.ensures
