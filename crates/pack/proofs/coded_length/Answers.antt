-- `pack::coded_length` meets its contract: the two cases of the definition, and the tables are so few that their bytes can be counted.
-- Assumes nothing.
use mathlib.Core.Path.{sym, ap, ◌∙◌}
use Prim.Native.Nat.{ℕ, ◌*◌}
use native.Mathlib.Nat.{mul_assoc}
use Rattle.layout.specs.Layout.{tables_of}
use Rattle.pack.proofs.Laws.{length-plain, length_tables}
use Rattle.pack.proofs.coded_length.Goals as goal

pub returns-then-settings-eq0 : goal.returns-then-settings-eq0
returns-then-settings-eq0 c = sym (length-plain c.args.settings _ c.if-settings-eq0.true)

pub returns : goal.returns
returns c = ap (λ (r : ℕ). 255 * r) c.rows_of.ensures ∙ sym (mul_assoc 255 c.args.settings.rows (tables_of c.args.settings.rows c.args.len)) ∙ sym (length_tables c.args.settings c.args.len c.if-settings-eq0.false)
