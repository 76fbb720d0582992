-- `rows::finish` corrects the row at the front, held by value, where no row behind is broken.
-- Assumes nothing.
use mathlib.Core.Path.{ap, sym, ◌∙◌}
use lib.ListN.{length}
use lib.Seq.{length-take-le}
use Rattle.errata.specs.InnerErrata.{entries}
use Rattle.errata.proofs.Mending.{mended-length}
use Rattle.repair.proofs.AllRows.{nothing-added, put_back}
use Rattle.repair.proofs.rows.finish.Goals as goal

pub returns-then-e-eq0 : goal.returns-then-e-eq0
returns-then-e-eq0 c = nothing-added _ _ _ _ _ c.if-e-eq0.true

pub copy_from_slice-requires : goal.copy_from_slice-requires
copy_from_slice-requires c =
    let e = c.args.e.now in
    let whole = length-take-le 255 c.args.rows.now c.requires.1 in
    whole ∙ sym (ap length c.corrected-row.ensures ∙ mended-length _ whole (entries e.at) (entries e.values) e.n)

pub returns : goal.returns
returns c =
    let e = c.args.e.now in
    put_back c.args.ended c.args.rows.now e.at e.values e.n c.copy_from_slice.new.self
    c.if-ended-lt15.false c.requires.1 (c.copy_from_slice.ensures.after ∙ c.corrected-row.ensures)
