-- From byte f on, up to the end of the slot, of the table's information and of the file: what is sent then stands as far from byte f as the file does.
-- Assumes nothing.
use Rattle.columns.proofs.Standings.{together}
use Rattle.restoring.proofs.write.chunk_at.Goals as goal

pub returns : goal.returns
returns c =
    together c.args.p.rows c.args.p.slot c.args.n c.args.f _ _ c.requires.0 c.requires.1 c.requires.3 c.lesser.ensures c.lesser-2.ensures
