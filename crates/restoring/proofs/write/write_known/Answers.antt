-- One chunk a turn. Invariant, `Copying`: what came of the first f bytes is written. The measure is how many bytes are left.
-- Assumes nothing.
use Rattle.columns.proofs.Coming.{chunk_room, copying_next}
use Rattle.restoring.proofs.write.write_known.Goals as goal

pub copy_chunk-requires : goal.copy_chunk-requires
copy_chunk-requires c = chunk_room _ _ _ c.requires.0 _ _ _ _ c.chunk_at-c.ensures

pub loop-f-preserved : goal.loop-f-preserved
loop-f-preserved c =
    copying_next _ _ _ c.requires.0 _ _ _ c.loop-f.invariant c.requires.1 _ _ _ c.chunk_at-c.ensures _
    c.copy_chunk.ensures
