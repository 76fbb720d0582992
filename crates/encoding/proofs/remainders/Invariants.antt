-- `remainders` writes what each row leaves, sixteen bytes after sixteen bytes: what is left to write makes what all make (`Laid`).
-- Assumes nothing.
use lib.ListN.{replicate}
use Rattle.ground.proofs.Pieces.{Laid}
use Rattle.encoding.specs.Encode.{rest_of, rows_in}
use Rattle.encoding.proofs.remainders.Given as goal

abbrev pub invariant-loop-i : goal.invariant-loop-i
invariant-loop-i l = Laid (rest_of l.rows) 16 (rows_in l.rows) 0 (replicate 240 0) l.out l.i
