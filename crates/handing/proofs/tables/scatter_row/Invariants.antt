-- The bytes are written m apart. Invariant, `RowWriting`: c bytes are written, the next goes to `to`, and for every n below which exactly the first k bytes stand, those that are
-- left make what the whole row makes.
use Rattle.std.proofs.Common.{◌≡◌, ◌+◌, ◌*◌}
use Rattle.handing.proofs.TableLaws.{RowWriting}
use Rattle.handing.proofs.tables.scatter_row.Given as goal

abbrev pub invariant-loop-c : goal.invariant-loop-c
invariant-loop-c l = RowWriting l.store l.at l.k l.m l.p l.initial.out l.out l.c × l.to ≡ l.p + l.c * l.m
