-- The tables are enough, and one less would not be: the two bounds of a quotient rounded up.
use Rattle.handing.proofs.TableLaws.{tables_enough}
use Rattle.handing.proofs.tables.needs_tables.Goals as goal

pub returns-then-n-room : goal.returns-then-n-room
returns-then-n-room c = tables_enough c.args.n c.args.m c.args.count c.requires.0 c.if-n-room.true
