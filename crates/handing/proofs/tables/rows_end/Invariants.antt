-- One row a turn, to the first that holds another byte than 0 beyond the file's end. Invariant, `Clearing`: the j rows before hold 0 there.
use Rattle.handing.proofs.RowLaws.{Clearing}
use Rattle.handing.proofs.tables.rows_end.Given as goal

abbrev pub invariant-loop-j : goal.invariant-loop-j
invariant-loop-j l = Clearing l.m l.n l.store l.at l.count l.q l.j
