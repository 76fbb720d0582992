-- One row a turn, to where it belongs. Invariant, `Scattering`: j rows are written, so that of any rows of which these are rows q and on, and of which the
-- first q were written, the first q + j are written now.
use Rattle.handing.proofs.RowLaws.{Scattering}
use Rattle.handing.proofs.tables.scatter_rows.Given as goal

abbrev pub invariant-loop-j : goal.invariant-loop-j
invariant-loop-j l = Scattering l.m l.n l.store l.at l.count l.q l.initial.out l.out l.j
