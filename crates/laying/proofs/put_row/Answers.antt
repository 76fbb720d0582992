-- The row is put into a buffer; its bytes stand m apart in the table (`row_strewn`).
use mathlib.Core.Path.{refl}
use native.Mathlib.Omega.{arith}
use Rattle.laying.proofs.Strewing.{columns_left, row_strewn}
use Rattle.laying.proofs.put_row.Goals as goal

pub strew-requires : goal.strew-requires
strew-requires c =
    let a = c.args in
    (c.requires.0.rows, c.requires.0.rows-most, omega arith, columns_left a.p a.n 255 a.m c.requires.1, c.requires.2)

pub returns : goal.returns
returns c =
    let a = c.args in
    row_strewn a.file.now a.m a.t a.p a.n a.o c.requires.0 _ _ a.out.now _ refl _
    c.put_rows.ensures.1 refl c.strew.ensures
