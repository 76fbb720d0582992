-- `encode_row` refuses another length than 239, and otherwise hands out the row's checks.
-- Assumes nothing.
use mathlib.Core.Path.{ap}
use mathlib.Core.List.{List}
use Prim.Native.Nat.{ℕ}
use lib.ListN.{length}
use native.Mathlib.Omega.{arith}
use borrow.Author.Rules.{rules}
use borrow.Author.Tests.{eq-eqb, ne_eqb}
use Rattle.encoding.specs.Encode.{encode_of}
use Rattle.encoding.proofs.encode_row.Goals as goal
use Rattle.std.specs.Prelude.{Ok}

pub returns-then-info-ne239 : goal.returns-then-info-ne239
unfolding encode_of
returns-then-info-ne239 c = rw (ne_eqb (length c.args.info.now) 239 (search rules))

pub returns : goal.returns
unfolding encode_of
returns c =
    rw (eq-eqb (length c.args.info.now) 239 (omega arith))
    (ap (λ (l : List ℕ). record { verdict = (Ok tt); checks = l }) c.row_checks.ensures)
