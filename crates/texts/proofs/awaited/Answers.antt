-- Each arm is one row of the table, or what lies between two of them: the tests before it bound the byte from below, its own from above.
use native.Mathlib.Omega.{arith}
use Rattle.texts.proofs.Utf8Laws as laws
use Rattle.texts.proofs.awaited.Goals as goal

pub returns-then-b-lt128 : goal.returns-then-b-lt128
returns-then-b-lt128 c = laws.row_ascii _ (omega arith)

pub returns-then-b-lt194 : goal.returns-then-b-lt194
returns-then-b-lt194 c = laws.row_inner _ (omega arith) (omega arith)

pub returns-then-b-lt224 : goal.returns-then-b-lt224
returns-then-b-lt224 c = laws.row-two _ (omega arith) (omega arith)

pub returns-then-b-lt225 : goal.returns-then-b-lt225
returns-then-b-lt225 c = laws.row_e0 _ (omega arith) (omega arith)

pub returns-then-b-lt237 : goal.returns-then-b-lt237
returns-then-b-lt237 c = laws.row_e1 _ (omega arith) (omega arith) (omega arith)

pub returns-then-b-lt238 : goal.returns-then-b-lt238
returns-then-b-lt238 c = laws.row_ed _ (omega arith) (omega arith) (omega arith)

pub returns-then-b-lt240 : goal.returns-then-b-lt240
returns-then-b-lt240 c = laws.row_ee _ (omega arith) (omega arith) (omega arith)

pub returns-then-b-lt241 : goal.returns-then-b-lt241
returns-then-b-lt241 c = laws.row_f0 _ (omega arith) (omega arith)

pub returns-then-b-lt244 : goal.returns-then-b-lt244
returns-then-b-lt244 c = laws.row_f1 _ (omega arith) (omega arith) (omega arith)

pub returns-then-b-lt245 : goal.returns-then-b-lt245
returns-then-b-lt245 c = laws.row_f4 _ (omega arith) (omega arith) (omega arith)

pub returns : goal.returns
returns c = laws.row-none _ (omega arith) (omega arith)
