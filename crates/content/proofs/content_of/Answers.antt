-- Each arm leaves the kinds of one block of the table: those below its bound that no arm before it took.
use native.Mathlib.Omega.{arith}
use Rattle.content.proofs.Blocks.{from_0, from_5, from_21, from_25, from_41, from_45, from_61, from_62, from_128, from_132}
use Rattle.content.proofs.content_of.Goals as goal

pub returns-in-61 : goal.returns-in-61
returns-in-61 c = from_61 _ (omega arith) (omega arith)

pub returns-in-0 : goal.returns-in-0
returns-in-0 c = from_0 _ (omega arith)

pub returns-in-5-to-20 : goal.returns-in-5-to-20
returns-in-5-to-20 c = from_5 _ (omega arith) (omega arith)

pub returns-in-21 : goal.returns-in-21
returns-in-21 c = from_21 _ (omega arith) (omega arith)

pub returns-in-25-to-40 : goal.returns-in-25-to-40
returns-in-25-to-40 c = from_25 _ (omega arith) (omega arith)

pub returns-in-41 : goal.returns-in-41
returns-in-41 c = from_41 _ (omega arith) (omega arith)

pub returns-in-45-to-60 : goal.returns-in-45-to-60
returns-in-45-to-60 c = from_45 _ (omega arith) (omega arith)

pub returns-in-62-to-127 : goal.returns-in-62-to-127
returns-in-62-to-127 c = from_62 _ (omega arith) (omega arith)

pub returns-in-128 : goal.returns-in-128
returns-in-128 c = from_128 _ (omega arith) (omega arith)

pub returns-in-132-to-255 : goal.returns-in-132-to-255
returns-in-132-to-255 c = from_132 _ (omega arith)

pub returns-in_default : goal.returns-in_default
returns-in_default c = from_132 _ (omega arith)
