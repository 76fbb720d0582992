-- `field::inverses` raises each element to 254: 2, 3, 12, 14 and 15, then 240 and 254 (`Raised`).
-- Assumes nothing.
use Rattle.field.proofs.Raising.{raised_once, raised_more, raised_inverse}
use Rattle.field.proofs.inverses.Goals as goal

pub returns : goal.returns
returns c =
    let x = raised_once c.args.a in
    let x2 = raised_more 1 1 c.squares-x2.ensures x x in
    let x3 = raised_more 2 1 c.products-x3.ensures x2 x in
    let x6 = raised_more 3 3 c.squares.ensures x3 x3 in
    let x12 = raised_more 6 6 c.squares-x12.ensures x6 x6 in
    let x14 = raised_more 12 2 c.products-x14.ensures x12 x2 in
    let x15 = raised_more 12 3 c.products-x15.ensures x12 x3 in
    let x30 = raised_more 15 15 c.squares-2.ensures x15 x15 in
    let x60 = raised_more 30 30 c.squares-x60.ensures x30 x30 in
    let x120 = raised_more 60 60 c.squares-3.ensures x60 x60 in
    let x240 = raised_more 120 120 c.squares-x240.ensures x120 x120 in
    raised_inverse c.products.ensures.words (raised_more 240 14 c.products.ensures x240 x14)
