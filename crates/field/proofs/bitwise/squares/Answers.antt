-- `field::bitwise::squares` squares the bytes of both words.
-- Assumes nothing.
use Rattle.field.proofs.Walking.{both_words}
use Rattle.field.proofs.bitwise.squares.Goals as goal

pub returns : goal.returns
returns c =
    let low = c.square.ensures in
    let high = c.square-2.ensures in
    both_words c.args.x c.args.x _ low.word high.word low.entry high.entry
