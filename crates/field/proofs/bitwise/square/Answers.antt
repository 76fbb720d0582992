-- `field::bitwise::square` squares each byte of the word (`squared`).
-- Assumes nothing.
use Rattle.field.proofs.Doubling.{lows, highs, squared}
use Rattle.field.proofs.bitwise.square.Goals as goal

pub returns : goal.returns
unfolding lows highs
returns c = squared c.args.w
