-- What packing answers and leaves, its answer as a number, which fits since no packet has more than 4095 bytes.
use Rattle.face.proofs.PackLaws.{packed_fits, pack_says_lem}
use Rattle.answers.proofs.Words.{fits_word}
use mathlib.Core.Path.{sym, ◌∙◌}
use native.Mathlib.Omega.{arith}
use Rattle.brithelva.proofs.bh_pack_as.Goals as goal

pub shape_of-out : goal.shape_of-out
shape_of-out c = omega arith

pub returns : goal.returns
returns c = pack_says_lem _ _ _ _ _ _ c.pack-packed.ensures _ (c.length_as.ensures ∙ sym (fits_word (packed_fits _ _ _ _ _ _ c.pack-packed.ensures)))
