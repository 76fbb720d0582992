-- The same under the house setting.
use Rattle.face.proofs.PackLaws.{packed_fits, pack_says_lem}
use Rattle.answers.proofs.Words.{fits_word}
use mathlib.Core.Path.{sym, ◌∙◌}
use native.Mathlib.Omega.{arith}
use Rattle.brithelva.proofs.bh_pack_house.Goals as goal

pub shape_of-out : goal.shape_of-out
shape_of-out c = omega arith

pub returns : goal.returns
returns c = pack_says_lem _ _ _ _ _ _ c.pack_house-packed.ensures _ (c.length_as.ensures ∙ sym (fits_word (packed_fits _ _ _ _ _ _ c.pack_house-packed.ensures)))
