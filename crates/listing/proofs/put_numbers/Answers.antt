-- Where there is no room nothing is written and 26 is answered; else the numbers stand at the start.
-- Assumes nothing.
use mathlib.Core.Path.{refl, sym, ap, ◌∙◌}
use mathlib.Core.List.{List, ◌++◌}
use Prim.Native.Nat.{ℕ}
use lib.ListN.{length, drop}
use lib.Seq.{length-take-le}
use Rattle.ground.proofs.Writing.{sets-front}
use Rattle.attributes.specs.Told.{description_list}
use Rattle.face.proofs.SayLaws.{puts-short, puts-fits}
use Rattle.listing.proofs.put_numbers.Goals as goal

pub returns-then-short : goal.returns-then-short
returns-then-short c = puts-short _ _ _ c.if-short.true refl

pub copy_from_slice-requires : goal.copy_from_slice-requires
copy_from_slice-requires c = length-take-le 30 c.args.out.now c.if-short.false ∙ sym (ap length c.numbers_of.ensures)

pub returns : goal.returns
returns c =
    let out = c.args.out.now in
    puts-fits _ _ _ c.if-short.false
    (ap (λ (l : List ℕ). l ++ drop 30 out) (c.copy_from_slice.ensures.after ∙ c.numbers_of.ensures) ∙ sym (sets-front out (description_list c.args.d) c.if-short.false))
