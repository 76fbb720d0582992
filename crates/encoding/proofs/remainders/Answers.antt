-- One row more at each turn, to the last of fifteen at most.
-- Assumes nothing.
use mathlib.Core.Path.{◌≡◌, refl, sym, ap, ◌∙◌}
use mathlib.Core.List.{List}
use Prim.Native.Nat.{ℕ, ◌+◌, ◌*◌}
use native.Mathlib.Omega.{arith}
use lib.Seq.{sets}
use Rattle.ground.proofs.Pieces.{pieces, pieces_one, laid_more, laid_done}
use Rattle.encoding.specs.Encode.{rest_of, rows_in, remainders_of}
use Rattle.encoding.specs.InnerRegister.{remainder_at}
use Rattle.encoding.proofs.Feeding.{length_rest}
use Rattle.encoding.proofs.remainders.Goals as goal

at_zero : (f : ℕ → List ℕ) (i : ℕ) → pieces f 1 (0 + i) ≡ f i
at_zero f i = let e : 0 + i ≡ i = omega arith in pieces_one f (0 + i) ∙ ap f e

rest_is_of : (b : List ℕ) (i : ℕ) → remainder_at b (i * 255) ≡ rest_of b i
unfolding rest_of remainder_at
rest_is_of b i = refl

pub loop-i-preserved : goal.loop-i-preserved
loop-i-preserved c =
    let b : List ℕ = c.args.rows.now in
    laid_more (rest_of b) 16 (length_rest b) (rows_in b) 0 _ _ _ c.loop-i.i 1 (omega arith)
    (c.put.ensures
    ∙ ap (sets c.loop-i.out (c.loop-i.i * 16)) (c.rest-r.ensures ∙ rest_is_of b c.loop-i.i ∙ sym (at_zero (rest_of b) c.loop-i.i)))
    c.loop-i.invariant

pub returns : goal.returns
unfolding remainders_of
returns c = laid_done _ _ _ _ _ _ _ (omega arith) c.loop-i.invariant
