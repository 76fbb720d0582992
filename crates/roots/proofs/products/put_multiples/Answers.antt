-- `roots::products::put_multiples` puts 0, and then four blocks, each as long as all in front of it (`Making`).
-- Assumes nothing.
use native.Mathlib.Omega.{arith}
use Rattle.roots.proofs.Making.{multiples_all}
use Rattle.roots.proofs.products.put_multiples.Goals as goal

pub returns : goal.returns
returns c =
    multiples_all _ _ _ _ _ _ _ _ _ _ c.requires.0 (omega arith)
    c.put_block.ensures c.doubles-twice.ensures
    c.put_block-2.ensures c.doubles-fourfold.ensures
    c.put_block-3.ensures c.doubles-eightfold.ensures
    c.put_block-4.ensures
