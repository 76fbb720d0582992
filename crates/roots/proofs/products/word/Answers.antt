-- `roots::products::word` reads the products of the two half bytes; a byte is their sum.
-- Assumes nothing.
use Rattle.roots.proofs.Bytes.{looked}
use Rattle.roots.proofs.products.word.Goals as goal

pub returns : goal.returns
returns c = λ k h. looked _ _ _ k c.requires.2 c.requires.1 h
