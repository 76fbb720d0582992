-- A refusal changes nothing (document 01, section 6), of the two functions of the C face for descriptions; the others are in crate face, specs/Statements.antt.
-- Assumes nothing.
use Rattle.std.specs.Prelude.{List, ℕ}
use Rattle.face.specs.Statements.{OutputKept}
use Rattle.listing.specs.Listing.{describe_says, compose_says}

pub record DescriptionRefusalsChangeNothing : Type 0 where
  pub read : (t out : List ℕ) → OutputKept (describe_says t out) out
  pub write : (v t out : List ℕ) → OutputKept (compose_says v t out) out
