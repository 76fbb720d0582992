-- Writing a description file: document 02, R-4. The refusals are 29 with the lowest line whose attribute cannot stand there, then 26.
-- Assumes nothing.
use Rattle.std.specs.Prelude.{cond, List, ℕ, leb, ltb, length}
use Rattle.std.proofs.lemmas.List.Edits.{sets}
use Rattle.refusals.specs.declared.Refusal.TheVariants.{Line, Output}
use Rattle.attributes.specs.declared.Description.{Description}
use Rattle.attributes.specs.Attributes.{Attributes, attributes_of, values}
use Rattle.attributes.specs.Rules.{rules, lowest}
use Rattle.attributes.specs.Lines.{lines_text}
use Rattle.refusals.specs.declared.Refusal.{Refusal}
use Rattle.std.specs.Prelude.{Result}
use Rattle.std.specs.Prelude.{Ok, Err}

-- the fifteen lines of the attributes
unfoldable pub text_of : Attributes → List ℕ
text_of a = lines_text 1 (values a)

pub record Writing : Type 0 where
  pub answer : Result ℕ Refusal
  pub out : List ℕ

-- a description whose texts are parts of t, written at the start of an output
unfoldable pub compose_of : List ℕ → Description → List ℕ → Writing
compose_of t d out =
    cond (leb (lowest (rules t d)) 15) (record { answer = Err (Line (lowest (rules t d))); out = out })
    (cond (ltb (length out) (length (text_of (attributes_of t d)))) (record { answer = Err Output; out = out })
    (record { answer = Ok (length (text_of (attributes_of t d))); out = sets out 0 (text_of (attributes_of t d)) }))
