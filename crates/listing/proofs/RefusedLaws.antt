-- A refused reading or writing of a description leaves its output.
-- Assumes nothing.
use mathlib.Core.Path.{refl}
use mathlib.Core.Bool.{Bool, true, false, cond}
use mathlib.Core.List.{List}
use Prim.Native.Nat.{ℕ}
use native.Mathlib.Omega.{arith}
use lib.Dec.{eqb, leb, ltb}
use lib.ListN.{length}
use lib.Seq.{sets}
use Rattle.refusals.specs.declared.Refusal.TheVariants.{Line, Output, Field}
use Rattle.refusals.specs.Told.{refused_as}
use Rattle.attributes.specs.declared.Description.{Description}
use Rattle.attributes.specs.Attributes.{attributes_of}
use Rattle.attributes.specs.Rules.{rules, lowest}
use Rattle.attributes.specs.Describe.{describe_of}
use Rattle.attributes.specs.Compose.{Writing, text_of, compose_of}
use Rattle.attributes.specs.Told.{described_told}
use Rattle.face.specs.Face.{answer_of}
use Rattle.face.proofs.RefusedLaws.{SaidKept, put_if_kept, output-kept}
use Rattle.listing.specs.Listing.{description_from, describe_says, composed_answer, compose_says}
use Rattle.listing.specs.Statements.{DescriptionRefusalsChangeNothing}
use Rattle.std.specs.Prelude.{Ok, Err}

read_kept : (t out : List ℕ) → SaidKept (describe_says t out) out
unfolding describe_says
read_kept t out = put_if_kept (described_told (describe_of t)) (described_told (describe_of t)).values out

-- only an accepted writing has another output
compose_kept : (t : List ℕ) (d : Description) (out : List ℕ) → SaidKept (record { answer = composed_answer (compose_of t d out).answer; output = (compose_of t d out).out }) out
unfolding compose_of
compose_kept t d out = by (leb (lowest (rules t d)) 15) (ltb (length out) (length (text_of (attributes_of t d))))
  where
    outcome : Bool → Bool → Writing
    outcome b c =
        cond b (record { answer = Err (Line (lowest (rules t d))); out = out })
        (cond c (record { answer = Err Output; out = out })
        (record { answer = Ok (length (text_of (attributes_of t d))); out = sets out 0 (text_of (attributes_of t d)) }))

    by : (b c : Bool) → SaidKept (record { answer = composed_answer (outcome b c).answer; output = (outcome b c).out }) out
    by true c e = refl
    by false true e = refl
    by false false e = absurd (e (omega arith))

write_kept : (v t out : List ℕ) → SaidKept (compose_says v t out) out
unfolding compose_says
write_kept v t out = by (eqb (length v) 30)
  where
    by : (b : Bool)
        → SaidKept (cond b (record { answer = composed_answer (compose_of t (description_from v) out).answer; output = (compose_of t (description_from v) out).out })
        (record { answer = answer_of (refused_as Field); output = out })) out
    by true e = compose_kept t (description_from v) out e
    by false e = refl

pub description_refusals : DescriptionRefusalsChangeNothing
description_refusals = record {
  read = λ t out. output-kept (describe_says t out) out (read_kept t out);
  write = λ v t out. output-kept (compose_says v t out) out (write_kept v t out);
}
