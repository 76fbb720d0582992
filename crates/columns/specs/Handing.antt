-- What Hand out answers and writes, whichever way a place's file was sent: document 01, section 5, and refusals 24 and 26.
-- Assumes nothing.
use Rattle.std.specs.Prelude.{Bool, true, cond, not, ◌&&◌, List, [], ◌∷◌, ◌++◌, ℕ, ◌-◌, ◌*◌, eqb, ltb, length, drop}
use Rattle.refusals.specs.declared.Refusal.{Refusal}
use Rattle.refusals.specs.declared.Refusal.TheVariants.{Padding, Output}
use Rattle.layout.specs.Layout.{tables_of, undone}
use Rattle.std.specs.Prelude.{Result}
use Rattle.std.specs.Prelude.{Ok, Err}

-- what is answered, and what the output then holds
pub record Handing : Type 0 where
  pub answer : Result (Unit {0}) Refusal
  pub output : List ℕ

abbrev pub refusing : Refusal → List ℕ → Handing
refusing r out = record { answer = Err r; output = out }

-- a file at the start of the output, the rest of it unchanged
abbrev pub handed : List ℕ → List ℕ → Handing
handed file out =
    cond (ltb (length out) (length file)) (refusing Output out) (record { answer = (Ok tt); output = file ++ drop (length file) out })

abbrev pub all_zero : List ℕ → Bool
all_zero [] = true
all_zero (x ∷ xs) = eqb x 0 && all_zero xs

-- n bytes of whole tables that were sent in an order: refusal 24 where a position beyond them is not 0
unfoldable pub hand_tables : ℕ → ℕ → List ℕ → ℕ → List ℕ → Handing
hand_tables order m sent n out =
    cond (not (all_zero (undone order m sent (239 * m * tables_of m n - n) n))) (refusing Padding out) (handed (undone order m sent n 0) out)
