-- What a call answers, in document 01's own terms: a number, 0 where the call is accepted and else the refusal's (section 6), and the values beside it. Each kind of
-- answer has such a definition by its cases, in the crate that has its definitions, and a length here; the promises and the C face speak through them. Assumes nothing.
use Rattle.std.specs.Prelude.{List, [], ◌∷◌, ℕ, Result, Ok, Err}
use Rattle.refusals.specs.declared.Refusal.{Refusal}
use Rattle.refusals.specs.Refusals.{number_of, values_of}

pub record Told : Type 0 where
  pub number : ℕ
  pub values : List ℕ

abbrev pub accepted_with : List ℕ → Told
accepted_with values = record { number = 0; values = values }

abbrev pub refused_as : Refusal → Told
refused_as r = record { number = number_of r; values = values_of r }

-- of a call that hands nothing else over
abbrev pub verdict_told : Result (Unit {0}) Refusal → Told
verdict_told (Ok tt) = accepted_with []
verdict_told (Err r) = refused_as r

-- of a call that hands over how many bytes it wrote
abbrev pub length_told : Result ℕ Refusal → Told
length_told (Ok n) = accepted_with (n ∷ [])
length_told (Err r) = refused_as r
