-- The vocabulary of the private functions' contracts. Nobody needs to believe anything here: what the public calls promise is said without it.
-- Assumes nothing.
use Rattle.std.specs.Prelude.{ℕ, Result, Ok, Err}
use Rattle.refusals.specs.declared.Refusal.{Refusal}
use Rattle.opening.specs.Open.{Plan, refuse, take}

-- a plan as the code holds it
abbrev pub planned : Plan → Result (ℕ × ℕ) Refusal
planned (refuse r) = Err r
planned (take i start) = Ok (i, start)
