-- LF ends a line of a description file, and a text that stands in one has neither CR nor LF: document 02, R-4.
-- Assumes nothing.
use Rattle.std.specs.Prelude.{Bool, true, cond, not, ◌&&◌, List, [], ◌∷◌, ℕ, zero, suc, eqb}

abbrev pub LF : ℕ
LF = 10

abbrev pub CR : ℕ
CR = 13

-- how many bytes stand before the first LF, or all where there is none
abbrev pub until_lf : List ℕ → ℕ
until_lf [] = zero
until_lf (b ∷ s) = cond (eqb b LF) zero (suc (until_lf s))

-- neither CR nor LF
abbrev pub unbroken : List ℕ → Bool
unbroken [] = true
unbroken (b ∷ s) = not (eqb b LF) && (not (eqb b CR) && unbroken s)
