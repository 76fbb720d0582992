-- A text as numbered lines: document 02, R-4. Each line is its two-digit number, a colon and the value, in order, ended by LF; the reader also takes CR LF.
-- Assumes nothing.
use Rattle.std.specs.Prelude.{Bool, cond, ◌&&◌, List, [], ◌∷◌, ◌++◌, ℕ, zero, suc, ◌+◌, ◌-◌, ◌/◌, ◌%◌, eqb, ltb, leb, length, get_or, take, drop}
use Rattle.slices.specs.Slices.{same}
use Rattle.texts.specs.Breaks.{LF, CR, until_lf}
use Rattle.attributes.specs.declared.Part.{Part}

-- two digits and a colon
abbrev pub label : ℕ → List ℕ
label k = (k / 10 % 10 + 48) ∷ (k % 10 + 48) ∷ 58 ∷ []

-- the lines of these values, the first numbered k, as they are written
abbrev pub lines_text : ℕ → List (List ℕ) → List ℕ
lines_text k [] = []
lines_text k (v ∷ vs) = label k ++ (v ++ (LF ∷ lines_text (suc k) vs))

-- line k stands at `at`: its label, and LF somewhere behind it
abbrev pub is_line : List ℕ → ℕ → ℕ → Bool
is_line t k at = same (take 3 (drop at t)) (label k) && ltb (until_lf (drop (at + 3) t)) (length (drop (at + 3) t))

-- of n bytes before LF those that are the value: one CR straight before LF belongs to the end
abbrev pub without_cr : List ℕ → ℕ → ℕ
without_cr s n = cond (leb 1 n && eqb (get_or s (n - 1) 0) CR) (n - 1) n

-- where the value of a line at `at` stands
unfoldable pub value_at : List ℕ → ℕ → Part
value_at t at = record { at = at + 3; length = without_cr (drop (at + 3) t) (until_lf (drop (at + 3) t)) }

-- where the next line begins
abbrev pub behind_line : List ℕ → ℕ → ℕ
behind_line t at = at + 3 + until_lf (drop (at + 3) t) + 1

-- lines in order, as many as there are: where their values stand, and where they end
pub record Found : Type 0 where
  pub parts : List Part
  pub next : ℕ

abbrev pub alone : ℕ → Found
alone at = record { parts = []; next = at }

abbrev pub before : Part → Found → Found
before p f = record { parts = p ∷ f.parts; next = f.next }

-- at most n lines from `at` on, the first numbered k
abbrev pub lines_from : List ℕ → ℕ → ℕ → ℕ → Found
lines_from t k zero at = alone at
lines_from t k (suc n) at = cond (is_line t k at) (before (value_at t at) (lines_from t (suc k) n (behind_line t at))) (alone at)

-- the fifteen lines
unfoldable pub lines_of : List ℕ → Found
lines_of t = lines_from t 1 15 0
