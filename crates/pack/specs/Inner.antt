-- Vocabulary for the contracts of this crate's private functions. Nobody needs to believe it: the public calls' contracts (Pack.antt) do not name it.
-- Assumes nothing.
use Rattle.std.specs.Prelude.{◌≡◌, true, cond, not, ◌||◌, List, ℕ, ◌+◌, ◌-◌, ◌*◌, ◌<◌, ◌≤◌, min, eqb, leb, ltb, length, take, drop}
use Rattle.refusals.specs.declared.Refusal.TheVariants.{Number, Field, Size, Count}
use Rattle.settings.specs.declared.Settings.{Settings}
use Rattle.settings.specs.Settings.{settings_fit}
use Rattle.layout.specs.Layout.{tables_of, coded_file}
use Rattle.pack.specs.Pack.{largest_file, coded_length, count_of}
use Rattle.refusals.specs.declared.Refusal.{Refusal}
use Rattle.std.specs.Prelude.{Result}
use Rattle.std.specs.Prelude.{Ok, Err}

-- the bytes of payload n, for a file of len bytes
abbrev pub payload_length : Settings → ℕ → ℕ → ℕ
payload_length g len n = min g.size (coded_length g len - n * g.size)

-- the first of the refusals 17, 23, 25, 6; or the count of packets and the length of the payload
unfoldable pub plan_of : Settings → ℕ → ℕ → Result (ℕ × ℕ) Refusal
plan_of g len n =
    cond (not (settings_fit g)) (Err Field)
    (cond (eqb len 0 || ltb largest_file len) (Err Size)
    (cond (ltb 1048575 (count_of g len)) (Err Count)
    (cond (leb (count_of g len) n) (Err Number) (Ok ((count_of g len), (payload_length g len n))))))

-- what a plan that goes on has found: packet n of a file of len bytes can be made
pub record Packable (g : Settings) (len n : ℕ) : Type 0 where
  pub fits : settings_fit g ≡ true
  pub some : 0 < len
  pub most : len ≤ largest_file
  pub few : count_of g len ≤ 1048575
  pub below : n < count_of g len

-- rows q, q + 1, .., n of them, of the coded file in row order
abbrev pub coded_rows : List ℕ → ℕ → ℕ → ℕ → List ℕ
coded_rows file m q n = take (n * 255) (drop (q * 255) (coded_file 0 m file))

-- n rows from row q on are there, and there is room for them from byte `at` on
pub record RunFits (file : List ℕ) (m q n room at : ℕ) : Type 0 where
  pub rows : 0 < m
  pub rows-most : m ≤ 255
  pub len : length file ≤ largest_file
  pub few : n ≤ 15
  pub there : q + n ≤ m * tables_of m (length file)
  pub enough : at + n * 255 ≤ room
