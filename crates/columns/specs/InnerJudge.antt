-- The vocabulary of the private functions that judge what a place in column order holds. Nobody needs to believe it: the public contract does not cite it.
-- Assumes nothing.
use Rattle.std.specs.Prelude.{◌≡◌, Bool, true, false, cond, not, List, ℕ, ◌+◌, ◌*◌, ◌≤◌, ltb, length, get_or}
use Rattle.ground.specs.Lists.{listed}
use Rattle.layout.specs.Layout.{tables_of}
use Rattle.layout.specs.Spread.{row_start}
use Rattle.places.specs.declared.Place.{Place}
use Rattle.places.specs.Places.{end_of}
use Rattle.places.specs.Room.{lowest_from}
use Rattle.contents.specs.Contents.{Slot as Content, contents, any_wrong}
use Rattle.losses.specs.Losses.{tabled}
use Rattle.columns.specs.Handing.{Handing, all_zero}
use Rattle.columns.specs.Columns.{sent_length, length_serves, misfits, lacks, row_restored, row_in, hand_full}
use Rattle.std.specs.Prelude.{Option}
use Rattle.std.specs.Prelude.{Some, None}

-- ---- what is known of a place before each step

-- the place is tabled
pub record Tabled (p : Place) (s : List ℕ) : Type 0 where
  pub fits : tabled p (length s) ≡ true
  pub ends : end_of p ≤ length s
  pub rows : 1 ≤ p.rows
  pub slot : 1 ≤ p.slot

-- none of its slots is wrong, and n bytes may be its file
pub record Serving (p : Place) (s : List ℕ) (n : ℕ) : Type 0 where
  pub place : Tabled p s
  pub right : any_wrong (contents p s) ≡ false
  pub serves : length_serves p n ≡ true
  pub most : n ≤ 16777216

-- and every filled slot has its length
pub record Shaped (p : Place) (s : List ℕ) (n : ℕ) : Type 0 where
  pub serving : Serving p s n
  pub shaped : lowest_from (misfits p.slot (sent_length p.rows n) (contents p s)) 0 p.count ≡ None

-- ---- what is found of it

-- no number was found
abbrev pub is_nothing : Option ℕ → Bool
is_nothing (Some k) = false
is_nothing None = true

-- the information bytes of row q that stand beyond n bytes of the file, and 0 for each of the others
unfoldable pub beyond_in : ℕ → ℕ → ℕ → List ℕ → List ℕ
beyond_in m n q row = listed (λ k. cond (ltb (row_start m q + k * m) n) 0 (get_or row k 0)) 239 0

-- row q, restored, holds another byte than 0 there
unfoldable pub spoilt : ℕ → ℕ → List Content → ℕ → ℕ → Bool
spoilt m size c n q = not (all_zero (beyond_in m n q (row_in (row_restored m size c q))))

-- Hand out where no length is wrong
unfoldable pub hand_judged : Place → List ℕ → ℕ → List ℕ → Handing
hand_judged p s n out = hand_full p (contents p s) n out (lowest_from (lacks p.rows p.slot (contents p s)) 0 (p.rows * tables_of p.rows n))
