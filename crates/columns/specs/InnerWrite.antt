-- What the private function that writes a place's file needs to know of it, once nothing is refused. Nobody needs to believe it: the public contract does not cite it.
-- Assumes nothing.
use Rattle.std.specs.Prelude.{◌≡◌, false, List, ℕ, ◌*◌, ◌≤◌, ◌<◌, length}
use Rattle.ground.specs.Lists.{ceil}
use Rattle.code.specs.Restore.{lost_of}
use Rattle.layout.specs.Layout.{tables_of}
use Rattle.places.specs.declared.Place.{Place}
use Rattle.places.specs.Places.{end_of}
use Rattle.contents.specs.Contents.{contents, any_wrong}
use Rattle.losses.specs.Losses.{lost_in}
use Rattle.columns.specs.Columns.{sent_length, misfits, uncoded}

pub record Writable (p : Place) (s : List ℕ) (n : ℕ) : Type 0 where
  pub ends : end_of p ≤ length s
  pub rows : 1 ≤ p.rows
  pub rows-most : p.rows ≤ 255
  pub slot : 1 ≤ p.slot
  pub slot-most : p.slot ≤ 65535
  pub some : 1 ≤ n
  pub most : n ≤ 16777216
  pub right : any_wrong (contents p s) ≡ false
  pub count : ceil (sent_length p.rows n) p.slot ≡ p.count
  pub shaped : (k : ℕ) → k < p.count → misfits p.slot (sent_length p.rows n) (contents p s) k ≡ false
  pub full : (q : ℕ) → q < p.rows * tables_of p.rows n → lost_of (lost_in p.rows p.slot (contents p s) q) 255 ≤ 16
  pub coded : (q : ℕ) → q < p.rows * tables_of p.rows n → uncoded p.rows p.slot (contents p s) q ≡ false
