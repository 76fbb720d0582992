-- The kind of content in each block of the table, by the block's first and last kind.
-- Assumes nothing.
use mathlib.Core.Path.{◌≡◌}
use mathlib.Core.Bool.{true, false}
use Prim.Native.Nat.{ℕ, ◌≤◌}
use native.Mathlib.Omega.{arith}
use borrow.Author.Tests.{le-leb, lt-leb, ltb-true}
use lib.Dec.{leb, ltb}
use Rattle.content.specs.Content.{content_of}
use Rattle.content.specs.declared.Content.TheVariants.{File, Stream, Reserved}

module _ (kind : ℕ) where
  -- the tests of the blocks before that of `first`
  past : (first n : ℕ) → first ≤ kind → ltb n first ≡ true → leb kind n ≡ false
  past first n h t = lt-leb kind n (omega (arith, ltb-true n first t))

  pub from_0 : kind ≤ 4 → File ≡ content_of kind
  unfolding content_of
  from_0 h = simp (le-leb kind 4)

  pub from_5 : 5 ≤ kind → kind ≤ 20 → Reserved ≡ content_of kind
  unfolding content_of
  from_5 l h = simp (past 5, le-leb kind 20)

  pub from_21 : 21 ≤ kind → kind ≤ 24 → File ≡ content_of kind
  unfolding content_of
  from_21 l h = simp (past 21, le-leb kind 24)

  pub from_25 : 25 ≤ kind → kind ≤ 40 → Reserved ≡ content_of kind
  unfolding content_of
  from_25 l h = simp (past 25, le-leb kind 40)

  pub from_41 : 41 ≤ kind → kind ≤ 44 → File ≡ content_of kind
  unfolding content_of
  from_41 l h = simp (past 41, le-leb kind 44)

  pub from_45 : 45 ≤ kind → kind ≤ 60 → Reserved ≡ content_of kind
  unfolding content_of
  from_45 l h = simp (past 45, le-leb kind 60)

  pub from_61 : 61 ≤ kind → kind ≤ 61 → File ≡ content_of kind
  unfolding content_of
  from_61 l h = simp (past 61, le-leb kind 61)

  pub from_62 : 62 ≤ kind → kind ≤ 127 → Reserved ≡ content_of kind
  unfolding content_of
  from_62 l h = simp (past 62, le-leb kind 127)

  pub from_128 : 128 ≤ kind → kind ≤ 131 → Stream ≡ content_of kind
  unfolding content_of
  from_128 l h = simp (past 128, le-leb kind 131)

  pub from_132 : 132 ≤ kind → Reserved ≡ content_of kind
  unfolding content_of
  from_132 l = simp (past 132)
