-- `find`: a row that leaves nothing is coded as it is. Of another the locator's roots are the places, the values are solved for there, and where they give all
-- sixteen syndromes the mended row is coded; where none do, no row is near.
-- Assumes nothing.
use native.Mathlib.Omega.{arith}
use mathlib.Core.Path.{◌≡◌, ap, ◌∙◌}
use mathlib.Core.List.{List, []}
use Prim.Native.Nat.{ℕ, ◌<◌}
use native.Mathlib.Nat.{le_refl}
use lib.ListN.{length, get_or}
use borrow.Author.Rules.{rules}
use Rattle.std.proofs.Common.{Some}
use Rattle.std.specs.Cmp.Lexicographic.{same_text}
use Rattle.code.specs.Code.{Bytes}
use Rattle.code.proofs.Lists.{bytes_of}
use Rattle.errata.specs.InnerErrata.{Rooted, Solved}
use Rattle.errata.specs.InnerValues.{list_of}
use Rattle.errata.proofs.Locators.{rooted}
use Rattle.errata.proofs.Mending.{Tried, nearing, far, nothing_left}
use Rattle.errata.proofs.Keeping.{keeping_start, keeping_end}
use Rattle.errata.proofs.Leaving.{found-told, none_told}
use Rattle.errata.proofs.Entries.{list-byte}
use Rattle.errata.proofs.Solvable.{solved, solved_byte, solved_solves}
use Rattle.solving.proofs.Rests.{listed_syndromes}
use Rattle.solving.proofs.find.Goals.{Start, After-find-places}
use Rattle.solving.proofs.find.Goals as goal

sixteen : (c : Start) → length c.args.rest ≡ 16
sixteen c = omega arith

bytes : (c : Start) → Bytes c.args.rest
bytes c = bytes_of c.args.rest (λ i. let fit : mir.Val.Fits mir.Syntax.w8 (get_or c.args.rest i 0) = search rules in fit.fits)

-- the locator's roots
module _ (c : After-find-places) where
  vector-bytes : (i : ℕ) → get_or c.null_vector.result i 0 < 256
  vector-bytes i = let fit : mir.Val.Fits mir.Syntax.w8 (get_or c.null_vector.result i 0) = search (rules, c.null_vector.type_inv) in fit.fits

  places : Rooted c.null_vector.result c.find-places.result.n c.find-places.result.at
  places = let null = c.null_vector in rooted null.result null.ensures.top null.ensures.short.sized vector-bytes null.ensures.leading c.find-places.result c.find-places.ensures

  tried : (v : List ℕ) → ((k : ℕ) → get_or v k 0 < 256) → Solved c.find-places.result.at c.find-places.result.n (list_of c.syndromes-s.result) v
      → Tried c.args.rest (list_of c.syndromes-s.result) c.null_vector.result c.find-places.result.n c.find-places.result.at v
  tried v value-bytes solved =
      record {
        syndromes = listed_syndromes c.syndromes-s.ensures;
        bytes = vector-bytes;
        null = c.null_vector.ensures;
        rooted = places;
        value-bytes = value-bytes;
        solved = solved;
      }

pub returns-then-eq : goal.returns-then-eq
returns-then-eq c =
    let s = (goal.at.returns-then-eq c).Start in
    ap Some c.nothing.ensures
    ∙ found-told c.args.rest (sixteen s) (bytes s) (nothing_left c.args.rest [] [] (same_text _ _ c.if-eq.ensures)) _ (keeping_end (keeping_start [] [] 0) (le_refl 0))

pub solve-requires : goal.solve-requires
solve-requires c = (places (goal.at.solve-requires c).After-find-places).placed

pub returns-in_err-values : goal.returns-in_err-values
returns-in_err-values c =
    let p = (goal.at.returns-in_err-values c).After-find-places in
    let s = (goal.at.returns-in_err-values c).Start in
    let given : List ℕ = list_of c.syndromes-s.result in
    let each = list-byte c.syndromes-s.result in
    let placed = (places p).placed in
    let at : List ℕ = c.find-places.result.at in
    let n : ℕ = c.find-places.result.n in
    c.from_residual.ensures
    ∙ none_told c.args.rest (sixteen s) (bytes s)
    (far (tried p (solved at n placed given each) (solved_byte at n placed given each) (solved_solves at n placed given each)) (c.in_err-values.ensures _))

pub keep-requires : goal.keep-requires
keep-requires c = (places (goal.at.keep-requires c).After-find-places).ordered

pub returns : goal.returns
returns c =
    let p = (goal.at.returns c).After-find-places in
    let s = (goal.at.returns c).Start in
    let value-bytes : (i : ℕ) → get_or c.in_ok-values.values i 0 < 256 = λ i. let fit : mir.Val.Fits mir.Syntax.w8 (get_or c.in_ok-values.values i 0) = search rules in fit.fits in
    found-told c.args.rest (sixteen s) (bytes s) (nearing (tried p c.in_ok-values.values value-bytes c.in_ok-values.ensures.0) c.in_ok-values.ensures.1) c.keep.result c.keep.ensures
