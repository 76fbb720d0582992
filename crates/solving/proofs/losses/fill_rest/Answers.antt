-- `losses::fill_rest`: places that do not fall fit nothing. A row that leaves nothing is coded as it is. Of another the values at the places are solved for, and where they give all
-- sixteen syndromes the row with them is coded; where none do, nothing fits.
-- Assumes nothing.
use native.Mathlib.Omega.{arith}
use mathlib.Core.Path.{◌≡◌, sym, ◌∙◌}
use mathlib.Core.Bool.{true}
use mathlib.Core.List.{List}
use Prim.Native.Nat.{ℕ, ◌<◌}
use lib.ListN.{length, get_or}
use borrow.Author.Rules.{rules}
use Rattle.std.specs.Cmp.Lexicographic.{same_text}
use Rattle.code.specs.Code.{Bytes}
use Rattle.code.proofs.Lists.{bytes_of}
use Rattle.errata.specs.Restoring.{falling_to}
use Rattle.errata.specs.InnerErrata.{Solved}
use Rattle.errata.specs.InnerValues.{list_of}
use Rattle.errata.proofs.Mending.{Weighed}
use Rattle.errata.proofs.Places.{falling-few, falling-placed}
use Rattle.errata.proofs.Fitting.{not_falling, nothing-fits, filled-told, weighed_fits, given_none}
use Rattle.errata.proofs.Entries.{list-byte}
use Rattle.errata.proofs.Solvable.{solved, solved_byte, solved_solves}
use Rattle.solving.proofs.Rests.{listed_syndromes}
use Rattle.solving.proofs.losses.fill_rest.Goals.{After-eq, After-syndromes}
use Rattle.solving.proofs.losses.fill_rest.Goals as goal

-- the places fall
module _ (c : After-eq) where
  falls : falling_to c.args.at c.args.n ≡ true
  falls = sym c.falling.ensures ∙ c.if-not-falling.false

  rest_long : length c.args.rest ≡ 16
  rest_long = omega arith

  at_long : length c.args.at ≡ 16
  at_long = omega arith

  rest_bytes : Bytes c.args.rest
  rest_bytes = bytes_of c.args.rest (λ i. let fit : mir.Val.Fits mir.Syntax.w8 (get_or c.args.rest i 0) = search rules in fit.fits)

weighed : (c : After-syndromes) → falling_to c.args.at c.args.n ≡ true → (v : List ℕ) → ((i : ℕ) → get_or v i 0 < 256) → Solved c.args.at c.args.n (list_of c.syndromes.result) v
    → Weighed c.args.rest (list_of c.syndromes.result) c.args.n c.args.at v
weighed c falling v value-bytes solved =
    record {
      syndromes = listed_syndromes c.syndromes.ensures;
      placed = falling-placed _ _ falling;
      value-bytes = value-bytes;
      solved = solved;
    }

pub returns-then-not-falling : goal.returns-then-not-falling
returns-then-not-falling c = not_falling _ _ _ (sym c.falling.ensures ∙ c.if-not-falling.true)

pub filled-requires : goal.filled-requires
filled-requires c = falling-few _ _ (falls (goal.at.filled-requires c).After-eq)

pub returns-then-eq : goal.returns-then-eq
returns-then-eq c =
    let p = (goal.at.returns-then-eq c).After-eq in
    filled-told c.args.rest c.args.at c.args.n (falls p) (rest_long p) (rest_bytes p) (at_long p) c.args.rest
    (nothing-fits c.args.rest c.args.at c.args.n (falls p) (rest_long p) (rest_bytes p) (at_long p) (same_text _ _ c.if-eq.ensures)) c.filled.result c.filled.ensures

pub solve-requires : goal.solve-requires
solve-requires c = falling-placed _ _ (falls (goal.at.solve-requires c).After-eq)

pub returns-in_err-values : goal.returns-in_err-values
returns-in_err-values c =
    let p = (goal.at.returns-in_err-values c).After-eq in
    let given : List ℕ = list_of c.syndromes.result in
    let each = list-byte c.syndromes.result in
    let placed = falling-placed _ _ (falls p) in
    c.from_residual.ensures
    ∙ given_none c.args.rest c.args.at c.args.n (falls p) (rest_long p) (rest_bytes p) (at_long p)
    (weighed (goal.at.returns-in_err-values c).After-syndromes (falls p) (solved _ _ placed given each) (solved_byte _ _ placed given each) (solved_solves _ _ placed given each))
    (c.in_err-values.ensures _)

pub filled-requires-2 : goal.filled-requires-2
filled-requires-2 c = falling-few _ _ (falls (goal.at.filled-requires-2 c).After-eq)

pub returns : goal.returns
returns c =
    let p = (goal.at.returns c).After-eq in
    let v : List ℕ = c.in_ok-values.values in
    let value-bytes : (i : ℕ) → get_or v i 0 < 256 = λ i. let fit : mir.Val.Fits mir.Syntax.w8 (get_or c.in_ok-values.values i 0) = search rules in fit.fits in
    filled-told c.args.rest c.args.at c.args.n (falls p) (rest_long p) (rest_bytes p) (at_long p) v
    (weighed_fits c.args.rest c.args.at c.args.n (falls p) (rest_long p) (rest_bytes p) (at_long p)
    (weighed (goal.at.returns c).After-syndromes (falls p) v value-bytes c.in_ok-values.ensures.0) c.in_ok-values.ensures.1)
    c.filled-2.result c.filled-2.ensures
