-- What Hand out writes, in either order: a file into an output with room for it; and the coded tables of a file, which give the file (document 01, section 5). Assumes nothing.
use mathlib.Core.Path.{◌≡◌, refl, ap, ◌∙◌}
use mathlib.Core.Bool.{true}
use mathlib.Core.List.{List, ◌++◌}
use Prim.Native.Nat.{ℕ, zero, suc, ◌-◌, ◌*◌, ◌<◌, ◌≤◌}
use native.Mathlib.Omega.{arith}
use borrow.Author.Tests.{lt-ltb, le-ltb, le-leb, ne_eqb}
use lib.ListN.{length, drop, replicate}
use Rattle.ground.proofs.Listed.{length-listed}
use Rattle.refusals.specs.declared.Refusal.TheVariants.{Output}
use Rattle.layout.specs.Layout.{tables_of, coded_file, read_back, undone}
use Rattle.layout.proofs.Coded.{tables_reach, undone-file, undone_padding}
use Rattle.places.specs.declared.Place.{Place}
use Rattle.places.specs.Places.{end_of}
use Rattle.losses.specs.Losses.{tabled}
use Rattle.columns.specs.Handing.{Handing, refusing, handed, all_zero, hand_tables}
use Rattle.std.specs.Prelude.{Ok}

-- accepted, with the file at the start of the output
abbrev pub accepted : List ℕ → List ℕ → Handing
accepted file out = record { answer = (Ok tt); output = file ++ drop (length file) out }

module _ (file out : List ℕ) where
  pub handed-short : length out < length file → handed file out ≡ refusing Output out
  handed-short h = rw (lt-ltb (length out) (length file) h)

  pub handed-whole : length file ≤ length out → handed file out ≡ accepted file out
  handed-whole h = rw (le-ltb (length out) (length file) h)

-- whole tables that hold 0 beyond n bytes
pub tables_undone : (order m : ℕ) (sent : List ℕ) (n : ℕ) (out : List ℕ) → all_zero (undone order m sent (239 * m * tables_of m n - n) n) ≡ true → n ≤ length out
    → hand_tables order m sent n out ≡ accepted (undone order m sent n 0) out
unfolding hand_tables
tables_undone order m sent n out z l =
    let size : length (undone order m sent n 0) ≡ n = length-listed (read_back order m sent) n 0 in
    rw z (handed-whole (undone order m sent n 0) out (omega arith))

zeros : (n : ℕ) → all_zero (replicate n 0) ≡ true
zeros zero = refl
zeros (suc n) = zeros n

-- the coded tables of a file, handed out at its length
pub tables_coded : (order m : ℕ) → 0 < m → (file out : List ℕ) → length file ≤ length out → hand_tables order m (coded_file order m file) (length file) out ≡ accepted file out
tables_coded order m h file out l =
    let n : ℕ = 239 * m * tables_of m (length file) - length file in
    tables_undone order m (coded_file order m file) (length file) out
    (ap all_zero (undone_padding order m h file n (omega (arith, tables_reach m (length file) h))) ∙ zeros n) l
    ∙ ap (λ (x : List ℕ). accepted x out) (undone-file order m h file)

-- a place with rows in a table and bytes in a slot that ends within the store
pub tabled_made : (p : Place) (size : ℕ) → end_of p ≤ size → 1 ≤ p.rows → 1 ≤ p.slot → tabled p size ≡ true
unfolding tabled
tabled_made p size e r s =
    rw (le-leb (end_of p) size e, ne_eqb p.rows 0 (λ z. omega arith), ne_eqb p.slot 0 (λ z. omega arith))
