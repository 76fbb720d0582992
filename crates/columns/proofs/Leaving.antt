-- A refused Hand out leaves the output: document 01, section 6. Here what both orders share, and column order. Assumes nothing.
use mathlib.Core.Path.{◌≡◌, refl}
use mathlib.Core.Bool.{Bool, true, false, cond, not}
use mathlib.Core.List.{List}
use Prim.Native.Nat.{ℕ, ◌-◌, ◌*◌}
use native.Mathlib.Omega.{arith}
use lib.Dec.{ltb}
use lib.ListN.{length}
use Rattle.refusals.specs.declared.Refusal.{Refusal}
use Rattle.refusals.specs.declared.Refusal.TheVariants.{Shape, Size, Padding, Output, Lost, Code}
use Rattle.layout.specs.Layout.{tables_of, undone}
use Rattle.places.specs.declared.Place.{Place}
use Rattle.places.specs.Room.{lowest_from}
use Rattle.contents.specs.Contents.{Slot as Content}
use Rattle.columns.specs.Handing.{Handing, refusing, handed, all_zero, hand_tables}
use Rattle.columns.specs.Columns.{sent_length, length_serves, misfits, lacks, uncoded, restored, hand_coded, hand_full, hand_shaped, hand_columns}
use Rattle.columns.proofs.Handed.{accepted}
use Rattle.std.specs.Prelude.{Option}
use Rattle.std.specs.Prelude.{Err}
use Rattle.std.specs.Prelude.{Some, None}

abbrev pub Leaves : List ℕ → Handing → Type 0
Leaves out h = (r : Refusal) → h.answer ≡ Err r → h.output ≡ out

module _ (out : List ℕ) where
  pub leaves_or : (b : Bool) (g h : Handing) → Leaves out g → Leaves out h → Leaves out (cond b g h)
  leaves_or true g h a b = a
  leaves_or false g h a b = b

  pub leaves-refusing : (r : Refusal) → Leaves out (refusing r out)
  leaves-refusing r x e = refl

  pub leaves-handed : (file : List ℕ) → Leaves out (handed file out)
  leaves-handed file =
      leaves_or (ltb (length out) (length file)) (refusing Output out) (accepted file out) (leaves-refusing Output)
      (λ r e. let z : ◌≡◌ {A = ℕ} 0 1 = cc in absurd (omega arith))

  pub leaves_tables : (order m : ℕ) (sent : List ℕ) (n : ℕ) → Leaves out (hand_tables order m sent n out)
  unfolding hand_tables
  leaves_tables order m sent n =
      leaves_or (not (all_zero (undone order m sent (239 * m * tables_of m n - n) n))) _ _ (leaves-refusing Padding) (leaves-handed (undone order m sent n 0))

  module _ (p : Place) (c : List Content) (n : ℕ) where
    leaves-coded : (w : Option ℕ) → Leaves out (hand_coded p c n out w)
    leaves-coded (Some q) = leaves-refusing Code
    leaves-coded None = leaves_tables 1 p.rows (restored p.rows p.slot c (sent_length p.rows n)) n

    leaves-full : (w : Option ℕ) → Leaves out (hand_full p c n out w)
    leaves-full (Some q) = leaves-refusing (Lost q)
    leaves-full None = leaves-coded (lowest_from (uncoded p.rows p.slot c) 0 (p.rows * tables_of p.rows n))

    leaves-shaped : (w : Option ℕ) → Leaves out (hand_shaped p c n out w)
    leaves-shaped (Some k) = leaves-refusing Shape
    leaves-shaped None = leaves-full (lowest_from (lacks p.rows p.slot c) 0 (p.rows * tables_of p.rows n))

    pub leaves_columns : Leaves out (hand_columns p c n out)
    unfolding hand_columns
    leaves_columns =
        leaves_or (length_serves p n) _ _ (leaves-shaped (lowest_from (misfits p.slot (sent_length p.rows n) c) 0 p.count)) (leaves-refusing Size)
