-- What a position rule is: document 01, section 3. Two maps between the numbers of a run of bytes and the spots of tables with m rows and w columns, each the
-- other's inverse where both are defined; tables follow one another. Proved of the file's bytes and of what is sent (proofs/Places.antt). Assumes nothing.
use Rattle.std.specs.Prelude.{◌≡◌, ℕ, ◌*◌, ◌/◌, ◌<◌}
use Rattle.layout.specs.Layout.{Spot}

pub record Rule (m w : ℕ) (byte_at : Spot → ℕ) (spot_at : ℕ → Spot) : Type 0 where
  pub row_below : (i : ℕ) → (spot_at i).row < m
  pub column-below : (i : ℕ) → (spot_at i).column < w
  pub table_is : (i : ℕ) → (spot_at i).table ≡ i / (w * m)
  pub byte_of_spot : (i : ℕ) → byte_at (spot_at i) ≡ i
  pub spot_of_byte : (s : Spot) → s.row < m → s.column < w → spot_at (byte_at s) ≡ s
