-- The smallest file that the examples speak of: one byte, in one packet of one row.
-- Assumes nothing.
use mathlib.Core.Path.{refl}
use mathlib.Core.List.{List, [], ◌∷◌}
use Prim.Native.Nat.{ℕ}
use native.Mathlib.Omega.{arith}
use Rattle.code.specs.Code.{Bytes}
use Rattle.settings.specs.declared.Settings.{Settings}
use Rattle.settings.specs.Settings.{settings_fit}
use Rattle.promises.specs.Statements.{Protected}

abbrev pub one : Settings
one = record { resource = 5; kind = 1; update = 0; protection = 1; rows = 1; size = 255; edition = 2; order = 0 }

abbrev pub byte : List ℕ
byte = 7 ∷ []

pub protected : Protected one byte
unfolding settings_fit Bytes
protected = record { bytes = (omega arith, tt); some = omega arith; limit = omega arith; fit = refl; protection = refl; count = omega arith }
