-- The header's cases of document 01, section 8, hold: both sides of each pair compute to one list.
-- Assumes nothing.
use mathlib.Core.Path.{◌≡◌, refl}
use mathlib.Core.List.{List, map}
use Prim.Native.Nat.{ℕ}
use Rattle.packet.specs.Packet.{header_of}
use Rattle.packet.specs.Cases.{header_cases}

pub header_cases_lem : map (λ (c : List ℕ × List ℕ). c.0) header_cases ≡ map (λ (c : List ℕ × List ℕ). c.1) header_cases
unfolding header_of
header_cases_lem = refl
