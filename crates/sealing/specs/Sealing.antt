-- A packet's CRC: document 01, section 4, its last four bytes; and section 5, Offer, where it is judged.
-- Assumes nothing.
use Rattle.std.specs.Prelude.{Bool, cond, ◌&&◌, List, [], ◌∷◌, ◌++◌, ℕ, ◌+◌, ◌-◌, ◌*◌, ◌/◌, ◌%◌, eqb, leb, length, get_or, take}
use Rattle.std.proofs.lemmas.List.Edits.{sets}
use Rattle.refusals.specs.declared.Refusal.TheVariants.{Output}
use Rattle.crc.specs.Crc.{crc32_of}
use Rattle.refusals.specs.declared.Refusal.{Refusal}
use Rattle.std.specs.Prelude.{Result}
use Rattle.std.specs.Prelude.{Ok, Err}

-- a number as four bytes, the most significant first
abbrev pub four_bytes : ℕ → List ℕ
four_bytes v = (v / 16777216 % 256) ∷ (v / 65536 % 256) ∷ (v / 256 % 256) ∷ (v % 256) ∷ []

-- bytes with their CRC behind them
unfoldable pub sealed : List ℕ → List ℕ
sealed b = b ++ four_bytes (crc32_of b)

-- refusal 26 where there is no room behind the first n of `room` bytes
unfoldable pub seal_verdict : ℕ → ℕ → Result (Unit {0}) Refusal
seal_verdict room n = cond (leb (n + 4) room) (Ok tt) (Err Output)

-- the CRC of the first n bytes, written behind them; beside a refusal nothing is
unfoldable pub sealed_at : List ℕ → ℕ → List ℕ
sealed_at out n = cond (leb (n + 4) (length out)) (sets out n (four_bytes (crc32_of (take n out)))) out

-- the CRC as sent, the most significant byte first
abbrev pub crc_in : List ℕ → ℕ
crc_in q =
    get_or q (length q - 4) 0 * 16777216 + get_or q (length q - 3) 0 * 65536 + get_or q (length q - 2) 0 * 256 + get_or q (length q - 1) 0

-- it is that of the header as received and the repaired payload
unfoldable pub agrees : List ℕ → List ℕ → Bool
agrees q b = eqb (crc_in q) (crc32_of (take 14 q ++ b))

-- whether it is; never of bytes that are too few for a header
unfoldable pub crc_agrees : List ℕ → List ℕ → Bool
crc_agrees q b = leb 14 (length q) && agrees q b
