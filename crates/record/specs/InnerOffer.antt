-- The vocabulary of the private functions behind Offer. Nobody needs to believe it: the public contract does not cite it.
-- Assumes nothing.
use Rattle.std.specs.Prelude.{◌≡◌, List, ℕ}
use Rattle.refusals.specs.declared.Refusal.{Refusal}
use Rattle.refusals.specs.declared.Refusal.TheVariants.{Unknown}
use Rattle.record.specs.declared.Offered.{Offered}
use Rattle.record.specs.Offer.{Offering}
use Rattle.packet.specs.declared.Packet.{Packet}
use Rattle.std.specs.Prelude.{Result}
use Rattle.std.specs.Prelude.{Ok, Err}

-- an answer and the store beside it are those of an offering
abbrev pub Comes : Offering → Result Offered Refusal → List ℕ → Type 0
Comes o a s = (a ≡ o.answer) × (s ≡ o.store)

-- what is answered for a reading where no place holds what it names
abbrev pub nowhere : Result Packet Refusal → Result Offered Refusal
nowhere (Err r) = Err r
nowhere (Ok f) = Err Unknown
