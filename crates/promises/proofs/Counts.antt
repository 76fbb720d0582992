-- Files of different counts: the packets of each are refused at the other's place, so one list can carry both; and what a place holds is handed out at no length that needs
-- another number of packets or tables. And packets of another size: a payload that is longer than a place's slots is refused there. Assumes nothing.
use mathlib.Core.Path.{◌≡◌, refl, sym}
use mathlib.Core.Bool.{Bool, true, false}
use mathlib.Core.List.{List, ◌++◌}
use Prim.Native.Nat.{ℕ}
use native.Mathlib.Omega.{arith}
use lib.ListN.{length, replicate}
use Rattle.code.proofs.Lists.{zeros_bytes}
use Rattle.refusals.specs.declared.Refusal.TheVariants.{Other, Wide}
use Rattle.packet.specs.declared.Packet.{Packet}
use Rattle.settings.specs.declared.Settings.{Settings}
use Rattle.pack.specs.Pack.{count_of, packet_of}
use Rattle.pack.proofs.Laws.{fields_of, packet_reads}
use Rattle.places.specs.declared.Place.{Place}
use Rattle.places.specs.Places.{place_of}
use Rattle.record.specs.Offer.{differs}
use Rattle.record.proofs.OfferCases.{judge-other, judge_wide}
use Rattle.record.proofs.OfferFacts.{same-file}
use Rattle.promises.specs.Calls.{Call, step}
use Rattle.promises.specs.Statements.{Protected, Fair, AllFair, Carries, place_at, DifferentCounts, OneCount, OtherLengthRefused, NoWider}
use Rattle.promises.proofs.Noise.{refused_is_noise}
use Rattle.promises.proofs.Own.{fair_each, own, own-before, own_behind}
use Rattle.promises.proofs.Demand.{collected, refuses}
use Rattle.promises.proofs.Slots.{refused-there}
use Rattle.promises.proofs.Example.{one, byte, protected}

-- a packet with another count is not of the place's file
count-differs : (p : Place) (f : Packet) → (f.count ≡ p.count → ⊥) → differs p f ≡ true
count-differs p f d = by (differs p f) refl
  where
    by : (t : Bool) → differs p f ≡ t → t ≡ true
    by true e = refl
    by false e = absurd (d (same-file p f e).count)

-- ---- two files, carried by one list

-- the packets of b are noise at the place of a
noise-fair : (g : Settings) (a b : List ℕ) → Protected g b → (count_of g (length b) ≡ count_of g (length a) → ⊥) → AllFair g a (own g b)
noise-fair g a b p d =
    fair_each g a (packet_of g b) (count_of g (length b))
    (λ i below. Fair.noise (packet_of g b i) (refused_is_noise g a (packet_of g b i) Other false (fields_of g b i) (packet_reads g b i p.fit p.count below)
    (judge-other (place_of g (count_of g (length a)) 0) (fields_of g b i) (packet_of g b i) (count-differs (place_of g (count_of g (length a)) 0) (fields_of g b i) d))))

pub different_counts : DifferentCounts
different_counts g a b pa pb d = (
  own g a ++ own g b,
  own-before g a pa (noise-fair g a b pb (λ e. d (sym e))),
  own_behind g b pb (noise-fair g b a pa d),
)

-- a file of one byte, in one packet, and one of 240, in two
abbrev longer : List ℕ
longer = replicate 240 0

pub one_and_two_packets : (cs : List Call) × Carries one byte cs × Carries one longer cs
one_and_two_packets =
    different_counts one byte longer protected
    (record { bytes = zeros_bytes 240; some = omega arith; limit = omega arith; fit = protected.fit; protection = refl; count = omega arith })
    (λ e. omega arith)

-- ---- at one place

pub one_count : OneCount step
one_count x q f i read h d = refused-there x q f i Other read h (judge-other (place_at x i) f q (count-differs (place_at x i) f d))

pub no_wider : NoWider step
no_wider x q f i read h d o w = refused-there x q f i Wide read h (judge_wide (place_at x i) f q d o w)

pub other-length-refused : OtherLengthRefused step
other-length-refused g file p x answer cs carried n d out =
    let c = collected g file p x answer cs carried in
    refuses g file p c.place c.start _ c.collecting c.all n out d
