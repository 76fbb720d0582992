-- Demand 3 from a fresh record over a store with room: every packet is packed, open is accepted, and the demand does the rest.
-- Assumes nothing.
use mathlib.Core.Path.{◌≡◌, refl, ap, subst, ◌∙◌}
use mathlib.Core.Bool.{Bool, true, false, cond}
use mathlib.Core.List.{List, [], ◌∷◌, ◌++◌}
use Prim.Native.Nat.{ℕ, ◌*◌, ◌≤◌, ◌<◌}
use native.Mathlib.Nat.{mul_assoc}
use native.Mathlib.Omega.{arith}
use borrow.Author.Tests.{le-leb}
use lib.Dec.{leb}
use lib.ListN.{length, drop}
use Rattle.refusals.specs.Told.{accepted_with, verdict_told}
use Rattle.ground.proofs.Listed.{ceil_positive}
use Rattle.settings.specs.declared.Settings.{Settings}
use Rattle.settings.proofs.Laws.{settings_facts}
use Rattle.pack.specs.Pack.{Packing, count_of, coded_length, packet_of}
use Rattle.pack.specs.Told.{packed_told}
use Rattle.pack.proofs.Laws.{rows_positive, length_tables}
use Rattle.pack.proofs.Plans.{pack_accepts}
use Rattle.layout.specs.Layout.{tables_of}
use Rattle.layout.proofs.Coded.{tables_reach}
use Rattle.places.specs.Places.{usable, count_fits, fresh_record, first_from}
use Rattle.places.proofs.Keeping.{fresh-good}
use Rattle.places.proofs.Opened.{fresh-lowest}
use Rattle.opening.specs.Open.{take, Opening, carried_out, open_of}
use Rattle.opening.proofs.PlanLaws.{Taking, taking_plan, open_by}
use Rattle.promises.specs.Calls.{Answer, telling, State, step, fresh}
use Rattle.promises.specs.Calls.Call.{packing, opening}
use Rattle.promises.specs.Statements.{Protected, room_of, FromFresh}
use Rattle.promises.proofs.Demand.{demand_3}

-- what a store has, and the limit allows, is usable
pub within-usable : (x n : ℕ) → x ≤ n → x ≤ 16777216 → x ≤ usable n
within-usable x n fits limit = by (leb n 16777216)
  where
    by : (b : Bool) → x ≤ cond b n 16777216
    by true = fits
    by false = limit

module _ (g : Settings) (file : List ℕ) (p : Protected g file) where
  -- a file that is there has a packet
  pub counted : count_fits (count_of g (length file)) ≡ true
  counted = rw (le-leb 1 (count_of g (length file)) (one_packet), le-leb (count_of g (length file)) 1048575 p.count) refl
    where
      one_packet : 1 ≤ count_of g (length file)
      one_packet =
          let plain : g.protection ≡ 0 → ⊥ = λ z. omega (arith, p.protection) in
          let t : ℕ = tables_of g.rows (length file) in
          let reach : length file ≤ 239 * (g.rows * t) =
          subst (λ (x : ℕ). length file ≤ x) (mul_assoc 239 g.rows t) (tables_reach g.rows (length file) (rows_positive g p.fit plain)) in
          let coded : coded_length g (length file) ≡ 255 * (g.rows * t) = length_tables g (length file) plain ∙ mul_assoc 255 g.rows t in
          ceil_positive (coded_length g (length file)) g.size (settings_facts g p.fit).size.least (omega (arith, p.some))

  module _ (s : List ℕ) (fits : room_of g file ≤ length s) (limit : room_of g file ≤ 16777216) where
    -- the first place, from the start of the store on
    pub takes : Taking fresh_record (length s) g (count_of g (length file)) 0 0
    unfolding first_from
    takes = record {
      fitting = record { sound = fresh-good (length s); fits = p.fit; counted = counted };
      absent = refl;
      unused = refl;
      lowest = fresh-lowest (length s) (room_of g file) (within-usable (room_of g file) (length s) fits limit);
    }

    -- and what opening comes to
    pub taken : open_of fresh_record s g (count_of g (length file)) ≡ carried_out fresh_record s g (count_of g (length file)) (take 0 0)
    taken = open_by fresh_record s g (count_of g (length file)) (take 0 0) (taking_plan fresh_record (length s) g (count_of g (length file)) 0 0 takes)

    pub opens : (step (opening g (count_of g (length file))) (fresh s)).answer ≡ telling (accepted_with [])
    unfolding step
    opens = ap (λ (o : Opening). telling (verdict_told o.kept.verdict)) taken

  -- every packet is packed
  pub packed : (n : ℕ) → n < count_of g (length file) → (x : State) (out : List ℕ) → length (packet_of g file n) ≤ length out
      → (step (packing file g n out) x).answer ≡ record { told = accepted_with (length (packet_of g file n) ∷ []); output = packet_of g file n ++ drop (length (packet_of g file n)) out }
  unfolding step
  packed n below x out room =
      ap (λ (k : Packing). record { told = packed_told k.answer; output = k.output })
      (pack_accepts file g n out (record { fits = p.fit; some = p.some; most = p.limit; few = p.count; below = below }) room)

pub from_fresh : FromFresh step
unfolding step
from_fresh g file p s room cs carried = record {
  packs = packed g file p;
  opens = opens g file p s room.0 limit;
  hands = demand_3 g file p (fresh s) (ap (λ (a : Answer). a.told.number) (opens g file p s room.0 limit)) cs carried;
}
  where
    limit : room_of g file ≤ 16777216
    limit = omega (arith, room.1)
