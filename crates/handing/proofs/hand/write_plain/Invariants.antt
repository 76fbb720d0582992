-- One slot a turn. Invariant: slot k is where the turn reads, and the o bytes of the payloads before it are written, `Joining`.
use Rattle.std.proofs.Common.{◌≡◌}
use Rattle.contents.specs.Contents.{slot_at}
use Rattle.handing.proofs.PassLaws.{Joining}
use Rattle.handing.proofs.hand.write_plain.Given as goal

abbrev pub invariant-loop-k : goal.invariant-loop-k
invariant-loop-k l = (l.at ≡ slot_at l.fn.p l.k) × Joining l.fn.p l.store l.initial.out l.out l.o l.k
