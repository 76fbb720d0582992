-- The misreadings seen in other receivers: document 01, section 9, each as a definition that ours is not, or a program that breaks a promise: proofs/Misread.antt, Replaced.antt.
-- Assumes nothing.
use Rattle.std.specs.Prelude.{Bool, cond, ℕ, ◌+◌, ◌*◌, eqb, length, get_or}
use mathlib.Core.List.{List, [], ◌∷◌, ◌++◌, flatten}
use Rattle.ground.specs.Lists.{listed}
use Rattle.code.specs.Repair.{checks_of}
use Rattle.layout.specs.Layout.{info_of}
use Rattle.refusals.specs.Told.{Told}
use Rattle.packet.specs.declared.Packet.{Packet}
use Rattle.places.specs.declared.Place.{Place}
use Rattle.places.specs.Places.{place_named}
use Rattle.contents.specs.Contents.{slot_at}
use Rattle.contents.specs.Slots.{stored}
use Rattle.code.specs.Mend.{Mended, whole}
use Rattle.record.specs.Mend.{payload_in, mended_in}
use Rattle.sealing.specs.Sealing.{agrees}
use Rattle.record.specs.Offer.{packet_name, read_for, Judged, refuse, put, judge}
use Rattle.promises.specs.Calls.{State, Program, step, telling}
use Rattle.promises.specs.Calls.Call.{offering}
use Rattle.promises.specs.Statements.{place_at}
use Rattle.turned.specs.Wrong.{offering_by}
use Rattle.refusals.specs.declared.Refusal.{Refusal}
use Rattle.std.specs.Prelude.{Result}
use Rattle.std.specs.Prelude.{Option}
use Rattle.std.specs.Prelude.{Ok, Err}
use Rattle.std.specs.Prelude.{Some, None}

-- tables filled row by row
unfoldable pub info_by_rows : ℕ → List ℕ → ℕ → ℕ → List ℕ
info_by_rows m file t r = listed (λ c. get_or file (t * (239 * m) + r * 239 + c) 0) 239 0

-- of one table, all information sent before all checks
unfoldable pub information_first : ℕ → List ℕ → List ℕ
information_first m file = flatten (listed (λ r. info_of m file 0 r) m 0) ++ flatten (listed (λ r. checks_of (info_of m file 0 r)) m 0)

-- the CRC tested before repair, over the payload as received
unfoldable pub agrees_before : List ℕ → Bool
agrees_before q = agrees q (payload_in q)

-- a row kept unrepaired because the CRC fits
unfoldable pub kept_if_fits : List ℕ → Mended
kept_if_fits q = cond (agrees_before q) (whole (payload_in q) 0) (mended_in 1 q)

-- a later, different copy replaces a stored payload (where `step` says Conflict, 16), and a is answered
abbrev pub put_at : Place → List ℕ → Judged → List ℕ
put_at p s (refuse r) = s
put_at p s (put k b m) = stored s (slot_at p k) b

abbrev pub put_found : State → Packet → List ℕ → Option ℕ → List ℕ
put_found x f q (Some i) = put_at (place_at x i) x.store (judge (place_at x i) f q)
put_found x f q None = x.store

abbrev pub put_read : State → List ℕ → Result Packet Refusal → List ℕ
put_read x q (Ok f) = put_found x f q (place_named x.held.places (packet_name f))
put_read x q (Err r) = x.store

unfoldable pub replacing : Told → Program
replacing a =
    offering_by (λ q x. cond (eqb (step (offering q) x).answer.told.number 16)
    (record { answer = telling a; state = record { held = x.held; store = put_read x q (read_for x.held q) } }) (step (offering q) x))

-- what the tables hold, cut at its last nonzero byte
abbrev pub cut_zeros : List ℕ → List ℕ
cut_zeros [] = []
cut_zeros (x ∷ xs) = cond (eqb (length (cut_zeros xs)) 0) (cond (eqb x 0) [] (x ∷ [])) (x ∷ cut_zeros xs)
