-- What an institute may rely on: document 01, section 5, section 7, the order's demands 2 and 3, and document 02, R-1 and R-6 to R-9. Each statement is about any program; proofs/ shows them of `step`.
-- docs/PROMISES.md says each in plain words. Assumes nothing.
use Rattle.std.specs.Prelude.{◌≡◌, ◌⊎◌, Bool, true, false, cond, not, List, [], ◌∷◌, ◌++◌, map, ℕ, ◌+◌, ◌-◌, ◌*◌, ◌/◌, ◌%◌, ◌≤◌, ◌<◌, eqb, length, get_or, take, drop, replicate}
use Rattle.ground.specs.Lists.{listed}
use Rattle.refusals.specs.declared.Refusal.TheVariants.{Unknown, Other, Edition, Wide, Slot, Size}
use Rattle.refusals.specs.Told.{Told, accepted_with, refused_as}
use Rattle.code.specs.Code.{Bytes, distance}
use Rattle.code.specs.Repair.{Near}
use Rattle.code.specs.Mend.{Mended, whole, broken, altered_in}
use Rattle.packet.specs.declared.Packet.{Packet}
use Rattle.settings.specs.declared.Settings.{Settings}
use Rattle.packet.specs.Packet.{read_by, read_header_of}
use Rattle.packet.specs.Edition.{edition_of}
use Rattle.settings.specs.Settings.{settings_fit}
use Rattle.layout.specs.Layout.{tables_of}
use Rattle.pack.specs.Pack.{largest_file, count_of, payload_of, packet_of}
use Rattle.places.specs.declared.Place.{Place}
use Rattle.places.specs.declared.Name.{Name}
use Rattle.places.specs.Places.{settings_name, unused, in_use, names as holds, good, place_of, in_rows, cover_of}
use Rattle.contents.specs.Contents.{Slot as Content, holding, slot_of, contents, any_wrong, filled, lowest_empty}
use Rattle.record.specs.Mend.{payload_in}
use Rattle.sealing.specs.Sealing.{agrees}
use Rattle.losses.specs.Losses.{sent_at}
use Rattle.code.specs.Restore.{lost_of}
use Rattle.record.specs.Offer.{packet_name, read_for, differs, judge, put}
use Rattle.promises.specs.Calls.{Call, Answer, telling, State, Program, run, fresh, names, about}
use Rattle.promises.specs.Calls.Call.{packing, opening, offering, asking, handing, closing}
use Rattle.std.specs.Prelude.{Option}
use Rattle.std.specs.Prelude.{Ok}
use Rattle.std.specs.Prelude.{Some, None}

-- ---- demand 2, of each row of a packet

-- row i of a packet's payload
abbrev pub row_in : List ℕ → ℕ → List ℕ
row_in q i = take 255 (drop (i * 255) (payload_in q))

-- b has as many bytes as the payload of q, and each of its rows is a coded row that differs from that row of q in at most eight bytes
pub record RowsNear (q b : List ℕ) : Type 0 where
  pub sized : length b ≡ length (payload_in q)
  pub near : (i : ℕ) → i * 255 < length (payload_in q) → Near (row_in q i) (take 255 (drop (i * 255) b))

-- how many bytes of the payload of q are others in b: the sum over its rows of the places at which each differs (document 02, R-7)
abbrev pub bytes_altered : List ℕ → List ℕ → ℕ
bytes_altered q b = altered_in (length (payload_in q) / 255) (payload_in q) b

-- row i of q is the first that has no coded row within eight bytes
pub record FirstBroken (q : List ℕ) (i : ℕ) : Type 0 where
  pub within : i * 255 < length (payload_in q)
  pub lost : (s : List ℕ) → Near (row_in q i) s → ⊥
  pub before : (j : ℕ) → j < i → (s : List ℕ) × Near (row_in q j) s

-- bytes whose payload is whole rows
pub record WholeRows (q : List ℕ) : Type 0 where
  pub bytes : Bytes q
  pub multiple : length (payload_in q) % 255 ≡ 0

-- a repair of packets is exact in every row: with protection it answers b exactly if b is near in each row, counting the bytes in which they differ, and row i exactly if that is the
-- first that has no coded row near
pub record MendsEachRow (mend : ℕ → List ℕ → Mended) : Type 0 where
  pub sound : (q b : List ℕ) (m : ℕ) → WholeRows q → mend 1 q ≡ whole b m → RowsNear q b × (m ≡ bytes_altered q b)
  pub complete : (q b : List ℕ) → WholeRows q → RowsNear q b → mend 1 q ≡ whole b (bytes_altered q b)
  pub refusing : (q : List ℕ) (i : ℕ) → WholeRows q → mend 1 q ≡ broken i → FirstBroken q i
  pub refused : (q : List ℕ) (i : ℕ) → WholeRows q → FirstBroken q i → mend 1 q ≡ broken i

-- ---- demand 3

-- a file of 1 to 16,777,216 bytes, and settings with protection under which it has packets
pub record Protected (g : Settings) (file : List ℕ) : Type 0 where
  pub bytes : Bytes file
  pub some : 1 ≤ length file
  pub limit : length file ≤ largest_file
  pub fit : settings_fit g ≡ true
  pub protection : g.protection ≡ 1
  pub count : count_of g (length file) ≤ 1048575

-- q is packet n of the file, header and CRC intact, at most eight bytes altered in each row of its payload; in column order it is not altered at all
pub record Copy (g : Settings) (file : List ℕ) (n : ℕ) (q : List ℕ) : Type 0 where
  pub bytes : Bytes q
  pub sized : length q ≡ length (packet_of g file n)
  pub header : take 14 q ≡ take 14 (packet_of g file n)
  pub crc : drop (length q - 4) q ≡ drop (length q - 4) (packet_of g file n)
  pub rows : (i : ℕ) → distance (row_in q i) (row_in (packet_of g file n) i) ≤ 8
  pub as_sent : g.order ≡ 1 → q ≡ packet_of g file n

-- q brings the file's own place no payload but the file's: there it is refused, whatever the store holds, or what it puts is what the file has under that number. Noise is
-- such an offer, with the resource and type in it or not: its fields are refused or differ from the place's, it is of another edition, a row has no coded row within eight bytes, or the CRC differs. Its
-- rows are judged as it is read, unless the place is in column order
abbrev pub BringsNoOther : Settings → List ℕ → List ℕ → Type 0
BringsNoOther g file q =
    (f : Packet) → read_by (not (eqb g.order 1)) q ≡ Ok f → (n : ℕ) (b : List ℕ) (m : ℕ) → judge (place_of g (count_of g (length file)) 0) f q ≡ put n b m → b ≡ payload_of g file n

-- what may stand in the list: a copy, an offer that does not name the file's resource and type, any other that brings no other payload, and every other call but one that closes them
pub data Fair (g : Settings) (file : List ℕ) : Call → Type 0 where
  copy : (n : ℕ) (q : List ℕ) → n < count_of g (length file) → Copy g file n q → Fair g file (offering q)
  other : (q : List ℕ) → names (settings_name g) q ≡ false → Fair g file (offering q)
  noise : (q : List ℕ) → BringsNoOther g file q → Fair g file (offering q)
  packs : (a : List ℕ) (s : Settings) (n : ℕ) (out : List ℕ) → Fair g file (packing a s n out)
  opens : (s : Settings) (count : ℕ) → Fair g file (opening s count)
  asks : (r : Name) → Fair g file (asking r)
  hands : (r : Name) (n : ℕ) (out : List ℕ) → Fair g file (handing r n out)
  closes : (r : Name) → (r ≡ settings_name g → ⊥) → Fair g file (closing r)

-- each call of the list may stand there
pub data AllFair (g : Settings) (file : List ℕ) : List Call → Type 0 where
  ended : AllFair g file []
  next : {c : Call} {cs : List Call} → Fair g file c → AllFair g file cs → AllFair g file (c ∷ cs)

-- a copy of packet n is offered
pub data Offers (g : Settings) (file : List ℕ) (n : ℕ) : List Call → Type 0 where
  here : {q : List ℕ} {cs : List Call} → Copy g file n q → Offers g file n (offering q ∷ cs)
  later : {c : Call} {cs : List Call} → Offers g file n cs → Offers g file n (c ∷ cs)

-- a list of calls that carries the file: fair throughout, every packet offered at least once
pub record Carries (g : Settings) (file : List ℕ) (cs : List Call) : Type 0 where
  pub fair : AllFair g file cs
  pub every : (n : ℕ) → n < count_of g (length file) → Offers g file n cs

-- demand 3 is not empty: the packets of any such file, offered in order, carry it
abbrev pub SomeCarry : Type 0
SomeCarry =
    (g : Settings) (file : List ℕ) → Protected g file → Carries g file (map offering (listed (packet_of g file) (count_of g (length file)) 0))

-- hand out at the file's length, into room enough, answers the file, and leaves the output beyond it
abbrev pub HandsOut : Program → Settings → List ℕ → State → Type 0
HandsOut f g file x =
    (out : List ℕ) → length file ≤ length out
    → (f (handing (settings_name g) (length file) out) x).answer ≡ record { told = accepted_with []; output = file ++ drop (length file) out }

-- open with the file's own settings is accepted, which is number 0; and the state behind it
abbrev pub IsOpened : Program → Settings → List ℕ → State → Type 0
IsOpened f g file x = (f (opening g (count_of g (length file))) x).answer.told.number ≡ 0

abbrev pub opened : Program → Settings → List ℕ → State → State
opened f g file x = (f (opening g (count_of g (length file))) x).state

-- from every state from which it is
abbrev pub Demand3 : Program → Type 0
Demand3 f =
    (g : Settings) (file : List ℕ) → Protected g file
    → (x : State) → IsOpened f g file x
    → (cs : List Call) → Carries g file cs
    → HandsOut f g file (run f cs (opened f g file x)).state

-- from a fresh record over a store with room, no answer taken for granted: every packet is packed, open is accepted, and hand out answers the file
pub record FreshHandsOut (f : Program) (g : Settings) (file s : List ℕ) (cs : List Call) : Type 0 where
  pub packs : (n : ℕ) → n < count_of g (length file) → (x : State) (out : List ℕ) → length (packet_of g file n) ≤ length out
      → (f (packing file g n out) x).answer
      ≡ record { told = accepted_with (length (packet_of g file n) ∷ []); output = packet_of g file n ++ drop (length (packet_of g file n)) out }
  pub opens : (f (opening g (count_of g (length file))) (fresh s)).answer ≡ telling (accepted_with [])
  pub hands : HandsOut f g file (run f (opening g (count_of g (length file)) ∷ cs) (fresh s)).state

-- the bytes of the store that a file's place covers
abbrev pub room_of : Settings → List ℕ → ℕ
room_of g file = cover_of (count_of g (length file)) g.size

-- a store has them, and they may be used
abbrev pub HasRoom : Settings → List ℕ → List ℕ → Type 0
HasRoom g file s = (room_of g file ≤ length s) × (room_of g file ≤ 16777216)

abbrev pub FromFresh : Program → Type 0
FromFresh f =
    (g : Settings) (file : List ℕ) → Protected g file
    → (s : List ℕ) → HasRoom g file s
    → (cs : List Call) → Carries g file cs → FreshHandsOut f g file s cs

-- no second file fits: two files of one length, under one set of settings, that the same calls carry, are equal
abbrev pub NoSecondFile : Type 0
NoSecondFile =
    (g : Settings) (a b : List ℕ) → Protected g a → Protected g b → length a ≡ length b
    → (cs : List Call) → Carries g a cs → Carries g b cs → a ≡ b

-- nor one of another length, but with zeros behind: of two files with equally many packets that the same calls carry, the longer is the shorter followed by zeros
abbrev pub NoSecondLength : Type 0
NoSecondLength =
    (g : Settings) (a b : List ℕ) → Protected g a → Protected g b → count_of g (length a) ≡ count_of g (length b) → length a ≤ length b
    → (cs : List Call) → Carries g a cs → Carries g b cs → b ≡ a ++ replicate (length b - length a) 0

-- ---- two sequences

-- the same calls on both sides, but for offers that do not name r, a resource and type
pub data Alike (r : Name) : List Call → List Call → Type 0 where
  ended : Alike r [] []
  both : {cs ds : List Call} (c : Call) → Alike r cs ds → Alike r (c ∷ cs) (c ∷ ds)
  left : {cs ds : List Call} (q : List ℕ) → names r q ≡ false → Alike r cs ds → Alike r (offering q ∷ cs) ds
  right : {cs ds : List Call} (q : List ℕ) → names r q ≡ false → Alike r cs ds → Alike r cs (offering q ∷ ds)

-- those of the answers to calls that are about r
abbrev pub pick : Name → List Call → List Answer → List Answer
pick r [] answers = []
pick r (c ∷ cs) [] = []
pick r (c ∷ cs) (a ∷ rest) = cond (about r c) (a ∷ pick r cs rest) (pick r cs rest)

abbrev pub answers_about : Program → Name → List Call → State → List Answer
answers_about f r cs x = pick r cs (run f cs x).answers

-- from a fresh record and the same store, every answer about the resource and type is the same
abbrev pub TwoSequences : Program → Type 0
TwoSequences f = (r : Name) (s : List ℕ) (cs ds : List Call) → Alike r cs ds → answers_about f r cs (fresh s) ≡ answers_about f r ds (fresh s)

-- ---- a refusal changes nothing: an answer whose number is not 0

-- the output that a call lends
abbrev pub lent : Call → List ℕ
lent (packing file g n out) = out
lent (opening g count) = []
lent (offering q) = []
lent (asking r) = []
lent (handing r n out) = out
lent (closing r) = []

-- record, store and output are as they were
pub record Unchanged (f : Program) (c : Call) (x : State) : Type 0 where
  pub state : (f c x).state ≡ x
  pub output-kept : (f c x).answer.output ≡ lent c

abbrev pub RefusalsChangeNothing : Program → Type 0
RefusalsChangeNothing f = (c : Call) (x : State) → ((f c x).answer.told.number ≡ 0 → ⊥) → Unchanged f c x

-- ---- status and offers, by the slots

-- place i of the record, and its slot k
abbrev pub place_at : State → ℕ → Place
place_at x i = get_or x.held.places i unused

abbrev pub slot_in : State → ℕ → ℕ → Content
slot_in x i k = slot_of (place_at x i) x.store k

-- the record is good for the store, and place i holds the resource and type
pub record Held (x : State) (r : Name) (i : ℕ) : Type 0 where
  pub sound : good (length x.store) x.held.places ≡ true
  pub named : holds (place_at x i) r ≡ true

-- a number that was found, or none
abbrev pub lowest_values : Option ℕ → List ℕ
lowest_values (Some k) = k ∷ []
lowest_values None = []

-- the number of filled slots, and the lowest empty one where there is one; refusal 15 where a slot is wrong
abbrev pub slots_told : List Content → Told
slots_told c = cond (any_wrong c) (refused_as Slot) (accepted_with (filled c ∷ lowest_values (lowest_empty c 0)))

-- the status of a place that is open is told by its slots, and nothing changes
abbrev pub StatusBySlots : Program → Type 0
StatusBySlots f =
    (x : State) (r : Name) (i : ℕ) → Held x r i
    → f (asking r) x ≡ record { answer = telling (slots_told (contents (place_at x i) x.store)); state = x }

-- q carries b for slot n of place i: it is a packet of the place's file, in its edition, with that number, b is its payload, near in each row where it is whole rows, which is with protection in row
-- order, and else as it came, and the CRC agrees with b; m bytes of it were mended: the sum over the rows, or none
pub record Carried (x : State) (q : List ℕ) (i n : ℕ) (b : List ℕ) (m : ℕ) : Type 0 where
  pub fields : Packet
  pub read : read_for x.held q ≡ Ok fields
  pub held : Held x (packet_name fields) i
  pub serves : differs (place_at x i) fields ≡ false
  pub edition : edition_of fields ≡ (place_at x i).edition
  pub number : n ≡ fields.number
  pub below : n < (place_at x i).count
  pub plain : in_rows (place_at x i) ≡ false → b ≡ payload_in q
  pub rows : in_rows (place_at x i) ≡ true → RowsNear q b
  pub crc : agrees q b ≡ true
  pub none-mended : in_rows (place_at x i) ≡ false → m ≡ 0
  pub mended : in_rows (place_at x i) ≡ true → m ≡ bytes_altered q b

-- the record and the store's length are as they were, and so is every slot of every place in use, but slot n of place i
pub record OthersStay (x y : State) (i n : ℕ) : Type 0 where
  pub same-held : y.held ≡ x.held
  pub sized : length y.store ≡ length x.store
  pub slots : (j k : ℕ) → in_use (place_at x j) ≡ true → k < (place_at x j).count → ((j ≡ i) × (k ≡ n) → ⊥) → slot_in y j k ≡ slot_in x j k

-- what an accepted offer says, by its value: twice the bytes mended for Stored, and the slot was empty and holds the payload; or 1 more for Repeat, and it held the payload,
-- and nothing changed
pub data Accepts (x : State) (q : List ℕ) (y : State) : List ℕ → Type 0 where
  stored : (i n : ℕ) (b : List ℕ) (m : ℕ) → Carried x q i n b m → slot_in x i n ≡ holding [] → slot_in y i n ≡ holding b → OthersStay x y i n
      → Accepts x q y ((2 * m) ∷ [])
  again : (i n : ℕ) (b : List ℕ) (m : ℕ) → Carried x q i n b m → slot_in x i n ≡ holding b → y ≡ x → Accepts x q y ((2 * m + 1) ∷ [])

abbrev pub OffersBySlots : Program → Type 0
OffersBySlots f =
    (x : State) (q : List ℕ) → (f (offering q) x).answer.told.number ≡ 0
    → Accepts x q (f (offering q) x).state (f (offering q) x).answer.told.values

-- ---- files of different counts

-- the same calls may carry two of them: each is collected in a place with its own count
abbrev pub DifferentCounts : Type 0
DifferentCounts =
    (g : Settings) (a b : List ℕ) → Protected g a → Protected g b → (count_of g (length a) ≡ count_of g (length b) → ⊥)
    → (cs : List Call) × Carries g a cs × Carries g b cs

-- a place has one count: there a packet with another is refused (11)
abbrev pub OneCount : Program → Type 0
OneCount f =
    (x : State) (q : List ℕ) (fields : Packet) (i : ℕ) → read_for x.held q ≡ Ok fields → Held x (packet_name fields) i
    → (fields.count ≡ (place_at x i).count → ⊥) → (f (offering q) x).answer.told ≡ refused_as Other

-- what was collected as in demand 3 is not handed out at a length that needs another number of packets, or in row order of tables (23)
abbrev pub OtherLengthRefused : Program → Type 0
OtherLengthRefused f =
    (g : Settings) (file : List ℕ) → Protected g file
    → (x : State) → IsOpened f g file x
    → (cs : List Call) → Carries g file cs
    → (n : ℕ) → (count_of g n ≡ count_of g (length file) → ⊥) ⊎ ((g.order ≡ 0) × (tables_of g.rows n ≡ tables_of g.rows (length file) → ⊥))
    → (out : List ℕ) → (f (handing (settings_name g) n out) (run f cs (opened f g file x)).state).answer
    ≡ record { told = refused_as Size; output = out }

-- ---- packets of another size than a place was opened for: document 02, R-6

-- a place has slots of one size: there a packet of its file, in its edition, whose payload is longer is refused (12), whatever its rows, its CRC and the slots hold
abbrev pub NoWider : Program → Type 0
NoWider f =
    (x : State) (q : List ℕ) (fields : Packet) (i : ℕ) → read_for x.held q ≡ Ok fields → Held x (packet_name fields) i
    → differs (place_at x i) fields ≡ false → edition_of fields ≡ (place_at x i).edition → (place_at x i).slot < length (payload_in q)
    → (f (offering q) x).answer.told ≡ refused_as Wide

-- ---- a file and its description: document 02, R-1

-- the two collections of a resource
abbrev pub the_file : ℕ → Name
the_file resource = record { resource = resource; kind = 1 }

abbrev pub the_description : ℕ → Name
the_description resource = record { resource = resource; kind = 2 }

-- the calls, but for the offers that name r
abbrev pub offers_to : Name → Call → Bool
offers_to r (packing file g n out) = false
offers_to r (opening g count) = false
offers_to r (offering q) = names r q
offers_to r (asking x) = false
offers_to r (handing x n out) = false
offers_to r (closing x) = false

abbrev pub without : Name → List Call → List Call
without r [] = []
without r (c ∷ cs) = cond (offers_to r c) (without r cs) (c ∷ without r cs)

-- they do not touch each other: whatever of the description is offered, every answer about the file is what it would be without, and the other way round
pub record Untouched (f : Program) (resource : ℕ) (s : List ℕ) (cs : List Call) : Type 0 where
  pub file : answers_about f (the_file resource) cs (fresh s) ≡ answers_about f (the_file resource) (without (the_description resource) cs) (fresh s)
  pub description : answers_about f (the_description resource) cs (fresh s) ≡ answers_about f (the_description resource) (without (the_file resource) cs) (fresh s)

abbrev pub SideBySide : Program → Type 0
SideBySide f = (resource : ℕ) (s : List ℕ) (cs : List Call) → Untouched f resource s cs

-- collected at one time both come out: from every state in which the one and then the other is opened, by calls that carry both
abbrev pub BothComeOut : Program → Type 0
BothComeOut f =
    (g d : Settings) (file text : List ℕ) → Protected g file → Protected d text
    → (x : State) → IsOpened f g file x → IsOpened f d text (opened f g file x)
    → (cs : List Call) → Carries g file cs → Carries d text cs
    → HandsOut f g file (run f cs (opened f d text (opened f g file x))).state × HandsOut f d text (run f cs (opened f d text (opened f g file x))).state

-- which is not empty: under two names, as a file's and its description's are, the packets of both carry both
abbrev pub SomeCarryBoth : Type 0
SomeCarryBoth =
    (g d : Settings) (file text : List ℕ) → Protected g file → Protected d text → (settings_name g ≡ settings_name d → ⊥)
    → (cs : List Call) × Carries g file cs × Carries d text cs

-- from a fresh record over a store with room for both, no answer taken for granted: both are opened, and both come out
pub record FreshBoth (f : Program) (g d : Settings) (file text s : List ℕ) (cs : List Call) : Type 0 where
  pub opens : (f (opening g (count_of g (length file))) (fresh s)).answer ≡ telling (accepted_with [])
  pub beside : (f (opening d (count_of d (length text))) (opened f g file (fresh s))).answer ≡ telling (accepted_with [])
  pub hands : HandsOut f g file (run f cs (opened f d text (opened f g file (fresh s)))).state
  pub hands-beside : HandsOut f d text (run f cs (opened f d text (opened f g file (fresh s)))).state

abbrev pub BothFromFresh : Program → Type 0
BothFromFresh f =
    (g d : Settings) (file text : List ℕ) → Protected g file → Protected d text → (settings_name g ≡ settings_name d → ⊥)
    → (s : List ℕ) → room_of g file + room_of d text ≤ length s → room_of g file + room_of d text ≤ 16777216
    → (cs : List Call) → Carries g file cs → Carries d text cs → FreshBoth f g d file text s cs

-- an offered stream is Unknown (10), whatever is open
abbrev pub StreamsUnknown : Program → Type 0
StreamsUnknown f =
    (x : State) (q : List ℕ) (fields : Packet) → good (length x.store) x.held.places ≡ true → read_for x.held q ≡ Ok fields → fields.kind ≡ 0
    → (f (offering q) x).answer.told ≡ refused_as Unknown

-- ---- how much was mended: document 02, R-7

-- an offered copy of packet n is accepted, as Stored or as Repeat, with the number of bytes that are altered in its rows
abbrev pub Graded : Program → Settings → List ℕ → State → Type 0
Graded f g file x =
    (n : ℕ) → n < count_of g (length file) → (q : List ℕ) → Copy g file n q
    → ((f (offering q) x).answer ≡ telling (accepted_with ((2 * bytes_altered q (payload_of g file n)) ∷ [])))
    ⊎ ((f (offering q) x).answer ≡ telling (accepted_with ((2 * bytes_altered q (payload_of g file n) + 1) ∷ [])))

-- wherever the file's place is open and was offered nothing but what may stand in demand 3: so what is told grades the recording
abbrev pub MendedIsAltered : Program → Type 0
MendedIsAltered f =
    (g : Settings) (file : List ℕ) → Protected g file
    → (x : State) → IsOpened f g file x
    → (cs : List Call) → AllFair g file cs
    → Graded f g file (run f cs (opened f g file x)).state

-- from a fresh record over a store with room, no answer taken for granted
abbrev pub GradedFromFresh : Program → Type 0
GradedFromFresh f =
    (g : Settings) (file : List ℕ) → Protected g file
    → (s : List ℕ) → HasRoom g file s
    → (cs : List Call) → AllFair g file cs → Graded f g file (run f cs (opened f g file (fresh s))).state

-- ---- two editions of the spare bits: document 02, R-9

-- what is packed shows its edition: the field reader reports that of the settings, with protection and without
abbrev pub ShowsEdition : Type 0
ShowsEdition =
    (g : Settings) (file : List ℕ) (n : ℕ) → settings_fit g ≡ true → count_of g (length file) ≤ 1048575 → n < count_of g (length file)
    → (fields : Packet) × (read_header_of (packet_of g file n) ≡ Ok fields) × (edition_of fields ≡ g.edition)

-- a place accepts its own edition only: there a packet of its file in another, or in neither, is refused (33), whatever its payload and the slots hold
abbrev pub OwnEdition : Program → Type 0
OwnEdition f =
    (x : State) (q : List ℕ) (fields : Packet) (i : ℕ) → read_for x.held q ≡ Ok fields → Held x (packet_name fields) i
    → differs (place_at x i) fields ≡ false → (edition_of fields ≡ (place_at x i).edition → ⊥) → (f (offering q) x).answer.told ≡ refused_as Edition

-- so a station may send both: of two files under settings of different editions, in all else alike or not, the same calls may carry both, each to a place of its own edition
abbrev pub DifferentEditions : Type 0
DifferentEditions =
    (g d : Settings) (a b : List ℕ) → Protected g a → Protected d b → (g.edition ≡ d.edition → ⊥)
    → (cs : List Call) × Carries g a cs × Carries d b cs

-- ---- column order: document 02, R-8

-- a list of calls that carries enough of a file: fair throughout, and but for some packets each is offered, unaltered; no row has more than sixteen bytes in those
pub record CarriesEnough (g : Settings) (file : List ℕ) (cs : List Call) : Type 0 where
  pub fair : AllFair g file cs
  pub gone : ℕ → Bool
  pub others : (n : ℕ) → n < count_of g (length file) → gone n ≡ false → Offers g file n cs
  pub few : (q : ℕ) → q < g.rows * tables_of g.rows (length file) → lost_of (λ c. gone (sent_at g.rows q c / g.size)) 255 ≤ 16

-- demand 3 for such a file: packets unaltered, some never offered, no row losing more than sixteen bytes
abbrev pub Demand3Columns : Program → Type 0
Demand3Columns f =
    (g : Settings) (file : List ℕ) → Protected g file → g.order ≡ 1
    → (x : State) → IsOpened f g file x
    → (cs : List Call) → CarriesEnough g file cs
    → HandsOut f g file (run f cs (opened f g file x)).state

abbrev pub FromFreshColumns : Program → Type 0
FromFreshColumns f =
    (g : Settings) (file : List ℕ) → Protected g file → g.order ≡ 1
    → (s : List ℕ) → HasRoom g file s
    → (cs : List Call) → CarriesEnough g file cs → FreshHandsOut f g file s cs

-- no second file fits what was offered: of one length, under the same settings
abbrev pub NoSecondColumns : Type 0
NoSecondColumns =
    (g : Settings) (a b : List ℕ) → Protected g a → Protected g b → g.order ≡ 1 → length a ≡ length b
    → (cs : List Call) → CarriesEnough g a cs → CarriesEnough g b cs → a ≡ b
