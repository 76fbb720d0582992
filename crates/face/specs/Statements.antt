-- What a user of the face may rely on beside each contract: a refusal changes nothing (document 01, section 6), and the bytes of a record carry it from call to call.
-- proofs/RefusedLaws.antt and FollowLaws.antt show it.
-- Assumes nothing.
use Rattle.std.specs.Prelude.{Bool, ◌≡◌, List, ℕ, ◌%◌, length}
use Rattle.code.specs.Code.{Bytes}
use Rattle.settings.specs.declared.Settings.{Settings}
use Rattle.places.specs.declared.Name.{Name}
use Rattle.opening.specs.Open.{open_of, close_of}
use Rattle.holding.specs.Layout.{record_length, record_in}
use Rattle.face.specs.Face.{Said, Says, Kept, Keeps, encode_says, repair_says, read_says, pack_says, open_says, offer_says, hand_says, close_says}

-- the number in an answer: 0 is accepted
abbrev pub number_in : ℕ → ℕ
number_in r = r % 256

-- whatever a call may answer, and leave in its output: beside a refusal it leaves what it was lent
abbrev pub OutputKept : Said → List ℕ → Type 0
OutputKept p out = (r : ℕ) (left : List ℕ) → Says p r left → (number_in r ≡ 0 → ⊥) → left ≡ out

-- the same of a record and a store
abbrev pub RecordKept : Kept → List ℕ → List ℕ → Type 0
RecordKept p h s = (r : ℕ) (held store : List ℕ) → Keeps p r held store → (number_in r ≡ 0 → ⊥) → (held ≡ h) × (store ≡ s)

-- every function that is lent bytes to write
pub record RefusalsChangeNothing : Type 0 where
  pub encode : (info out : List ℕ) → OutputKept (encode_says info out) out
  pub repair : (row out : List ℕ) → OutputKept (repair_says row out) out
  pub read : (rows : Bool) (q out : List ℕ) → OutputKept (read_says rows q out) out
  pub pack : (file : List ℕ) (g : Settings) (n : ℕ) (out : List ℕ) → OutputKept (pack_says file g n out) out
  pub «open» : (h s : List ℕ) (g : Settings) (count : ℕ) → Bytes h → RecordKept (open_says h s g count) h s
  pub offer : (h s q : List ℕ) → RecordKept (offer_says h s q) h s
  pub hand_out : (h s : List ℕ) (x : Name) (n : ℕ) (out : List ℕ) → OutputKept (hand_says h s x n out) out
  pub close : (h s : List ℕ) (x : Name) → Bytes h → RecordKept (close_says h s x) h s

-- after open and close the bytes hold the record that the call on records answers: calls through the face follow one another as those do
pub record RecordsFollow : Type 0 where
  pub «open» : (h s : List ℕ) (g : Settings) (count : ℕ) → Bytes h → length h ≡ record_length → record_in (open_says h s g count).held ≡ (open_of (record_in h) s g count).kept.«record»
  pub close : (h s : List ℕ) (x : Name) → Bytes h → length h ≡ record_length → record_in (close_says h s x).held ≡ (close_of (record_in h) s x).«record»
