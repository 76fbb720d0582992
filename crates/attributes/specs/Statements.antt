-- What is promised of description files: document 02, R-4. The statements are about any reader and any writer; proofs/ (ReadLaws, TakesSound, WritesSound, ReadsBack,
-- WritesBack) proves them of `describe_of` and `compose_of`. Assumes nothing.
use Rattle.std.specs.Prelude.{◌≡◌, ◌⊎◌, Bool, true, false, cond, ◌&&◌, List, [], ◌∷◌, ℕ, ◌<◌, ◌≤◌, eqb, length, get_or, take}
use Rattle.std.proofs.lemmas.List.Edits.{sets}
use Rattle.texts.specs.Breaks.{LF, CR}
use Rattle.refusals.specs.declared.Refusal.TheVariants.{Line, Extra, Output}
use Rattle.content.specs.declared.Content.TheVariants.{File, Stream}
use Rattle.content.specs.Content.{content_of}
use Rattle.calendar.specs.Calendar.{not_after, no_time}
use Rattle.calendar.specs.Range.{RealTime}
use Rattle.attributes.specs.declared.Description.{Description}
use Rattle.attributes.specs.Attributes.{Attributes, attributes_of, no_charset, no_size}
use Rattle.attributes.specs.Rules.{is_text, inside, rules}
use Rattle.attributes.specs.Lines.{lines_of}
use Rattle.attributes.specs.Describe.{description_in}
use Rattle.attributes.specs.Compose.{text_of, Writing}
use Rattle.refusals.specs.declared.Refusal.{Refusal}
use Rattle.std.specs.Prelude.{Result}
use Rattle.std.specs.Prelude.{Ok, Err}

-- what reads a text, and what writes a description whose texts are parts of a text into an output
abbrev pub Reader : Type 0
Reader = List ℕ → Result Description Refusal

abbrev pub Writer : Type 0
Writer = List ℕ → Description → List ℕ → Writing

-- ---- attributes in document 02's ranges

pub record InRange (a : Attributes) : Type 0 where
  pub service : (9000 ≤ a.service) × (a.service ≤ 9999)
  pub mode : a.mode ≤ 1
  pub resource : (1 ≤ a.resource) × (a.resource ≤ 65535)
  pub update : a.update ≤ 15
  pub name : (1 ≤ length a.name) × (is_text a.name ≡ true)
  -- a kind of files in mode 1, or one of streams in mode 0
  pub kind : ((content_of a.kind ≡ File) × (a.mode ≡ 1)) ⊎ ((content_of a.kind ≡ Stream) × (a.mode ≡ 0))
  pub title : is_text a.title ≡ true
  pub summary : is_text a.summary ≡ true
  pub keywords : is_text a.keywords ≡ true
  pub charset : ((a.kind ≡ 21) × (a.charset ≤ 4)) ⊎ ((a.kind ≡ 21 → ⊥) × (a.charset ≡ no_charset))
  pub path : is_text a.path ≡ true
  pub size : ((a.mode ≡ 1) × (1 ≤ a.size) × (a.size ≤ 16777216)) ⊎ ((a.mode ≡ 0) × (a.size ≡ no_size))
  pub begins : (a.begins ≡ no_time) ⊎ RealTime a.begins
  pub ends : (a.ends ≡ no_time) ⊎ RealTime a.ends
  pub order : (a.begins ≡ no_time) ⊎ ((a.ends ≡ no_time) ⊎ (not_after a.begins a.ends ≡ true))
  pub delete : a.delete ≤ 1

-- each attribute that a reading gives is in its range
abbrev pub ReadingInRange : Reader → Type 0
ReadingInRange read = (t : List ℕ) (d : Description) → read t ≡ Ok d → InRange (attributes_of t d)

-- ---- both directions

-- the reader takes a text, and gives these attributes
pub record TakenBack (read : Reader) (w : List ℕ) (a : Attributes) : Type 0 where
  pub found : Description
  pub taken : read w ≡ Ok found
  pub same : attributes_of w found ≡ a

-- each text of a description is a part of t
pub record PartsInside (t : List ℕ) (d : Description) : Type 0 where
  pub name : inside t d.name ≡ true
  pub title : inside t d.title ≡ true
  pub summary : inside t d.summary ≡ true
  pub keywords : inside t d.keywords ≡ true
  pub path : inside t d.path ≡ true

-- attributes in their ranges are written wherever there is room for their lines
abbrev pub WritesSound : Writer → Type 0
WritesSound write =
    (t : List ℕ) (d : Description) (out : List ℕ) → InRange (attributes_of t d) → PartsInside t d → length (text_of (attributes_of t d)) ≤ length out
    → write t d out ≡ record { answer = Ok (length (text_of (attributes_of t d))); out = sets out 0 (text_of (attributes_of t d)) }

-- what the writer writes at the start of an output, the reader takes, and gives the same attributes
abbrev pub ReadsBack : Reader → Writer → Type 0
ReadsBack read write =
    (t : List ℕ) (d : Description) (out : List ℕ) (n : ℕ) → (write t d out).answer ≡ Ok n
    → TakenBack read (take n (write t d out).out) (attributes_of t d)

-- whether LF is the first byte
abbrev pub starts_lf : List ℕ → Bool
starts_lf [] = false
starts_lf (b ∷ s) = eqb b LF

-- the text with LF for each CR LF
abbrev pub plain : List ℕ → List ℕ
plain [] = []
plain (b ∷ s) = cond (eqb b CR && starts_lf s) (plain s) (b ∷ plain s)

-- a text that is, with LF for CR LF, what is written of attributes in their ranges, the reader takes, and gives these attributes
abbrev pub TakesSound : Reader → Type 0
TakesSound read = (t : List ℕ) (a : Attributes) → InRange a → plain t ≡ text_of a → TakenBack read t a

-- a text that the reader takes is, with LF for CR LF, what the writer writes of its attributes
abbrev pub WritesBack : Reader → Type 0
WritesBack read = (t : List ℕ) (d : Description) → read t ≡ Ok d → text_of (attributes_of t d) ≡ plain t

-- ---- which line the reader tells

-- line k of a text is there, with those before it, and may hold what it holds
abbrev pub SoundLine : List ℕ → ℕ → Type 0
SoundLine t k =
    (k ≤ length (lines_of t).parts) × (get_or (true ∷ rules t (description_in t (lines_of t).parts)) k false ≡ true)

-- 29 names a line from 1 to 15 that is not sound, and every line before it is
abbrev pub LowestFault : Reader → Type 0
LowestFault read =
    (t : List ℕ) (k : ℕ) → read t ≡ Err (Line k)
    → (1 ≤ k) × (k ≤ 15) × (SoundLine t k → ⊥) × ((j : ℕ) → 1 ≤ j → j < k → SoundLine t j)

-- 30 comes only where all fifteen are
abbrev pub ExtraLast : Reader → Type 0
ExtraLast read = (t : List ℕ) → read t ≡ Err Extra → (j : ℕ) → 1 ≤ j → j ≤ 15 → SoundLine t j

-- and both are told wherever that is so
abbrev pub TellsFault : Reader → Type 0
TellsFault read =
    (t : List ℕ) (k : ℕ) → 1 ≤ k → k ≤ 15 → (SoundLine t k → ⊥) → ((j : ℕ) → 1 ≤ j → j < k → SoundLine t j) → read t ≡ Err (Line k)

abbrev pub TellsExtra : Reader → Type 0
TellsExtra read =
    (t : List ℕ) → ((j : ℕ) → 1 ≤ j → j ≤ 15 → SoundLine t j) → (lines_of t).next < length t → read t ≡ Err Extra

-- ---- and the writer

-- line k may hold the attribute of a description
abbrev pub SoundAttribute : List ℕ → Description → ℕ → Type 0
SoundAttribute t d k = get_or (true ∷ rules t d) k false ≡ true

-- the lowest line that may not is told, whatever the room, and nothing is written
abbrev pub TellsAttribute : Writer → Type 0
TellsAttribute write =
    (t : List ℕ) (d : Description) (out : List ℕ) (k : ℕ) → 1 ≤ k → k ≤ 15 → (SoundAttribute t d k → ⊥) → ((j : ℕ) → 1 ≤ j → j < k → SoundAttribute t d j)
    → write t d out ≡ record { answer = Err (Line k); out = out }

-- and that there is no room, where all fifteen may
abbrev pub TellsRoom : Writer → Type 0
TellsRoom write =
    (t : List ℕ) (d : Description) (out : List ℕ) → ((j : ℕ) → 1 ≤ j → j ≤ 15 → SoundAttribute t d j) → length out < length (text_of (attributes_of t d))
    → write t d out ≡ record { answer = Err Output; out = out }
