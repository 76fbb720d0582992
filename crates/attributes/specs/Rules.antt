-- What each of the fifteen lines may hold: document 02, R-4, with source document 001, section 7.2, tables 2 to 4. Reader and writer judge by these rules alike.
-- Assumes nothing.
use Rattle.std.specs.Prelude.{Bool, true, false, cond, ◌&&◌, ◌||◌, List, [], ◌∷◌, ℕ, suc, ◌-◌, eqb, leb, length}
use Rattle.ground.specs.Ranges.{between}
use Rattle.texts.specs.Utf8.{well_formed}
use Rattle.texts.specs.Breaks.{unbroken}
use Rattle.content.specs.declared.Content.{Content}
use Rattle.content.specs.declared.Content.TheVariants.{File, Stream, Reserved}
use Rattle.content.specs.Content.{content_of}
use Rattle.calendar.specs.declared.Time.{Time}
use Rattle.calendar.specs.Calendar.{real, not_after, not_given}
use Rattle.attributes.specs.declared.Part.{Part}
use Rattle.attributes.specs.declared.Description.{Description}
use Rattle.attributes.specs.Attributes.{Attributes, attributes_of, no_charset, no_size}

-- valid UTF-8 without CR or LF
abbrev pub is_text : List ℕ → Bool
is_text v = unbroken v && well_formed v

-- stream kinds need mode 0, file kinds mode 1, reserved kinds are refused
abbrev pub fits_mode : Content → ℕ → Bool
fits_mode File mode = eqb mode 1
fits_mode Stream mode = eqb mode 0
fits_mode Reserved mode = false

-- left out, or real
abbrev pub time_fits : Time → Bool
time_fits t = not_given t || real t

-- both given, the start is not after the end
abbrev pub ordered : Time → Time → Bool
ordered begins ends = not_given begins || (not_given ends || not_after begins ends)

-- whether the attribute of each line may stand there; a fault between two lines is the later one's
unfoldable pub rules_of : Attributes → List Bool
rules_of a =
    -- 01 service
    between 9000 9999 a.service
    -- 02 mode: 0 stream, 1 file
    ∷ between 0 1 a.mode
    -- 03 resource
    ∷ between 1 65535 a.resource
    -- 04 update
    ∷ between 0 15 a.update
    -- 05 name, not empty
    ∷ (leb 1 (length a.name) && is_text a.name)
    -- 06 kind of content
    ∷ fits_mode (content_of a.kind) a.mode
    -- 07 title, 08 summary, 09 keywords
    ∷ is_text a.title ∷ is_text a.summary ∷ is_text a.keywords
    -- 10 charset: 0 to 4 where the kind is 21, and empty otherwise
    ∷ cond (eqb a.kind 21) (between 0 4 a.charset) (eqb a.charset no_charset)
    -- 11 path
    ∷ is_text a.path
    -- 12 length: 1 to 16,777,216 in mode 1, and empty in mode 0
    ∷ cond (eqb a.mode 1) (between 1 16777216 a.size) (eqb a.size no_size)
    -- 13 start of validity, 14 its end
    ∷ time_fits a.begins ∷ (time_fits a.ends && ordered a.begins a.ends)
    -- 15 delete
    ∷ between 0 1 a.delete
    ∷ []

-- a part lies in a text
abbrev pub inside : List ℕ → Part → Bool
inside t p = leb p.at (length t) && leb p.length (length t - p.at)

-- each line's part, where it has one
unfoldable pub placed : List ℕ → Description → List Bool
placed t d =
    true ∷ true ∷ true ∷ true ∷ inside t d.name
    ∷ true ∷ inside t d.title ∷ inside t d.summary ∷ inside t d.keywords ∷ true
    ∷ inside t d.path ∷ true ∷ true ∷ true ∷ true ∷ []

abbrev pub both : List Bool → List Bool → List Bool
both [] ys = []
both (x ∷ xs) [] = []
both (x ∷ xs) (y ∷ ys) = (x && y) ∷ both xs ys

-- whether each line of a description whose texts are parts of t may hold its attribute
unfoldable pub rules : List ℕ → Description → List Bool
rules t d = both (placed t d) (rules_of (attributes_of t d))

-- the lowest line that may not, counted from 1; 16 if all fifteen may
abbrev pub lowest : List Bool → ℕ
lowest [] = 1
lowest (true ∷ bs) = suc (lowest bs)
lowest (false ∷ bs) = 1
