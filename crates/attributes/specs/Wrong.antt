-- Readers and writers that are turned away; proofs/Turned.antt shows which statement each breaks. The readers but the first do all else as `describe_of` does.
-- Assumes nothing.
use Rattle.std.specs.Prelude.{Bool, cond, ◌&&◌, List, ℕ, ◌%◌, eqb, leb, ltb, length, get_or}
use Rattle.slices.specs.Slices.{same}
use Rattle.calendar.specs.declared.Time.{Time}
use Rattle.times.specs.Written.{time_at}
use Rattle.refusals.specs.declared.Refusal.{Refusal}
use Rattle.refusals.specs.declared.Refusal.TheVariants.{Line, Extra, Output}
use Rattle.attributes.specs.declared.Description.{Description}
use Rattle.attributes.specs.Attributes.{part_of, attributes_of}
use Rattle.attributes.specs.Lines.{lines_of}
use Rattle.attributes.specs.Describe.{nowhere, description_in, fault_of, describe_of}
use Rattle.attributes.specs.Compose.{text_of, compose_of}
use Rattle.attributes.specs.Statements.{Reader, Writer, plain}
use Rattle.std.specs.Prelude.{Err}
use Rattle.std.specs.Prelude.{Ok}

-- they refuse everything, whatever they say
unfoldable pub refusing_reader : (List ℕ → Refusal) → Reader
refusing_reader why t = Err (why t)

unfoldable pub refusing_writer : (List ℕ → Description → List ℕ → Refusal) → Writer
refusing_writer why t d out = record { answer = Err (why t d out); out = out }

-- it looks at the room first
unfoldable pub room_first : Writer
room_first t d out = cond (ltb (length out) (length (text_of (attributes_of t d)))) (record { answer = Err Output; out = out }) (compose_of t d out)

-- it tells bytes behind line 15 before a fault
unfoldable pub extra_first : Reader
extra_first t = cond (eqb (length (lines_of t).parts) 15 && ltb (lines_of t).next (length t)) (Err Extra) (describe_of t)

-- it has one answer for every fault
unfoldable pub one_fault : Refusal → Reader
one_fault why t = cond (leb (fault_of t) 15) (Err why) (describe_of t)

-- it takes no line that ends with CR LF
unfoldable pub without_cr_lf : Reader
without_cr_lf t = cond (same (plain t) t) (describe_of t) (Err (Line 1))

-- for it every fourth year is a leap year: of a text whose lowest fault is a start of 29 February it gives that day
abbrev pub leap_day : Time → Bool
leap_day x = eqb (x.year % 4) 0 && (eqb x.month 2 && eqb x.day 29)

abbrev pub start_of : List ℕ → Time
start_of t = time_at (part_of t (get_or (lines_of t).parts 12 nowhere))

abbrev pub beginning : Time → Description → Description
beginning x d = record {
  service = d.service;
  mode = d.mode;
  resource = d.resource;
  update = d.update;
  name = d.name;
  kind = d.kind;
  title = d.title;
  summary = d.summary;
  keywords = d.keywords;
  charset = d.charset;
  path = d.path;
  size = d.size;
  begins = x;
  ends = d.ends;
  delete = d.delete;
}

unfoldable pub every_fourth : Reader
every_fourth t =
    cond (eqb (fault_of t) 13 && leap_day (start_of t)) (Ok (beginning (start_of t) (description_in t (lines_of t).parts))) (describe_of t)
