-- The fifteen attributes of a description file, and what is written of each in its line: source document 001, section 7.2, table 2, in its order.
-- Assumes nothing.
use Rattle.std.specs.Prelude.{cond, List, [], ◌∷◌, ℕ, eqb, take, drop}
use Rattle.decimal.specs.Decimal.{digits}
use Rattle.calendar.specs.declared.Time.{Time}
use Rattle.calendar.specs.Calendar.{not_given}
use Rattle.times.specs.Written.{time_text}
use Rattle.attributes.specs.declared.Part.{Part}
use Rattle.attributes.specs.declared.Description.{Description}

-- the texts are lists of bytes
pub record Attributes : Type 0 where
  pub service : ℕ
  pub mode : ℕ
  pub resource : ℕ
  pub update : ℕ
  pub name : List ℕ
  pub kind : ℕ
  pub title : List ℕ
  pub summary : List ℕ
  pub keywords : List ℕ
  pub charset : ℕ
  pub path : List ℕ
  pub size : ℕ
  pub begins : Time
  pub ends : Time
  pub delete : ℕ

-- what stands for a number that is not given; for a time it is `no_time` (crate calendar)
abbrev pub no_charset : ℕ
no_charset = 255

abbrev pub no_size : ℕ
no_size = 0

-- the bytes of a part
abbrev pub part_of : List ℕ → Part → List ℕ
part_of t p = take p.length (drop p.at t)

-- the attributes of a description whose texts are parts of t
abbrev pub attributes_of : List ℕ → Description → Attributes
attributes_of t d = record {
  service = d.service;
  mode = d.mode;
  resource = d.resource;
  update = d.update;
  name = part_of t d.name;
  kind = d.kind;
  title = part_of t d.title;
  summary = part_of t d.summary;
  keywords = part_of t d.keywords;
  charset = d.charset;
  path = part_of t d.path;
  size = d.size;
  begins = d.begins;
  ends = d.ends;
  delete = d.delete;
}

-- a number that may be left out, where `none` stands for that
abbrev pub optional_text : ℕ → ℕ → List ℕ
optional_text none n = cond (eqb n none) [] (digits n)

-- a time that may be left out
abbrev pub time_value : Time → List ℕ
time_value t = cond (not_given t) [] (time_text t)

-- the values of the fifteen lines
unfoldable pub values : Attributes → List (List ℕ)
values a =
    digits a.service ∷ digits a.mode ∷ digits a.resource ∷ digits a.update ∷ a.name
    ∷ digits a.kind ∷ a.title ∷ a.summary ∷ a.keywords ∷ optional_text no_charset a.charset
    ∷ a.path ∷ optional_text no_size a.size ∷ time_value a.begins ∷ time_value a.ends ∷ digits a.delete ∷ []
