-- The record of eight places: document 01, section 5, and when refusal 9 is given (section 6). A place is found by resource and type: document 02, R-1; it holds an edition, R-9, and an order, R-8.
-- Assumes nothing.
use Rattle.std.specs.Prelude.{Bool, true, cond, not, ◌&&◌, ◌||◌, List, [], ◌∷◌, ℕ, suc, ◌+◌, ◌*◌, eqb, leb, replicate}
use Rattle.settings.specs.declared.Settings.{Settings}
use Rattle.settings.specs.Settings.{row_wise, settings_fit, rows_held}
use Rattle.places.specs.declared.Place.{Place}
use Rattle.places.specs.declared.Record.{Record}
use Rattle.places.specs.declared.Name.{Name}
use Rattle.std.specs.Prelude.{Option}
use Rattle.std.specs.Prelude.{Some, None}

-- an unused place, as in a fresh record
abbrev pub unused : Place
unused = record { resource = 0; kind = 0; update = 0; count = 0; protection = 0; rows = 0; slot = 0; start = 0; edition = 0; order = 0 }

abbrev pub fresh_record : Record
fresh_record = record { places = replicate 8 unused }

abbrev pub in_use : Place → Bool
in_use p = not (eqb p.resource 0)

-- a place is found by resource and type together
abbrev pub place_name : Place → Name
place_name p = record { resource = p.resource; kind = p.kind }

abbrev pub settings_name : Settings → Name
settings_name g = record { resource = g.resource; kind = g.kind }

unfoldable pub same_name : Name → Name → Bool
same_name x y = eqb x.resource y.resource && eqb x.kind y.kind

-- which place a call means: the one in use that holds both
abbrev pub names : Place → Name → Bool
names p x = in_use p && same_name (place_name p) x

-- only the first 16,777,216 bytes of a longer store of n bytes are used
abbrev pub usable : ℕ → ℕ
usable n = cond (leb n 16777216) n 16777216

-- the bytes that count slots of a size cover, each with a length of two bytes before it
abbrev pub cover_of : ℕ → ℕ → ℕ
cover_of count size = count * (size + 2)

-- where a place's bytes end
unfoldable pub end_of : Place → ℕ
end_of p = p.start + cover_of p.count p.slot

-- two places that have a byte in common
unfoldable pub meets : Place → Place → Bool
meets p q = not (leb (end_of p) q.start || leb (end_of q) p.start)

-- the settings that a place holds, and the place that settings, a count and a start ask for
abbrev pub settings_in : Place → Settings
settings_in p =
    record { resource = p.resource; kind = p.kind; update = p.update; protection = p.protection; rows = p.rows; size = p.slot; edition = p.edition; order = p.order }

-- its payloads are whole rows
abbrev pub in_rows : Place → Bool
in_rows p = row_wise p.protection p.order

abbrev pub place_of : Settings → ℕ → ℕ → Place
place_of g count start = record {
  resource = g.resource;
  kind = g.kind;
  update = g.update;
  count = count;
  protection = g.protection;
  rows = rows_held g;
  slot = g.size;
  start = start;
  edition = g.edition;
  order = g.order;
}

abbrev pub count_fits : ℕ → Bool
count_fits count = leb 1 count && leb count 1048575

-- every range of sections 2, 4 and 5, and of edition and order; M is held as 0 without protection
unfoldable pub ranges_fit : Place → Bool
ranges_fit p = settings_fit (settings_in p) && (eqb p.rows (rows_held (settings_in p)) && count_fits p.count)

-- a place that is unused, or is in its ranges and does not pass the end of a store of n bytes
unfoldable pub fits : ℕ → Place → Bool
fits n p = not (in_use p) || (ranges_fit p && leb (end_of p) (usable n))

-- two places that are in use do not share both resource and type, nor a byte
unfoldable pub agree : Place → Place → Bool
agree p q = not (in_use p && in_use q) || not (same_name (place_name p) (place_name q) || meets p q)

abbrev pub all : (Place → Bool) → List Place → Bool
all f [] = true
all f (p ∷ ps) = f p && all f ps

-- the record is good for a store of n bytes: refusal 9 is given exactly if it is not
unfoldable pub good : ℕ → List Place → Bool
good n [] = true
good n (p ∷ ps) = fits n p && (all (agree p) ps && good n ps)

-- the first place that passes, the first of ps being number i
unfoldable pub first_from : (Place → Bool) → List Place → ℕ → Option ℕ
first_from f [] i = None
first_from f (p ∷ ps) i = cond (f p) (Some i) (first_from f ps (suc i))

-- the place of a resource and type, and the first unused one
abbrev pub place_named : List Place → Name → Option ℕ
place_named ps x = first_from (λ p. names p x) ps 0

abbrev pub first_unused : List Place → Option ℕ
first_unused ps = first_from (λ p. not (in_use p)) ps 0
