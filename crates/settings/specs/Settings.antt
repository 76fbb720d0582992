-- The settings of a file: document 01, sections 2 and 4; with the edition, document 02, R-9, and the order in which its tables are sent, R-8; and the house setting, which stands here alone.
-- Assumes nothing.
use Rattle.std.specs.Prelude.{Bool, cond, not, ◌&&◌, ◌||◌, ℕ, ◌%◌, eqb, leb}
use Rattle.packet.specs.Edition.{spare_of}
use Rattle.settings.specs.declared.Settings.{Settings}

-- a payload is whole rows with protection in row order; it is not without protection, nor in column order
abbrev pub row_wise : ℕ → ℕ → Bool
row_wise protection order = not (eqb protection 0) && eqb order 0

-- a payload or slot size: a multiple of 255, from 255 to 3825, where it is whole rows; else 1 to 4077
abbrev pub size_fits : ℕ → ℕ → ℕ → Bool
size_fits protection order size =
    cond (row_wise protection order) (eqb (size % 255) 0 && (leb 255 size && leb size 3825)) (leb 1 size && leb size 4077)

-- order 0 (rows), or 1 (columns) with protection
abbrev pub order_fits : ℕ → ℕ → Bool
order_fits protection order = eqb order 0 || (eqb order 1 && not (eqb protection 0))

-- resource 1 to 65535, type 1 or 2, update 0 to 15, protection 0 or 1, M 1 to 255 with protection (any without), edition 1 or 2, order and size in their ranges
unfoldable pub settings_fit : Settings → Bool
settings_fit g =
    leb 1 g.resource && (leb g.resource 65535 && ((eqb g.kind 1 || eqb g.kind 2) && (leb g.update 15
    && (leb g.protection 1 && ((eqb g.protection 0 || (leb 1 g.rows && leb g.rows 255))
    && ((eqb g.edition 1 || eqb g.edition 2) && (order_fits g.protection g.order && size_fits g.protection g.order g.size)))))))

-- M as it is held: 0 without protection
abbrev pub rows_held : Settings → ℕ
rows_held g = cond (eqb g.protection 0) 0 g.rows

-- M as it is written: without protection as the edition has it
abbrev pub rows_sent : Settings → ℕ
rows_sent g = cond (eqb g.protection 0) (spare_of g.edition).rows g.rows

-- the edition that is meant where none is named
abbrev pub meant_edition : ℕ
meant_edition = 2

-- and the order
abbrev pub meant_order : ℕ
meant_order = 0

-- the house setting: protection 1 and M = 32 (section 4), fifteen rows a packet, P and S = 3825 (document 02, R-6), that edition and that order
abbrev pub house : ℕ → ℕ → ℕ → Settings
house resource kind update =
    record { resource = resource; kind = kind; update = update; protection = 1; rows = 32; size = 3825; edition = meant_edition; order = meant_order }
