-- What open does: an accepted open takes the lowest start, leaves its slots empty and every other place as it was; a refused one changes nothing.
-- Assumes nothing.
use mathlib.Core.Path.{◌≡◌, refl, sym, ap, ◌∙◌}
use mathlib.Core.Bool.{true, false}
use mathlib.Core.List.{List, []}
use mathlib.Core.Logic.{inl, inr, ⊎_elim}
use Prim.Native.Nat.{ℕ, ◌+◌, ◌*◌, ◌<◌, ◌≤◌}
use native.Mathlib.Omega.{arith}
use borrow.Author.Tests.{leb-true}
use lib.Dec.{leb}
use lib.ListN.{length, get_or, set, replicate}
use lib.Seq.{get_or-set_same, get_or-set_other}
use Rattle.std.proofs.lemmas.Bool.{and_parts}
use Rattle.refusals.specs.declared.Refusal.{Refusal}
use Rattle.refusals.specs.declared.Refusal.TheVariants.{Held, Full, Room}
use Rattle.settings.specs.declared.Settings.{Settings}
use Rattle.settings.specs.Settings.{settings_fit}
use Rattle.places.specs.declared.Record.{Record}
use Rattle.places.specs.declared.Name.{Name}
use Rattle.places.specs.Places.{settings_name, unused, in_use, usable, cover_of, end_of, meets, place_of, good, place_named, first_unused}
use Rattle.places.specs.Room.{free}
use Rattle.places.proofs.Facts.{usable-limit, usable-within}
use Rattle.places.proofs.Holders.{unused-at, unused-none, named_new, named_other}
use Rattle.places.proofs.Named.{names-yes}
use Rattle.places.proofs.Opened.{placed_end, opened-good}
use Rattle.places.proofs.Starts.{Free, free_is, clear_apart, lowest-free, lowest-least, lowest-none, none-lowest}
use Rattle.contents.specs.Slots.{cleared}
use Rattle.contents.specs.Contents.{holding, contents}
use Rattle.contents.proofs.Bytes.{length-cleared}
use Rattle.contents.proofs.Places.{apart-meets, clearing_empties, clearing_leaves}
use Rattle.opening.specs.Open.{Plan, refuse, take, plan_of, Opening, open_of}
use Rattle.opening.proofs.PlanLaws.{Fitting, Taking, Reason, held, full, lacking, reason, taking, plan_room, open_by}
use Rattle.std.specs.Prelude.{Ok, Err}
use Rattle.std.specs.Prelude.{Some, None}

-- settings that fit name a resource
resource_used : (g : Settings) → settings_fit g ≡ true → g.resource ≡ 0 → ⊥
unfolding settings_fit
resource_used g f z = omega (arith, leb-true 1 g.resource (and_parts (leb 1 g.resource) _ f).0)

-- ---- an accepted open: place i of the record, from a start on

module _ (h : Record) (n : ℕ) (g : Settings) (count i start : ℕ) (t : Taking h n g count i start) where
  pub open_below : i < length h.places
  open_below = (unused-at h.places i t.unused).0

  -- the bytes from the start on are free, and from no lower one
  pub open_free : Free n (cover_of count g.size) h.places start
  open_free = free_is n (cover_of count g.size) h.places start (lowest-free n (cover_of count g.size) h.places start t.lowest)

  pub open_lowest : (x : ℕ) → free n (cover_of count g.size) h.places x ≡ true → start ≤ x
  open_lowest = lowest-least n (cover_of count g.size) h.places start t.lowest

  -- they are in the usable store
  pub open_ends : end_of (place_of g count start) ≤ usable n
  open_ends = omega (arith, placed_end g count start, open_free.ends)

  pub open_inside : end_of (place_of g count start) ≤ n
  open_inside = omega (arith, open_ends, usable-within n)

  pub open_room : start + count * (g.size + 2) ≤ n
  open_room = omega (arith, open_free.ends, usable-within n)

  pub open_start : start ≤ 16777216
  open_start = omega (arith, open_free.ends, usable-limit n)

  -- and are no other place's
  pub open_apart : (j : ℕ) → j < length h.places → in_use (get_or h.places j unused) ≡ true → meets (place_of g count start) (get_or h.places j unused) ≡ false
  open_apart j l u =
      apart-meets (place_of g count start) (get_or h.places j unused)
      (⊎_elim inr (λ x. inl (omega (arith, placed_end g count start)))
      (clear_apart start (cover_of count g.size) (get_or h.places j unused) u (open_free.clears j l)))

  -- the record is good afterwards
  pub open_good : good n (set h.places i (place_of g count start)) ≡ true
  open_good = opened-good n h.places g count start i t.fitting.fits t.fitting.counted t.absent t.fitting.sound t.lowest

  pub open_own : get_or (set h.places i (place_of g count start)) i unused ≡ place_of g count start
  open_own = get_or-set_same h.places i (place_of g count start) unused open_below

  -- its name is found at the new place, and every other where it was
  pub open_named : place_named (set h.places i (place_of g count start)) (settings_name g) ≡ Some i
  open_named =
      named_new h.places i (place_of g count start) (settings_name g) t.absent open_below
      (names-yes (place_of g count start) (settings_name g) (resource_used g t.fitting.fits) refl)

  pub open_named-other : (r : Name) → (settings_name g ≡ r → ⊥) → place_named (set h.places i (place_of g count start)) r ≡ place_named h.places r
  open_named-other r d = named_other h.places i (place_of g count start) r (unused-at h.places i t.unused).1 d

-- ---- and what the store then holds

module _ (h : Record) (s : List ℕ) (g : Settings) (count i start : ℕ) (t : Taking h (length s) g count i start) where
  pub open_length : length (cleared s start count (g.size + 2)) ≡ length s
  open_length = length-cleared s start count (g.size + 2)

  -- each slot of the new place is empty
  pub open_empty : contents (place_of g count start) (cleared s start count (g.size + 2)) ≡ replicate count (holding [])
  open_empty = clearing_empties (place_of g count start) s (open_inside h (length s) g count i start t)

  -- every other place and what it holds are as they were
  pub open_others : (j : ℕ) → j < length h.places → (j ≡ i → ⊥) → in_use (get_or h.places j unused) ≡ true
      → (get_or (set h.places i (place_of g count start)) j unused ≡ get_or h.places j unused)
      × (contents (get_or h.places j unused) (cleared s start count (g.size + 2)) ≡ contents (get_or h.places j unused) s)
  open_others j l d u =
      (get_or-set_other h.places i j (place_of g count start) unused d, clearing_leaves (place_of g count start) (get_or h.places j unused) s (open_apart h (length s) g count i start t j l u))

-- ---- a refused one

module _ (h : Record) (s : List ℕ) (g : Settings) (count : ℕ) where
  -- nothing changes
  pub refused-record : (r : Refusal) → plan_of h (length s) g count ≡ refuse r → (open_of h s g count).kept.«record» ≡ h
  refused-record r e = ap (λ (o : Opening). o.kept.«record») (open_by h s g count (refuse r) e)

  pub refused-store : (r : Refusal) → plan_of h (length s) g count ≡ refuse r → (open_of h s g count).store ≡ s
  refused-store r e = ap (λ (o : Opening). o.store) (open_by h s g count (refuse r) e)

  -- what is answered tells the plan
  pub refused_plan : (r : Refusal) → (open_of h s g count).kept.verdict ≡ Err r → plan_of h (length s) g count ≡ refuse r
  refused_plan r e = by (plan_of h (length s) g count) refl
    where
      by : (p : Plan) → plan_of h (length s) g count ≡ p → p ≡ refuse r
      by (refuse q) d =
          let v : Err q ≡ Err r = sym (ap (λ (o : Opening). o.kept.verdict) (open_by h s g count (refuse q) d)) ∙ e in
          let z : q ≡ r = cc in
          ap refuse z
      by (take i start) d =
          let v : (Ok tt) ≡ Err r = sym (ap (λ (o : Opening). o.kept.verdict) (open_by h s g count (take i start) d)) ∙ e in
          let z : ◌≡◌ {A = ℕ} 0 1 = cc in
          absurd (omega arith)

  pub accepted_plan : (open_of h s g count).kept.verdict ≡ (Ok tt) → (i : ℕ) × (start : ℕ) × Taking h (length s) g count i start
  accepted_plan e = by (plan_of h (length s) g count) refl
    where
      by : (p : Plan) → plan_of h (length s) g count ≡ p → (i : ℕ) × (start : ℕ) × Taking h (length s) g count i start
      by (refuse q) d =
          let v : Err q ≡ (Ok tt) = sym (ap (λ (o : Opening). o.kept.verdict) (open_by h s g count (refuse q) d)) ∙ e in
          let z : ◌≡◌ {A = ℕ} 0 1 = cc in
          absurd (omega arith)
      by (take i start) d = (i, start, taking h (length s) g count i start d)

  -- ---- whatever is answered, a good record stays good, and the store as long as it was

  pub open_keeps : good (length s) h.places ≡ true → good (length s) (open_of h s g count).kept.«record».places ≡ true
  open_keeps b = by (plan_of h (length s) g count) refl
    where
      by : (p : Plan) → plan_of h (length s) g count ≡ p → good (length s) (open_of h s g count).kept.«record».places ≡ true
      by (refuse q) d = rw (refused-record q d) b
      by (take i start) d =
          rw (open_by h s g count (take i start) d) (open_good h (length s) g count i start (taking h (length s) g count i start d))

  pub open_keeps_length : length (open_of h s g count).store ≡ length s
  open_keeps_length = by (plan_of h (length s) g count) refl
    where
      by : (p : Plan) → plan_of h (length s) g count ≡ p → length (open_of h s g count).store ≡ length s
      by (refuse q) d = ap length (refused-store q d)
      by (take i start) d =
          ap (λ (o : Opening). length o.store) (open_by h s g count (take i start) d)
          ∙ open_length h s g count i start (taking h (length s) g count i start d)

-- ---- Held, Full and Room, each exactly if nothing before refuses and ..

module _ (h : Record) (n : ℕ) (g : Settings) (count : ℕ) where
  -- .. a place holds the resource and type
  pub held-only : plan_of h n g count ≡ refuse Held → (j : ℕ) × (place_named h.places (settings_name g) ≡ Some j)
  held-only e = by (rw e at (reason h n g count))
    where
      by : Reason h n g count (refuse Held) → (j : ℕ) × (place_named h.places (settings_name g) ≡ Some j)
      by (held f j a) = (j, a)

  -- .. every place is in use
  pub full-only : plan_of h n g count ≡ refuse Full → (k : ℕ) → k < length h.places → in_use (get_or h.places k unused) ≡ true
  full-only e = by (rw e at (reason h n g count))
    where
      by : Reason h n g count (refuse Full) → (k : ℕ) → k < length h.places → in_use (get_or h.places k unused) ≡ true
      by (full f a u) = unused-none h.places u

  -- .. no start is free
  pub room-only : plan_of h n g count ≡ refuse Room → (x : ℕ) → free n (cover_of count g.size) h.places x ≡ false
  room-only e = by (rw e at (reason h n g count))
    where
      by : Reason h n g count (refuse Room) → (x : ℕ) → free n (cover_of count g.size) h.places x ≡ false
      by (lacking f a i u l) = lowest-none n (cover_of count g.size) h.places l

  pub room_then : Fitting h n g count → place_named h.places (settings_name g) ≡ None → (i : ℕ) → first_unused h.places ≡ Some i
      → ((x : ℕ) → free n (cover_of count g.size) h.places x ≡ false) → plan_of h n g count ≡ refuse Room
  room_then f a i u none = plan_room h n g count f a i u (none-lowest n (cover_of count g.size) h.places none)
