-- What open comes to, case by case, in the order 9, 17, 18, 19, 20; what a plan to take a place says; and what is then carried out.
-- Assumes nothing.
use mathlib.Core.Path.{◌≡◌, refl, sym, ap, ◌∙◌}
use mathlib.Core.Bool.{Bool, true, false, ◌&&◌}
use mathlib.Core.List.{List}
use Prim.Native.Nat.{ℕ, ◌+◌}
use native.Mathlib.Omega.{arith}
use lib.ListN.{length, set}
use Rattle.refusals.specs.declared.Refusal.{Refusal}
use Rattle.refusals.specs.declared.Refusal.TheVariants.{Field, Held, Full, Room}
use Rattle.settings.specs.declared.Settings.{Settings}
use Rattle.settings.specs.Settings.{settings_fit}
use Rattle.places.specs.declared.Record.{Record}
use Rattle.places.specs.Places.{settings_name, cover_of, place_of, count_fits, good, place_named, first_unused}
use Rattle.places.specs.Room.{lowest_start}
use Rattle.contents.specs.Slots.{cleared}
use Rattle.opening.specs.Inner.{planned}
use Rattle.opening.specs.Open.{renewed, Plan, refuse, take, with_start, with_unused, with_holder, plan_of, Opening, carried_out, open_of, Opens}
use Rattle.std.specs.Prelude.{Option}
use Rattle.std.specs.Prelude.{Ok, Err}
use Rattle.std.specs.Prelude.{Some, None}

-- ---- a place and a start, where nothing before refuses

module _ (h : Record) (n size : ℕ) where
  pub room-full : first_unused h.places ≡ None → with_unused h n size (first_unused h.places) ≡ refuse Full
  room-full u = ap (with_unused h n size) u

  module _ (i : ℕ) (u : first_unused h.places ≡ Some i) where
    pub room-none : lowest_start n size h.places ≡ None → with_unused h n size (first_unused h.places) ≡ refuse Room
    room-none l = ap (with_unused h n size) u ∙ ap (with_start i) l

    pub room_take : (start : ℕ) → lowest_start n size h.places ≡ Some start → with_unused h n size (first_unused h.places) ≡ take i start
    room_take start l = ap (with_unused h n size) u ∙ ap (with_start i) l

-- ---- the plan, case by case

module _ (h : Record) (n : ℕ) (g : Settings) (count : ℕ) where
  pub plan_record : good n h.places ≡ false → plan_of h n g count ≡ refuse Refusal.Record
  unfolding plan_of
  plan_record b = rw b

  module _ (b : good n h.places ≡ true) where
    pub plan_settings : settings_fit g ≡ false → plan_of h n g count ≡ refuse Field
    unfolding plan_of
    plan_settings f = rw (b, f)

    module _ (f : settings_fit g ≡ true) where
      pub plan_count : count_fits count ≡ false → plan_of h n g count ≡ refuse Field
      unfolding plan_of
      plan_count e = rw (b, f, e)

      module _ (e : count_fits count ≡ true) where
        plan_fits : plan_of h n g count ≡ with_holder h n (cover_of count g.size) (place_named h.places (settings_name g))
        unfolding plan_of
        plan_fits = rw (b, f, e)

        pub plan_held : (j : ℕ) → place_named h.places (settings_name g) ≡ Some j → plan_of h n g count ≡ refuse Held
        plan_held j a = plan_fits ∙ ap (with_holder h n (cover_of count g.size)) a

        pub plan_new : place_named h.places (settings_name g) ≡ None
            → plan_of h n g count ≡ with_unused h n (cover_of count g.size) (first_unused h.places)
        plan_new a = plan_fits ∙ ap (with_holder h n (cover_of count g.size)) a

-- ---- what a plan says of the record, the settings and the count

-- refusals 9 and 17 are ruled out
pub record Fitting (h : Record) (n : ℕ) (g : Settings) (count : ℕ) : Type 0 where
  pub sound : good n h.places ≡ true
  pub fits : settings_fit g ≡ true
  pub counted : count_fits count ≡ true

-- place i is unused, and the bytes go from the start on
pub record Taking (h : Record) (n : ℕ) (g : Settings) (count i start : ℕ) : Type 0 where
  pub fitting : Fitting h n g count
  pub absent : place_named h.places (settings_name g) ≡ None
  pub unused : first_unused h.places ≡ Some i
  pub lowest : lowest_start n (cover_of count g.size) h.places ≡ Some start

-- each plan with its reason
pub data Reason (h : Record) (n : ℕ) (g : Settings) (count : ℕ) : Plan → Type 0 where
  unsound : good n h.places ≡ false → Reason h n g count (refuse Refusal.Record)
  unfit : good n h.places ≡ true → (settings_fit g && count_fits count) ≡ false → Reason h n g count (refuse Field)
  held : Fitting h n g count → (j : ℕ) → place_named h.places (settings_name g) ≡ Some j → Reason h n g count (refuse Held)
  full : Fitting h n g count → place_named h.places (settings_name g) ≡ None → first_unused h.places ≡ None → Reason h n g count (refuse Full)
  lacking : Fitting h n g count → place_named h.places (settings_name g) ≡ None → (i : ℕ) → first_unused h.places ≡ Some i
      → lowest_start n (cover_of count g.size) h.places ≡ None → Reason h n g count (refuse Room)
  taken : {i start : ℕ} → Taking h n g count i start → Reason h n g count (take i start)

module _ (h : Record) (n : ℕ) (g : Settings) (count : ℕ) where
  new : Fitting h n g count → place_named h.places (settings_name g) ≡ None → plan_of h n g count ≡ with_unused h n (cover_of count g.size) (first_unused h.places)
  new t a = plan_new h n g count t.sound t.fits t.counted a

  pub plan_full : Fitting h n g count → place_named h.places (settings_name g) ≡ None → first_unused h.places ≡ None → plan_of h n g count ≡ refuse Full
  plan_full t a u = new t a ∙ room-full h n (cover_of count g.size) u

  pub plan_room : Fitting h n g count → place_named h.places (settings_name g) ≡ None → (i : ℕ) → first_unused h.places ≡ Some i
      → lowest_start n (cover_of count g.size) h.places ≡ None → plan_of h n g count ≡ refuse Room
  plan_room t a i u l = new t a ∙ room-none h n (cover_of count g.size) i u l

  pub taking_plan : (i start : ℕ) → Taking h n g count i start → plan_of h n g count ≡ take i start
  taking_plan i start t = new t.fitting t.absent ∙ room_take h n (cover_of count g.size) i t.unused start t.lowest

  pub reason : Reason h n g count (plan_of h n g count)
  reason = judged (good n h.places) (settings_fit g) (count_fits count) refl refl refl
    where
      placed : Fitting h n g count → place_named h.places (settings_name g) ≡ None → (i : ℕ) → first_unused h.places ≡ Some i
          → (l : Option ℕ) → lowest_start n (cover_of count g.size) h.places ≡ l → Reason h n g count (plan_of h n g count)
      placed t a i u (Some s) l =
          let r : Taking h n g count i s = record { fitting = t; absent = a; unused = u; lowest = l } in
          rw (taking_plan i s r) (taken r)
      placed t a i u None l = rw (plan_room t a i u l) (lacking t a i u l)

      searched : Fitting h n g count → place_named h.places (settings_name g) ≡ None → (u : Option ℕ) → first_unused h.places ≡ u → Reason h n g count (plan_of h n g count)
      searched t a (Some i) u = placed t a i u (lowest_start n (cover_of count g.size) h.places) refl
      searched t a None u = rw (plan_full t a u) (full t a u)

      named : Fitting h n g count → (a : Option ℕ) → place_named h.places (settings_name g) ≡ a → Reason h n g count (plan_of h n g count)
      named t (Some j) a = rw (plan_held h n g count t.sound t.fits t.counted j a) (held t j a)
      named t None a = searched t a (first_unused h.places) refl

      judged : (b f c : Bool) → good n h.places ≡ b → settings_fit g ≡ f → count_fits count ≡ c → Reason h n g count (plan_of h n g count)
      judged true true true b f c = named (record { sound = b; fits = f; counted = c }) (place_named h.places (settings_name g)) refl
      judged true true false b f c = rw (plan_count h n g count b f c) (unfit b (rw (f, c)))
      judged true false c b f e = rw (plan_settings h n g count b f) (unfit b (rw f))
      judged false f c b e d = rw (plan_record h n g count b) (unsound b)

  pub taking : (i start : ℕ) → plan_of h n g count ≡ take i start → Taking h n g count i start
  taking i start e = by (rw e at reason)
    where
      by : Reason h n g count (take i start) → Taking h n g count i start
      by (taken t) = t

-- ---- a plan as the code holds it

pub planned-refuse : (p : Plan) (r : Refusal) → planned p ≡ Err r → p ≡ refuse r
planned-refuse (refuse q) r e = cc
planned-refuse (take i start) r e = let z : ◌≡◌ {A = ℕ} 0 1 = cc in absurd (omega arith)

pub planned-take : (p : Plan) (i start : ℕ) → planned p ≡ Ok (i, start) → p ≡ take i start
planned-take (refuse q) i start e = let z : ◌≡◌ {A = ℕ} 0 1 = cc in absurd (omega arith)
planned-take (take j x) i start e =
    let both : ◌≡◌ {A = ℕ × ℕ} (j, x) (i, start) = cc in
    ap (λ (p : ℕ × ℕ). take p.0 p.1) both

-- ---- what is carried out

pub open_by : (h : Record) (s : List ℕ) (g : Settings) (count : ℕ) (p : Plan) → plan_of h (length s) g count ≡ p → open_of h s g count ≡ carried_out h s g count p
unfolding open_of
open_by h s g count p e = ap (carried_out h s g count) e

pub open_refused : (h : Record) (s : List ℕ) (g : Settings) (count : ℕ) (r : Refusal) → plan_of h (length s) g count ≡ refuse r
    → Opens h s g count (Err r) s
open_refused h s g count r e =
    let o = open_by h s g count (refuse r) e in
    record { answers = ap (λ (x : Opening). renewed x.kept) (sym o); leaves = ap (λ (x : Opening). x.store) (sym o) }

pub open_taken : (h : Record) (s : List ℕ) (g : Settings) (count i start : ℕ) → plan_of h (length s) g count ≡ take i start
    → Opens h s g count (Ok (record { places = set h.places i (place_of g count start) })) (cleared s start count (g.size + 2))
open_taken h s g count i start e =
    let o = open_by h s g count (take i start) e in
    record { answers = ap (λ (x : Opening). renewed x.kept) (sym o); leaves = ap (λ (x : Opening). x.store) (sym o) }
