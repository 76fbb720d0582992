-- Status, case by case, in the order of its refusals: 9, 10, 15. It sees nothing of the store but the contents of the place. Assumes nothing.
use mathlib.Core.Path.{◌≡◌, refl, sym, ap, ap₂, ◌∙◌}
use mathlib.Core.Bool.{true, false, cond}
use mathlib.Core.List.{List}
use Prim.Native.Nat.{ℕ}
use lib.ListN.{length, get_or}
use Rattle.refusals.specs.declared.Refusal.{Refusal}
use Rattle.refusals.specs.declared.Refusal.TheVariants.{Unknown, Slot}
use Rattle.places.specs.declared.Place.{Place}
use Rattle.places.specs.declared.Record.{Record}
use Rattle.places.specs.declared.Name.{Name}
use Rattle.places.specs.Places.{unused, good, place_named}
use Rattle.contents.specs.Contents.{Slot as Content, contents, any_wrong, filled, lowest_empty}
use Rattle.contents.proofs.Filled.{filled-all}
use Rattle.standing.specs.declared.Seen.{Seen}
use Rattle.standing.specs.declared.Standing.{Standing}
use Rattle.standing.specs.Status.{standing_in, status_found, status_of}
use Rattle.standing.proofs.SurveyLaws.{Tallied}
use Rattle.std.specs.Prelude.{Option, Some, None, Result, Ok, Err}

-- ---- by the contents of the slots

module _ (c : List Content) where
  pub standing_wrong : any_wrong c ≡ true → Err Slot ≡ standing_in c
  unfolding standing_in
  standing_wrong w = rw w

  pub standing_sound : (p : Place) (t : Seen) → Tallied p c t → (e : Option ℕ) → lowest_empty c 0 ≡ e → Ok (record { filled = t.filled; lowest = e }) ≡ standing_in c
  unfolding standing_in
  standing_sound p t a e l = rw (a.right, sym a.filled, l)

  -- every slot is filled
  pub standing_full : filled c ≡ length c → standing_in c ≡ Ok (record { filled = length c; lowest = None })
  unfolding standing_in
  standing_full e = let f = filled-all c 0 e in rw (f.0, e, f.1)

-- ---- by the record

module _ (h : Record) (s : List ℕ) (x : Name) where
  pub status_record : good (length s) h.places ≡ false → Err Refusal.Record ≡ status_of h s x
  unfolding status_of
  status_record b = rw b

  module _ (b : good (length s) h.places ≡ true) where
    status_good : status_found h s (place_named h.places x) ≡ status_of h s x
    unfolding status_of
    status_good = rw b

    pub status_unknown : place_named h.places x ≡ None → Err Unknown ≡ status_of h s x
    status_unknown a = ap (status_found h s) (sym a) ∙ status_good

    pub status_found_lem : (i : ℕ) → place_named h.places x ≡ Some i → standing_in (contents (get_or h.places i unused) s) ≡ status_of h s x
    status_found_lem i a = ap (status_found h s) (sym a) ∙ status_good

-- ---- two stores of one length, with the same contents at the place

module _ (h : Record) (s t : List ℕ) (x : Name) (l : length s ≡ length t)
    (same : (i : ℕ) → place_named h.places x ≡ Some i → contents (get_or h.places i unused) s ≡ contents (get_or h.places i unused) t) where
  pub status_same : status_of h s x ≡ status_of h t x
  unfolding status_of
  status_same =
      ap₂ (λ (n : ℕ) (x : Result Standing Refusal). cond (good n h.places) x (Err Refusal.Record)) l (by (place_named h.places x) same)
    where
      by : (e : Option ℕ) → ((i : ℕ) → e ≡ Some i → contents (get_or h.places i unused) s ≡ contents (get_or h.places i unused) t) → status_found h s e ≡ status_found h t e
      by (Some i) f = ap standing_in (f i refl)
      by None f = refl
