-- The pass over the lengths of a place's slots: what it says of their contents, and what the slots that are left add to what was seen.
-- Assumes nothing.
use mathlib.Core.Path.{◌≡◌, refl, sym, ap, subst, ◌∙◌}
use mathlib.Core.Bool.{Bool, true, false, cond}
use mathlib.Core.List.{List, [], ◌∷◌}
use mathlib.Core.Logic.{◌⊎◌, inl, inr}
use Prim.Native.Nat.{ℕ, suc, ◌+◌, ◌<◌, ◌≤◌}
use native.Mathlib.Omega.{arith}
use borrow.Author.Tests.{le-leb, lt-leb}
use lib.ListN.{length, length-append}
use Rattle.places.specs.declared.Place.{Place}
use Rattle.places.specs.Places.{end_of}
use Rattle.contents.specs.Slots.{length_at}
use Rattle.contents.specs.Contents.{Slot as Content, holding, bytes_at, slot_at, length_fits, contents, any_wrong, filled, lowest_empty, joined}
use Rattle.contents.proofs.Bytes.{length-bytes}
use Rattle.contents.proofs.Walks.{contents_from, walk_all, walk_step, walk_end, walk_on}
use Rattle.contents.proofs.Slots.{slot-holds, slot-wrong, slot-within, fits-room}
use Rattle.contents.proofs.Filled.{lowest-found}
use Rattle.contents.proofs.Places.{length-contents}
use Rattle.standing.specs.declared.Seen.{Seen}
use Rattle.standing.specs.Survey.{before, seen_in, seen_of}
use Rattle.std.specs.Prelude.{Option, Some, None}

-- ---- what is seen

module _ (p : Place) (s : List ℕ) where
  pub seen_inside : end_of p ≤ length s → seen_in (contents p s) ≡ seen_of p s
  unfolding seen_of
  seen_inside h = rw (le-leb (end_of p) (length s) h)

  pub seen_outside : length s < end_of p → None ≡ seen_of p s
  unfolding seen_of
  seen_outside h = rw (lt-leb (end_of p) (length s) h)

module _ (c : List Content) where
  seen_wrong : any_wrong c ≡ true → None ≡ seen_in c
  unfolding seen_in
  seen_wrong w = rw w

  seen_sound : (f e b : ℕ) → any_wrong c ≡ false → f ≡ filled c → e ≡ before (lowest_empty c 0) (length c) → b ≡ length (joined c)
      → Some (record { filled = f; empty = e; bytes = b }) ≡ seen_in c
  unfolding seen_in
  seen_sound f e b w x y z = rw (w, x, y, z)

-- what was seen of the slots of a place, none of which is wrong: the number before the lowest empty one is that of all where none is empty
pub record Tallied (p : Place) (c : List Content) (t : Seen) : Type 0 where
  pub right : any_wrong c ≡ false
  pub filled : t.filled ≡ filled c
  pub none : t.empty ≡ p.count → lowest_empty c 0 ≡ None
  pub some : (t.empty ≡ p.count → ⊥) → lowest_empty c 0 ≡ Some t.empty
  pub bytes : t.bytes ≡ length (joined c)

-- what was seen of any slots
abbrev Sees : Place → List Content → Option Seen → Type 0
Sees p c None = any_wrong c ≡ true
Sees p c (Some t) = Tallied p c t

module _ (p : Place) (s : List ℕ) (h : end_of p ≤ length s) where
  sees : (o : Option Seen) → o ≡ seen_of p s → Sees p (contents p s) o
  unfolding seen_in
  sees o e = subst (Sees p (contents p s)) (sym (e ∙ sym (seen_inside p s h))) (by (any_wrong c) (lowest_empty c 0) refl refl)
    where
      c : List Content
      c = contents p s

      by : (b : Bool) (o : Option ℕ) → any_wrong c ≡ b → lowest_empty c 0 ≡ o
          → Sees p c (cond b None (Some (record { filled = filled c; empty = before o (length c); bytes = length (joined c) })))
      by true o w l = w
      by false o w l = record { right = w; filled = refl; none = λ x. none o l x; some = λ x. l ∙ some o l x; bytes = refl }
        where
          none : (o : Option ℕ) → lowest_empty c 0 ≡ o → before o (length c) ≡ p.count → lowest_empty c 0 ≡ None
          none (Some i) l x = absurd (omega (arith, x, (lowest-found c i l).below, length-contents p s))
          none None l x = l

          some : (o : Option ℕ) → lowest_empty c 0 ≡ o → (before o (length c) ≡ p.count → ⊥) → o ≡ Some (before o (length c))
          some (Some i) l x = refl
          some None l x = absurd (x (length-contents p s))

  pub seen_right : (o : Option Seen) (t : Seen) → o ≡ seen_of p s → o ≡ Some t → Tallied p (contents p s) t
  seen_right o t e i = subst (Sees p (contents p s)) i (sees o e)

  pub seen_not : (o : Option Seen) → o ≡ seen_of p s → o ≡ None → any_wrong (contents p s) ≡ true
  seen_not o e i = subst (Sees p (contents p s)) i (sees o e)

-- ---- k slots of c were seen, f of them filled, e before the lowest empty one, with b bytes; d are those that are left

-- either no empty one was seen, or the lowest was
pub data Lowest (c d : List Content) (f e k : ℕ) : Type 0 where
  none : f ≡ k → e ≡ k → lowest_empty d k ≡ lowest_empty c 0 → Lowest c d f e k
  some : f < k → e < k → lowest_empty c 0 ≡ Some e → Lowest c d f e k

pub record Tally (c d : List Content) (f e b k : ℕ) : Type 0 where
  pub right : any_wrong d ≡ any_wrong c
  pub count : f + filled d ≡ filled c
  pub lowest : Lowest c d f e k
  pub total : b + length (joined d) ≡ length (joined c)

-- a slot of n bytes makes the filled ones g, and those before the lowest empty one h
abbrev pub More : ℕ → ℕ → ℕ → Type 0
More f n g = ((n ≡ 0 → ⊥) × (g ≡ f + 1)) ⊎ ((n ≡ 0) × (g ≡ f))

abbrev pub Lead : ℕ → ℕ → ℕ → ℕ → Type 0
Lead e k g h = ((g ≡ k + 1) × (h ≡ k + 1)) ⊎ ((g ≡ k + 1 → ⊥) × (h ≡ e))

module _ (c d : List Content) (f e k n g h : ℕ) where
  lowest-next : (x : List ℕ) → length x ≡ n → Lowest c (holding x ∷ d) f e k → More f n g → Lead e k g h → Lowest c d g h (k + 1)
  lowest-next [] i l (inl w) v = absurd (w.0 (sym i))
  lowest-next [] i (none a b z) (inr w) (inl v) = absurd (omega (arith, w.1, v.0))
  lowest-next [] i (none a b z) (inr w) (inr v) = some (omega (arith, w.1)) (omega (arith, v.1)) (sym z ∙ ap Some (sym (v.1 ∙ b)))
  lowest-next [] i (some a b z) (inr w) (inl v) = absurd (omega (arith, w.1, v.0))
  lowest-next [] i (some a b z) (inr w) (inr v) = some (omega (arith, w.1)) (omega (arith, v.1)) (z ∙ ap Some (sym v.1))
  lowest-next (y ∷ x) i l (inr w) v = absurd (omega (arith, w.0))
  lowest-next (y ∷ x) i (none a b z) (inl w) (inl v) =
      let j : k + 1 ≡ suc k = omega arith in
      none v.0 v.1 (ap (lowest_empty d) j ∙ z)
  lowest-next (y ∷ x) i (none a b z) (inl w) (inr v) = absurd (v.0 (omega (arith, w.1)))
  lowest-next (y ∷ x) i (some a b z) (inl w) (inl v) = absurd (omega (arith, w.1, v.0))
  lowest-next (y ∷ x) i (some a b z) (inl w) (inr v) = some (omega (arith, w.1)) (omega (arith, v.1)) (z ∙ ap Some (sym v.1))

  count_next : (x : List ℕ) → length x ≡ n → More f n g → g + filled d ≡ f + filled (holding x ∷ d)
  count_next [] i (inl w) = absurd (w.0 (sym i))
  count_next [] i (inr w) = omega (arith, w.1)
  count_next (y ∷ x) i (inl w) = omega (arith, w.1)
  count_next (y ∷ x) i (inr w) = absurd (omega (arith, w.0))

  pub tally_next : (x : List ℕ) → length x ≡ n → (b : ℕ) → Tally c (holding x ∷ d) f e b k → More f n g → Lead e k g h → Tally c d g h (b + n) (k + 1)
  tally_next x i b t w v = record {
    right = t.right;
    count = count_next x i w ∙ t.count;
    lowest = lowest-next x i t.lowest w v;
    total = omega (arith, t.total, length-append x (joined d));
  }

pub tally_first : (c : List Content) → Tally c c 0 0 0 0
tally_first c = record { right = refl; count = omega arith; lowest = none refl refl refl; total = omega arith }

-- filled ones are not more than were seen
pub tally_few : (c d : List Content) (f e b k : ℕ) → Tally c d f e b k → f ≤ k
tally_few c d f e b k t = by t.lowest
  where
    by : Lowest c d f e k → f ≤ k
    by (none x y z) = omega arith
    by (some x y z) = omega arith

-- ---- the pass, at slot k
pub record Surveying (p : Place) (s : List ℕ) (f e b k : ℕ) : Type 0 where
  pub within : k ≤ p.count
  pub short : b ≤ slot_at p k
  pub tally : Tally (contents p s) (contents_from p s k) f e b k

pub surveying_first : (p : Place) (s : List ℕ) → Surveying p s 0 0 0 0
surveying_first p s = record {
  within = omega arith;
  short = omega arith;
  tally = rw (walk_all p s) (tally_first (contents p s));
}

module _ (p : Place) (s : List ℕ) (f e b k : ℕ) (v : Surveying p s f e b k) where
  pub surveying_few : f ≤ k
  surveying_few = tally_few _ _ _ _ _ _ v.tally

  pub surveying_end : end_of p ≤ length s → p.count ≤ k → Some (record { filled = f; empty = e; bytes = b }) ≡ seen_of p s
  surveying_end i h = by (rw (walk_end p s k h) at v.tally) ∙ seen_inside p s i
    where
      by : Tally (contents p s) [] f e b k → Some (record { filled = f; empty = e; bytes = b }) ≡ seen_in (contents p s)
      by t = seen_sound (contents p s) f e b (sym t.right) (omega (arith, t.count)) (lowest t.lowest) (omega (arith, t.total))
        where
          all : k ≡ length (contents p s)
          all = omega (arith, v.within, length-contents p s)

          lowest : Lowest (contents p s) [] f e k → e ≡ before (lowest_empty (contents p s) 0) (length (contents p s))
          lowest (none x y z) = y ∙ all ∙ ap (λ (o : Option ℕ). before o (length (contents p s))) z
          lowest (some x y z) = ap (λ (o : Option ℕ). before o (length (contents p s))) (sym z)

  module _ (h : k < p.count) (n : ℕ) (l : n ≡ length_at s (slot_at p k)) where
    pub surveying_wrong : end_of p ≤ length s → length_fits p n ≡ false → None ≡ seen_of p s
    surveying_wrong i w =
        seen_wrong (contents p s)
        (sym v.tally.right
        ∙ ap any_wrong (walk_step p s k h ∙ ap (λ (y : Content). y ∷ contents_from p s (k + 1)) (slot-wrong p s k (rw (sym l) w))))
        ∙ seen_inside p s i

    module _ (w : length_fits p n ≡ true) where
      -- no number of bytes passes a word
      pub surveying_room : end_of p ≤ length s → b + n ≤ length s
      surveying_room i = omega (arith, v.short, fits-room p n w, (slot-within p k h).1)

      pub surveying_next : (g o : ℕ) → More f n g → Lead e k g o → Surveying p s g o (b + n) (k + 1)
      surveying_next g o m q =
          let x : List ℕ = bytes_at s (slot_at p k + 2) n in
          let d : contents_from p s k ≡ holding x ∷ contents_from p s (k + 1) =
          walk_step p s k h ∙ ap (λ (y : Content). y ∷ contents_from p s (k + 1)) (slot-holds p s k n (sym l) w) in
          record {
            within = omega arith;
            short = omega (arith, v.short, fits-room p n w, walk_on p k);
            tally = tally_next (contents p s) (contents_from p s (k + 1)) f e k n g o x (length-bytes s (slot_at p k + 2) n) b (rw d at v.tally) m q;
          }
