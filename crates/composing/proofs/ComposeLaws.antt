-- The lines that are written are those of the attributes, and what writing answers in each of its three cases. Assumes nothing.
use mathlib.Core.Path.{◌≡◌, refl, sym, ap, ap₂, ◌∙◌}
use mathlib.Core.Bool.{Bool, true, false, true≢false, ◌&&◌}
use mathlib.Core.List.{List, [], ◌∷◌, ◌++◌, append_assoc, append-nil, map}
use Prim.Native.Nat.{ℕ, zero, suc, ◌+◌, ◌-◌, ◌<◌, ◌≤◌}
use native.Mathlib.Numerals.{add-one}
use native.Mathlib.Omega.{arith}
use borrow.Author.Tests.{leb-true, le-leb, lt-leb}
use lib.Dec.{leb, ltb}
use lib.ListN.{length, get_or, length-append}
use lib.Seq.{sets}
use Rattle.std.proofs.lemmas.Bool.{and_parts}
use Rattle.decimal.specs.Decimal.{digits}
use Rattle.refusals.specs.declared.Refusal.TheVariants.{Line, Output}
use Rattle.attributes.specs.declared.Part.{Part}
use Rattle.attributes.specs.declared.Description.{Description}
use Rattle.attributes.specs.Attributes.{attributes_of, part_of, no_charset, no_size, optional_text, time_value, values}
use Rattle.attributes.specs.Rules.{inside, placed, rules_of, rules, lowest}
use Rattle.attributes.specs.Lines.{lines_text}
use Rattle.attributes.specs.Describe.{nowhere}
use Rattle.attributes.specs.Compose.{text_of, compose_of}
use Rattle.attributes.proofs.RuleLaws.{both-all, lowest-before}
use Rattle.composing.specs.Inner.{Piece, own, pieces, piece_of, line_of, size_of, lines_by, size_by, Lies, Placed}
use Rattle.composing.proofs.LineLaws.{fifteen, line-long}
use Rattle.std.specs.Prelude.{Ok, Err}

-- ---- where all fifteen rules are kept, the parts lie in the text

inside-lies : (t : List ℕ) (p : Part) → inside t p ≡ true → Lies t p
inside-lies t p e =
    let b = and_parts (leb p.at (length t)) (leb p.length (length t - p.at)) e in
    omega (arith, leb-true p.at (length t) b.0, leb-true p.length (length t - p.at) b.1)

mapped : (f : Piece → Bool) (ps : List Piece) (k : ℕ) → get_or (map f ps) k false ≡ true → f (get_or ps k (own [])) ≡ true
mapped f [] k e = absurd (true≢false (sym e))
mapped f (p ∷ ps) zero e = e
mapped f (p ∷ ps) (suc k) e = mapped f ps k e

placed-pieces : (t : List ℕ) (d : Description) → placed t d ≡ map (λ (p : Piece). inside t p.part) (pieces d)
unfolding placed pieces
placed-pieces t d =
    let e : true ≡ inside t nowhere = sym (ap₂ ◌&&◌ (le-leb 0 (length t) (omega arith)) (le-leb 0 (length t - 0) (omega arith))) in
    λ i. e i ∷ e i ∷ e i ∷ e i ∷ inside t d.name ∷ e i ∷ inside t d.title ∷ inside t d.summary ∷ inside t d.keywords ∷ e i ∷ inside t d.path
    ∷ e i ∷ e i ∷ e i ∷ e i ∷ []

pub all_placed : (t : List ℕ) (d : Description) → 15 < lowest (rules t d) → Placed t d
unfolding rules
all_placed t d h = record {
  part = λ k l.
      let e : get_or (placed t d) k false ≡ true = (both-all (placed t d) (rules_of (attributes_of t d)) k (lowest-before (rules t d) k (omega arith))).0 in
      inside-lies t (piece_of d k).part
      (mapped (λ (p : Piece). inside t p.part) (pieces d) k (ap (λ (l : List Bool). get_or l k false) (sym (placed-pieces t d)) ∙ e));
}

-- ---- the lines are those of the attributes

abbrev value_in : List ℕ → Piece → List ℕ
value_in t p = p.short ++ part_of t p.part

values-pieces : (t : List ℕ) (d : Description) → values (attributes_of t d) ≡ map (value_in t) (pieces d)
unfolding values pieces
values-pieces t d =
    let e : (v : List ℕ) → v ≡ v ++ [] = λ v. sym (append-nil v) in
    λ i. e (digits d.service) i ∷ e (digits d.mode) i ∷ e (digits d.resource) i ∷ e (digits d.update) i ∷ part_of t d.name
    ∷ e (digits d.kind) i ∷ part_of t d.title ∷ part_of t d.summary ∷ part_of t d.keywords ∷ e (optional_text no_charset d.charset) i
    ∷ part_of t d.path ∷ e (optional_text no_size d.size) i ∷ e (time_value d.begins) i ∷ e (time_value d.ends) i ∷ e (digits d.delete) i ∷ []

lines_pieces : (t : List ℕ) (k : ℕ) (ps : List Piece) → lines_text (suc k) (map (value_in t) ps) ≡ lines_by t k ps
unfolding line_of
lines_pieces t k [] = refl
lines_pieces t k (p ∷ ps) =
    let again : lines_text (suc (suc k)) (map (value_in t) ps) ≡ lines_by t (suc k) ps = lines_pieces t (suc k) ps in
    simp (again, ← add-one, append_assoc)

pub text_pieces : (t : List ℕ) (d : Description) → text_of (attributes_of t d) ≡ lines_by t 0 (pieces d)
unfolding text_of
text_pieces t d = ap (lines_text 1) (values-pieces t d) ∙ lines_pieces t 0 (pieces d)

lines_long : (t : List ℕ) (k : ℕ) (ps : List Piece) → ((j : ℕ) → j < length ps → Lies t (get_or ps j (own [])).part) → length (lines_by t k ps) ≡ size_by ps
lines_long t k [] h = refl
lines_long t k (p ∷ ps) h =
    let a : length (line_of t k p) ≡ size_of p = line-long t k p (h 0 (omega arith)) in
    let b : length (lines_by t (suc k) ps) ≡ size_by ps = lines_long t (suc k) ps (λ j l. h (suc j) (omega arith)) in
    length-append (line_of t k p) (lines_by t (suc k) ps) ∙ ap₂ ◌+◌ a b

pub text_long : (t : List ℕ) (d : Description) → Placed t d → length (text_of (attributes_of t d)) ≡ size_by (pieces d)
text_long t d h = ap length (text_pieces t d) ∙ lines_long t 0 (pieces d) (λ j l. h.part j (omega (arith, fifteen d)))

-- ---- what writing answers

module _ (t : List ℕ) (d : Description) (out : List ℕ) (fault : ℕ) (told : fault ≡ lowest (rules t d)) where
  pub fault_first : fault ≤ 15 → (Err (Line fault) ≡ (compose_of t d out).answer) × (out ≡ (compose_of t d out).out)
  unfolding compose_of
  fault_first h =
      let b : leb (lowest (rules t d)) 15 ≡ true = le-leb (lowest (rules t d)) 15 (omega arith) in
      (simp (b, told), simp b)

  module _ (sound : 15 < fault) (short : Bool) (test : short ≡ ltb (length out) (size_by (pieces d))) where
    sound_test : leb (lowest (rules t d)) 15 ≡ false
    sound_test = lt-leb (lowest (rules t d)) 15 (omega arith)

    pub parts-placed : Placed t d
    parts-placed = all_placed t d (omega arith)

    room_test : ltb (length out) (length (text_of (attributes_of t d))) ≡ short
    room_test = ap (ltb (length out)) (text_long t d parts-placed) ∙ sym test

    pub room_next : short ≡ true → (Err Output ≡ (compose_of t d out).answer) × (out ≡ (compose_of t d out).out)
    unfolding compose_of
    room_next e = (simp (sound_test, room_test, e), simp (sound_test, room_test, e))

    pub lines_last : short ≡ false → (n : ℕ) (o : List ℕ) → n ≡ size_by (pieces d) → o ≡ sets out 0 (lines_by t 0 (pieces d))
        → (Ok n ≡ (compose_of t d out).answer) × (o ≡ (compose_of t d out).out)
    unfolding compose_of
    lines_last e n o f g =
        let z : n ≡ length (text_of (attributes_of t d)) = f ∙ sym (text_long t d parts-placed) in
        let w : o ≡ sets out 0 (text_of (attributes_of t d)) = g ∙ ap (sets out 0) (sym (text_pieces t d)) in
        (simp (sound_test, room_test, e, z), simp (sound_test, room_test, e, w))
