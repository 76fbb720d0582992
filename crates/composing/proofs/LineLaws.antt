-- Lines written one after the other, and the room that they take. Assumes nothing.
use mathlib.Core.Path.{◌≡◌, refl, sym, ap, ap₂, subst, ◌∙◌}
use mathlib.Core.List.{List, [], ◌∷◌, ◌++◌}
use Prim.Native.Nat.{ℕ, suc, ◌+◌, ◌-◌, ◌<◌, ◌≤◌}
use native.Mathlib.Numerals.{add-one}
use native.Mathlib.Omega.{arith}
use lib.ListN.{length, get_or, set, take, drop, length-append, length-drop, drop_of_length-le}
use lib.Seq.{sets, length-sets, length-take-le, drop-cons}
use Rattle.ground.proofs.Writing.{sets-append}
use Rattle.texts.specs.Breaks.{LF}
use Rattle.attributes.specs.declared.Part.{Part}
use Rattle.attributes.specs.declared.Description.{Description}
use Rattle.attributes.specs.Attributes.{part_of}
use Rattle.attributes.specs.Lines.{label}
use Rattle.composing.specs.declared.Value.{Value}
use Rattle.composing.specs.Inner.{Piece, own, pieces, piece_of, piece_in, Holds, line_of, size_of, lines_by, size_by, Lies}

pub fifteen : (d : Description) → length (pieces d) ≡ 15
unfolding pieces
fifteen d = refl

pub part-long : (t : List ℕ) (p : Part) → Lies t p → length (part_of t p) ≡ p.length
part-long t p h = length-take-le p.length (drop p.at t) (omega (arith, length-drop p.at t))

-- ---- one line, written by its pieces

pub line-long : (t : List ℕ) (k : ℕ) (p : Piece) → Lies t p.part → length (line_of t k p) ≡ size_of p
unfolding line_of
line-long t k p h =
    let a : length (p.short ++ (part_of t p.part ++ (LF ∷ []))) ≡ length p.short + length (part_of t p.part ++ (LF ∷ []))
    = length-append p.short (part_of t p.part ++ (LF ∷ [])) in
    let b : length (part_of t p.part ++ (LF ∷ [])) ≡ length (part_of t p.part) + 1 = length-append (part_of t p.part) (LF ∷ []) in
    let c : length (part_of t p.part) ≡ p.part.length = part-long t p.part h in
    omega arith

-- label, short value, part and LF, each where the one before it ends
pub line-put : (t : List ℕ) (k at : ℕ) (v : Value) (out front a b c : List ℕ) → v.length ≤ length v.bytes → Lies t v.part
    → front ≡ label (k + 1) → a ≡ sets out at front → b ≡ sets a (at + 3) (take (v.length - 0) v.bytes)
    → c ≡ sets b (at + 3 + v.length) (take (v.part.at + v.part.length - v.part.at) (drop v.part.at t))
    → set c (at + 3 + v.length + v.part.length) LF ≡ sets out at (line_of t k (piece_in v))
unfolding line_of
line-put t k at v out front a b c h l ff fa fb fc =
    let p : List ℕ = part_of t v.part in
    let s : List ℕ = take v.length v.bytes in
    let w : List ℕ = LF ∷ [] in
    let m : v.part.at + v.part.length - v.part.at ≡ v.part.length = omega arith in
    let n : v.length - 0 ≡ v.length = omega arith in
    let y : at + 3 + v.length + v.part.length ≡ at + 3 + v.length + length p = ap (λ (x : ℕ). at + 3 + v.length + x) (sym (part-long t v.part l)) in
    let z : at + 3 + v.length ≡ at + 3 + length s = ap (λ (x : ℕ). at + 3 + x) (sym (length-take-le v.length v.bytes h)) in
    let gc : c ≡ sets b (at + 3 + v.length) p = fc ∙ ap (λ (x : ℕ). sets b (at + 3 + v.length) (take x (drop v.part.at t))) m in
    let gb : b ≡ sets a (at + 3) s = fb ∙ ap (λ (x : ℕ). sets a (at + 3) (take x v.bytes)) n in
    let ga : a ≡ sets out at (label (k + 1)) = fa ∙ ap (sets out at) ff in
    ap₂ (λ (x : List ℕ) (i : ℕ). sets x i w) gc y
    ∙ sym (sets-append b (at + 3 + v.length) p w)
    ∙ ap₂ (λ (x : List ℕ) (i : ℕ). sets x i (p ++ w)) gb z
    ∙ sym (sets-append a (at + 3) s (p ++ w))
    ∙ ap (λ (x : List ℕ). sets x (at + 3) (s ++ (p ++ w))) ga
    ∙ sym (sets-append out at (label (k + 1)) (s ++ (p ++ w)))

-- ---- lines one after the other: what is left to write makes what all makes

pub record Lined (t : List ℕ) (ps : List Piece) (out₀ out : List ℕ) (at k : ℕ) : Type 0 where
  pub within : k ≤ length ps
  pub long : length out ≡ length out₀
  pub size : at + size_by (drop k ps) ≡ size_by ps
  pub rest : sets out at (lines_by t k (drop k ps)) ≡ sets out₀ 0 (lines_by t 0 ps)

pub lined_begin : (t : List ℕ) (ps : List Piece) (out : List ℕ) → Lined t ps out out 0 0
lined_begin t ps out = record { within = omega arith; long = refl; size = omega arith; rest = refl }

-- what is left begins with line k
pub size_cons : (ps : List Piece) (k : ℕ) → k < length ps → size_by (drop k ps) ≡ size_of (get_or ps k (own [])) + size_by (drop (k + 1) ps)
size_cons ps k h = ap size_by (drop-cons ps k (own []) h) ∙ ap (λ (m : ℕ). size_of (get_or ps k (own [])) + size_by (drop m ps)) (sym (add-one k))

-- by the value that the code has of it
pub size-line : (d : Description) (k : ℕ) (v : Value) → k < 15 → Holds (piece_of d k) v
    → size_by (drop k (pieces d)) ≡ 4 + v.length + v.part.length + size_by (drop (k + 1) (pieces d))
size-line d k v h g =
    let e : v.part.length ≡ (piece_of d k).part.length = ap (λ (p : Piece). p.part.length) g.same in
    let l : v.length ≡ length (piece_of d k).short = g.long in
    let s : size_by (drop k (pieces d)) ≡ size_of (piece_of d k) + size_by (drop (k + 1) (pieces d)) = size_cons (pieces d) k (omega (arith, fifteen d)) in
    omega arith

pub value-lies : (t : List ℕ) (d : Description) (k : ℕ) (v : Value) → Holds (piece_of d k) v → Lies t (piece_of d k).part → Lies t v.part
value-lies t d k v g h = subst (λ (p : Piece). Lies t p.part) (sym g.same) h

module _ (t : List ℕ) (ps : List Piece) (out₀ out : List ℕ) (at k : ℕ) (l : Lined t ps out₀ out at k) where
  pub lined_step : (v : Value) (next : List ℕ) (end : ℕ) → k < length ps → Lies t (get_or ps k (own [])).part → Holds (get_or ps k (own [])) v
      → next ≡ sets out at (line_of t k (piece_in v)) → end ≡ at + (4 + v.length + v.part.length) → Lined t ps out₀ next end (k + 1)
  lined_step v next end h i g u f =
      let p : Piece = get_or ps k (own []) in
      let r : List Piece = drop (k + 1) ps in
      let e : next ≡ sets out at (line_of t k p) = u ∙ ap (λ (q : Piece). sets out at (line_of t k q)) g.same in
      let n : v.length ≡ length p.short = g.long in
      let m : v.part.length ≡ p.part.length = ap (λ (q : Piece). q.part.length) g.same in
      let z : length (line_of t k p) ≡ size_of p = line-long t k p i in
      let y : drop k ps ≡ p ∷ r = drop-cons ps k (own []) h ∙ ap (λ (m : ℕ). p ∷ drop m ps) (sym (add-one k)) in
      let x : end ≡ at + length (line_of t k p) = omega arith in
      let s : size_by (drop k ps) ≡ size_of p + size_by r = size_cons ps k h in
      record {
        within = omega arith;
        long = ap length e ∙ length-sets out at (line_of t k p) ∙ l.long;
        size = omega (arith, l.size);
        rest =
            ap₂ (λ (o : List ℕ) (m : ℕ). sets o m (lines_by t (k + 1) r)) e x
            ∙ ap (λ (m : ℕ). sets (sets out at (line_of t k p)) (at + length (line_of t k p)) (lines_by t m r)) (add-one k)
            ∙ sym (sets-append out at (line_of t k p) (lines_by t (suc k) r))
            ∙ ap (λ (q : List Piece). sets out at (lines_by t k q)) (sym y) ∙ l.rest;
      }

  pub lined_end : length ps ≤ k → (at ≡ size_by ps) × (out ≡ sets out₀ 0 (lines_by t 0 ps))
  lined_end h =
      let e : drop k ps ≡ [] = drop_of_length-le ps {i = k} h in
      let s : size_by (drop k ps) ≡ 0 = ap size_by e in
      (omega (arith, l.size), sym (ap (λ (q : List Piece). sets out at (lines_by t k q)) e) ∙ l.rest)
