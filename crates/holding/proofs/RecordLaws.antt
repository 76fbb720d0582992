-- The record's bytes, written place by place. `Putting`: the first i places stand, and what is left to write makes what all eight make.
-- Assumes nothing.
use mathlib.Core.Path.{◌≡◌, refl, sym, ap, ap₂, ◌∙◌}
use mathlib.Core.List.{List, [], ◌∷◌, ◌++◌}
use Prim.Native.Nat.{ℕ, suc, ◌+◌, ◌*◌, ◌<◌, ◌≤◌}
use native.Mathlib.Numerals.{add-one}
use native.Mathlib.Omega.{arith}
use lib.ListN.{length, get_or, drop, length-append, drop_of_length-le}
use lib.Seq.{sets, length-sets, drop-cons}
use Rattle.ground.proofs.Writing.{sets-append, sets-all}
use Rattle.places.specs.declared.Place.{Place}
use Rattle.places.specs.declared.Record.{Record}
use Rattle.places.specs.Places.{unused}
use Rattle.holding.specs.Layout.{place_length, record_length, place_bytes, all_bytes, record_bytes}

pub length-place : (p : Place) → length (place_bytes p) ≡ place_length
unfolding place_bytes
length-place p = refl

length-all : (ps : List Place) → length (all_bytes ps) ≡ length ps * place_length
length-all [] = refl
length-all (p ∷ ps) = omega (arith, length-append (place_bytes p) (all_bytes ps), length-place p, length-all ps)

-- put over as many bytes, those of eight places are all that is left; and so a record's
all_over : (ps : List Place) (bytes : List ℕ) → length ps ≡ 8 → length bytes ≡ record_length → sets bytes 0 (all_bytes ps) ≡ all_bytes ps
all_over ps bytes n e = sets-all bytes (all_bytes ps) (omega (arith, length-all ps))

pub put_over : (h : Record) (bytes : List ℕ) → length h.places ≡ 8 → length bytes ≡ record_length → sets bytes 0 (record_bytes h) ≡ record_bytes h
unfolding record_bytes
put_over h = all_over h.places

pub record Putting (ps : List Place) (out : List ℕ) (i : ℕ) : Type 0 where
  pub within : i ≤ 8
  pub long : length out ≡ record_length
  pub rest : sets out (i * place_length) (all_bytes (drop i ps)) ≡ all_bytes ps

module _ (ps : List Place) (n : length ps ≡ 8) (out : List ℕ) where
  pub put_begin : length out ≡ record_length → Putting ps out 0
  put_begin h = record { within = omega arith; long = h; rest = all_over ps out n h }

  module _ (i : ℕ) (run : Putting ps out i) where
    pub put_step : (b next : List ℕ) → i < 8 → b ≡ place_bytes (get_or ps i unused) → next ≡ sets out (i * place_length) b → Putting ps next (i + 1)
    put_step b next h e d =
        let c : drop i ps ≡ get_or ps i unused ∷ drop (suc i) ps = drop-cons ps i unused (omega arith) in
        let z : (i + 1) * place_length ≡ i * place_length + length b = omega (arith, ap length e, length-place (get_or ps i unused)) in
        let one : drop (i + 1) ps ≡ drop (suc i) ps = ap (λ (k : ℕ). drop k ps) (add-one i) in
        record {
          within = omega arith;
          long = ap length d ∙ length-sets out (i * place_length) b ∙ run.long;
          rest = ap₂ (λ (x : List ℕ) (y : ℕ). sets x y (all_bytes (drop (i + 1) ps))) d z
              ∙ ap (λ (x : List Place). sets (sets out (i * place_length) b) (i * place_length + length b) (all_bytes x)) one
              ∙ sym (sets-append out (i * place_length) b (all_bytes (drop (suc i) ps)))
              ∙ ap (λ (x : List ℕ). sets out (i * place_length) (x ++ all_bytes (drop (suc i) ps))) e
              ∙ ap (λ (x : List Place). sets out (i * place_length) (all_bytes x)) (sym c)
              ∙ run.rest;
        }

    pub put_end : 8 ≤ i → out ≡ all_bytes ps
    put_end h = ap (λ (x : List Place). sets out (i * place_length) (all_bytes x)) (sym (drop_of_length-le ps {i = i} (omega arith))) ∙ run.rest
