-- The first entries of sixteen, and zeros behind them: what the definition says of a list of so many (`padded`), and such a list as it is copied over zeros.
-- Assumes nothing.
use mathlib.Core.Path.{◌≡◌, sym, ap, ◌∙◌}
use mathlib.Core.List.{List, ◌++◌}
use Prim.Native.Nat.{ℕ, ◌+◌, ◌-◌, ◌≤◌}
use native.Mathlib.Omega.{arith}
use lib.ListN.{length, get_or, take, drop, length-append, length-drop, get_or-append}
use lib.Seq.{length-take-le, get_or-take, get_or-append-add, get_or-drop}
use Rattle.ground.proofs.Listed.{zeros_at}
use Rattle.code.proofs.Lists.{zeros, length_zeros}
use Rattle.errata.specs.Errata.{padded}
use Rattle.errata.specs.InnerRestoring.{Front}
use Rattle.errata.proofs.Listing.{all-padded}

-- the first n of sixteen copied over as many zeros
pub front_copied : (n : ℕ) (l part : List ℕ) → n ≤ 16 → length l ≡ 16 → part ≡ take n l → Front n l (part ++ drop n (zeros 16))
front_copied n l part few long e =
    let size : length part ≡ n = ap length e ∙ length-take-le n l (omega arith) in
    record {
      sized = length-append part (drop n (zeros 16)) ∙ omega (arith, length-drop n (zeros 16), length_zeros 16);
      kept = λ k h. get_or-append part (drop n (zeros 16)) 0 k (omega arith) ∙ ap (λ (x : List ℕ). get_or x k 0) e ∙ get_or-take n l k 0 h;
      behind = λ k h.
          let y : k ≡ length part + (k - n) = omega arith in
          ap (λ (x : ℕ). get_or (part ++ drop n (zeros 16)) x 0) y ∙ get_or-append-add part (drop n (zeros 16)) (k - n) 0 ∙ get_or-drop n (zeros 16) (k - n) 0 ∙ zeros_at 16 (n + (k - n));
    }

-- as the definition has them
pub front-padded : {n : ℕ} {l r : List ℕ} → n ≤ length l → Front n l r → r ≡ padded (take n l)
front-padded {n} {l} {r} few front =
    all-padded n r (take n l) front.sized (length-take-le n l few) (λ k h. front.kept k h ∙ sym (get_or-take n l k 0 h)) front.behind
