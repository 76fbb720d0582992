-- Writes that only bring bytes of the file nearer to what they are to be (`Nearer`, specs/InnerBytes.antt): one after the other, one byte, bytes that follow one another; and what is written
-- once all are done. Assumes nothing.
use mathlib.Core.Path.{◌≡◌, refl, sym, ap, ◌∙◌}
use mathlib.Core.Logic.{◌⊎◌, ⊎_elim}
use mathlib.Core.List.{List, ◌++◌}
use Prim.Native.Nat.{ℕ, ◌+◌, ◌-◌, ◌<◌, ◌≤◌}
use native.Mathlib.Omega.{arith}
use lib.ListN.{length, get_or, set, drop, length-set, length-append, length-drop, get_or-append}
use lib.Seq.{sets, get_or-set_same, get_or-set_other, get_or-append-add, get_or-drop, ext_get_or, length-sets}
use Rattle.std.proofs.lemmas.Bool.{cases_eq}
use Rattle.ground.specs.Lists.{listed}
use Rattle.ground.proofs.Listed.{length-listed, get_or-listed, get_or-listed_0, le_or_lt}
use Rattle.contents.proofs.Bytes.{sets_below, sets-above, sets_hit}
use Rattle.columns.specs.InnerBytes.{Nearer}

module _ (aim : ℕ → ℕ) (n : ℕ) where
  -- nothing is written
  pub nearer_still : (P : ℕ → Type 0) (l : List ℕ) → ((i : ℕ) → i < n → P i → ⊥) → Nearer aim n P l l
  nearer_still P l none = record { long = refl; done = λ i h x. absurd (none i h x); kept = λ i h e. e; beyond = λ i h. refl }

  -- one after the other
  pub nearer_then : (P Q R : ℕ → Type 0) (a b c : List ℕ) → Nearer aim n P a b → Nearer aim n Q b c → ((i : ℕ) → i < n → R i → P i ⊎ Q i) → Nearer aim n R a c
  nearer_then P Q R a b c u v each = record {
    long = v.long ∙ u.long;
    done = λ i h x. ⊎_elim (λ (y : P i). v.kept i h (u.done i h y)) (λ (y : Q i). v.done i h y) (each i h x);
    kept = λ i h e. v.kept i h (u.kept i h e);
    beyond = λ i h. v.beyond i h ∙ u.beyond i h;
  }

  -- said of less
  pub nearer_less : (P Q : ℕ → Type 0) (a b : List ℕ) → Nearer aim n P a b → ((i : ℕ) → i < n → Q i → P i) → Nearer aim n Q a b
  nearer_less P Q a b u each = record { long = u.long; done = λ i h x. u.done i h (each i h x); kept = u.kept; beyond = u.beyond }

  -- one byte
  pub nearer_set : (l : List ℕ) (p v : ℕ) → p < n → n ≤ length l → v ≡ aim p → Nearer aim n (λ i. i ≡ p) l (set l p v)
  nearer_set l p v h f e = record {
    long = length-set l p v;
    done = λ i b d. here i d;
    kept = λ i b d. ⊎_elim (λ (x : i ≡ p). here i x) (λ (x : i ≡ p → ⊥). get_or-set_other l p i v 0 x ∙ d) (cases_eq i p);
    beyond = λ i b. get_or-set_other l p i v 0 (λ x. omega arith);
  }
    where
      here : (i : ℕ) → i ≡ p → get_or (set l p v) i 0 ≡ aim i
      here i d = ap (λ (x : ℕ). get_or (set l p v) x 0) d ∙ get_or-set_same l p v 0 (omega arith) ∙ e ∙ ap aim (sym d)

  -- bytes that follow one another
  module _ (l : List ℕ) (f : ℕ) (vs : List ℕ) (ends : f + length vs ≤ n) (room : n ≤ length l) (each : (k : ℕ) → k < length vs → get_or vs k 0 ≡ aim (f + k)) where
    run_at : (i : ℕ) → f ≤ i → i < f + length vs → get_or (sets l f vs) i 0 ≡ aim i
    run_at i a b =
        let k : ℕ = i - f in
        let d : f + k ≡ i = omega arith in
        ap (λ (x : ℕ). get_or (sets l f vs) x 0) (sym d) ∙ sym (get_or-listed (λ x. get_or (sets l f vs) x 0) (length vs) f k 0 (omega arith))
        ∙ ap (λ (x : List ℕ). get_or x k 0) (sets_hit l f vs (omega arith)) ∙ each k (omega arith) ∙ ap aim d

    pub nearer_sets : Nearer aim n (λ i. (f ≤ i) × (i < f + length vs)) l (sets l f vs)
    nearer_sets = record {
      long = length-sets l f vs;
      done = λ i h x. run_at i x.0 x.1;
      kept = λ i h e. ⊎_elim
          (λ (a : f ≤ i). ⊎_elim (λ (b : f + length vs ≤ i). sets-above l f vs i b ∙ e) (λ (b : i < f + length vs). run_at i a b) (le_or_lt (f + length vs) i))
          (λ (a : i < f). sets_below l f vs i a ∙ e) (le_or_lt f i);
      beyond = λ i h. sets-above l f vs i (omega arith);
    }

  -- all of them
  pub nearer_all : (P : ℕ → Type 0) (before after : List ℕ) → Nearer aim n P before after → ((i : ℕ) → i < n → P i) → n ≤ length before
      → after ≡ listed aim n 0 ++ drop n before
  nearer_all P before after u each room =
      let w : length (listed aim n 0) ≡ n = length-listed aim n 0 in
      ext_get_or 0 after (listed aim n 0 ++ drop n before) (u.long ∙ sym (length-append (listed aim n 0) (drop n before) ∙ omega (arith, length-drop n before)))
      (λ i k. ⊎_elim
      (λ (b : n ≤ i).
      let z : n + (i - n) ≡ i = omega arith in
      let y : length (listed aim n 0) + (i - n) ≡ i = omega arith in
      u.beyond i b ∙ ap (λ (x : ℕ). get_or before x 0) (sym z) ∙ sym (get_or-drop n before (i - n) 0)
      ∙ sym (get_or-append-add (listed aim n 0) (drop n before) (i - n) 0) ∙ ap (λ (x : ℕ). get_or (listed aim n 0 ++ drop n before) x 0) y)
      (λ (b : i < n).
      u.done i b (each i b) ∙ sym (get_or-listed_0 aim n i 0 b) ∙ sym (get_or-append (listed aim n 0) (drop n before) 0 i (omega arith)))
      (le_or_lt n i))
