-- Bytes put into columns of a row: one, and all that are lost (`put_columns`, specs/InnerBytes.antt). Where each is what it is to be, they bring the bytes of their columns to that.
-- Assumes nothing.
use mathlib.Core.Path.{◌≡◌, refl, sym, ap, subst, ◌∙◌}
use mathlib.Core.Logic.{inl, inr, ⊎_elim}
use mathlib.Core.Bool.{Bool, true, false, cond}
use mathlib.Core.List.{List}
use Prim.Native.Nat.{ℕ, zero, suc, ◌+◌, ◌-◌, ◌*◌, ◌<◌, ◌≤◌}
use native.Mathlib.Nat.{le_refl, not-suc-le-zero}
use native.Mathlib.Numerals.{add-one}
use native.Mathlib.Omega.{arith}
use borrow.Author.Tests.{lt-ltb, le-ltb}
use lib.Dec.{ltb}
use lib.ListN.{length, get_or, set}
use Rattle.ground.proofs.Listed.{le_or_lt}
use Rattle.ground.proofs.Numbers.{below_suc}
use Rattle.layout.specs.Spread.{set_below}
use Rattle.layout.proofs.Scatter.{set-yes, set-no, length-below}
use Rattle.columns.specs.InnerBytes.{Nearer, put_column, put_columns}
use Rattle.columns.proofs.Nearing.{nearer_still, nearer_then, nearer_less, nearer_set}

-- ---- one byte

module _ (m n base : ℕ) (out : List ℕ) (c v : ℕ) where
  pub put_check : 239 ≤ c → out ≡ put_column m n base out c v
  unfolding put_column
  put_check h = rw (le-ltb c 239 h)

  pub put-beyond : c < 239 → n ≤ base + c * m → out ≡ put_column m n base out c v
  unfolding put_column
  put-beyond h b = rw (lt-ltb c 239 h) (set-no n out (base + c * m) v b)

  pub put-here : c < 239 → base + c * m < n → set out (base + c * m) v ≡ put_column m n base out c v
  unfolding put_column
  put-here h b = rw (lt-ltb c 239 h) (set-yes n out (base + c * m) v b)

  pub length-put : length (put_column m n base out c v) ≡ length out
  unfolding put_column
  length-put = by (ltb c 239)
    where
      by : (b : Bool) → length (cond b (set_below n out (base + c * m) v) out) ≡ length out
      by true = length-below n out (base + c * m) v
      by false = refl

  -- the byte of that column
  abbrev Its : ℕ → Type 0
  Its i = (c < 239) × (i ≡ base + c * m)

  module _ (aim : ℕ → ℕ) (room : n ≤ length out) (right : c < 239 → base + c * m < n → v ≡ aim (base + c * m)) where
    put-nothing : put_column m n base out c v ≡ out → ((i : ℕ) → i < n → Its i → ⊥) → Nearer aim n Its out (put_column m n base out c v)
    put-nothing e none = subst (Nearer aim n Its out) (sym e) (nearer_still aim n Its out none)

    put_information : c < 239 → Nearer aim n Its out (put_column m n base out c v)
    put_information h =
        ⊎_elim (λ (b : n ≤ base + c * m). put-nothing (sym (put-beyond h b)) (λ i l x. omega (arith, x.1)))
        (λ (b : base + c * m < n). subst (Nearer aim n Its out) (put-here h b)
        (nearer_less aim n (λ i. i ≡ base + c * m) Its out (set out (base + c * m) v) (nearer_set aim n out (base + c * m) v b room (right h b)) (λ i l x. x.1)))
        (le_or_lt n (base + c * m))

    -- it brings this byte to what it is to be
    pub nearer_put : Nearer aim n Its out (put_column m n base out c v)
    nearer_put = ⊎_elim (λ (h : 239 ≤ c). put-nothing (sym (put_check h)) (λ i b x. omega (arith, x.0))) put_information (le_or_lt 239 c)

-- ---- all bytes of a row that are lost

module _ (m n base : ℕ) (at v : List ℕ) where
  pub length-puts : (k : ℕ) (out : List ℕ) → length (put_columns m n base at v k out) ≡ length out
  unfolding put_columns
  length-puts zero out = refl
  length-puts (suc k) out = length-put m n base (put_columns m n base at v k out) (254 - get_or at k 0) (get_or v k 0) ∙ length-puts k out

  -- a byte of one of the first k places
  abbrev pub Placed : ℕ → ℕ → Type 0
  Placed k i = (j : ℕ) × (j < k) × (254 - get_or at j 0 < 239) × (i ≡ base + (254 - get_or at j 0) * m)

  pub nearer_puts : (aim : ℕ → ℕ) (k : ℕ) (out : List ℕ) → n ≤ length out
      → ((j : ℕ) → j < k → 254 - get_or at j 0 < 239 → base + (254 - get_or at j 0) * m < n → get_or v j 0 ≡ aim (base + (254 - get_or at j 0) * m))
      → Nearer aim n (Placed k) out (put_columns m n base at v k out)
  unfolding put_columns
  nearer_puts aim zero out room right = nearer_still aim n (Placed 0) out (λ i h x. not-suc-le-zero x.1)
  nearer_puts aim (suc k) out room right =
      let mid : List ℕ = put_columns m n base at v k out in
      let c : ℕ = 254 - get_or at k 0 in
      nearer_then aim n (Placed k) (λ i. (c < 239) × (i ≡ base + c * m)) (Placed (suc k)) out mid (put_column m n base mid c (get_or v k 0))
      (nearer_puts aim k out room (λ j h. right j (omega arith)))
      (nearer_put m n base mid c (get_or v k 0) aim (omega (arith, length-puts k out)) (right k (le_refl (suc k))))
      (λ i h x. ⊎_elim
      (λ (e : x.0 ≡ k). inr (subst (λ (y : ℕ). (254 - get_or at y 0 < 239) × (i ≡ base + (254 - get_or at y 0) * m)) e (x.2, x.3)))
      (λ (b : x.0 < k). inl (x.0, b, x.2, x.3)) (below_suc x.1))

-- the loop over them: k of lost values are put in
pub record Puts (m n base : ℕ) (at v : List ℕ) (lost : ℕ) (before out : List ℕ) (k : ℕ) : Type 0 where
  pub within : k ≤ lost
  pub long : length out ≡ length before
  pub is : out ≡ put_columns m n base at v k before

module _ (m n base : ℕ) (at v : List ℕ) (lost : ℕ) (before : List ℕ) where
  pub puts_first : Puts m n base at v lost before before 0
  unfolding put_columns
  puts_first = record { within = omega arith; long = refl; is = refl }

  module _ (out : List ℕ) (k : ℕ) (u : Puts m n base at v lost before out k) where
    pub puts-more : k < lost → (after : List ℕ) → after ≡ put_column m n base out (254 - get_or at k 0) (get_or v k 0) → Puts m n base at v lost before after (k + 1)
    unfolding put_columns
    puts-more h after d =
        let e : after ≡ put_columns m n base at v (k + 1) before =
        d ∙ ap (λ (x : List ℕ). put_column m n base x (254 - get_or at k 0) (get_or v k 0)) u.is ∙ ap (λ (x : ℕ). put_columns m n base at v x before) (sym (add-one k)) in
        record { within = omega arith; long = ap length e ∙ length-puts m n base at v (k + 1) before; is = e }

    pub puts_end : lost ≤ k → out ≡ put_columns m n base at v lost before
    puts_end h = let e : k ≡ lost = omega (arith, u.within) in u.is ∙ ap (λ (x : ℕ). put_columns m n base at v x before) e
