-- What is lost of a row as it came: the places tell every lost byte, so the values at these places, put into their columns, make all lost bytes of that row what they are to be. And how
-- the pass over the rows goes on. Assumes nothing.
use mathlib.Core.Path.{◌≡◌, refl, sym, ap, ap₂, subst, ◌∙◌}
use mathlib.Core.Logic.{inl, inr, ⊎_elim}
use mathlib.Core.Bool.{Bool, true, false}
use mathlib.Core.List.{List}
use Prim.Native.Nat.{ℕ, ◌+◌, ◌-◌, ◌*◌, ◌/◌, ◌%◌, ◌<◌, ◌≤◌}
use native.Mathlib.Nat.{not-suc-le-zero}
use native.Mathlib.Numerals.{add-one}
use native.Mathlib.Omega.{arith}
use borrow.Author.Tests.{le-leb, ne_eqb, eqb-true}
use lib.ListN.{length, get_or, get_or-eq_default}
use Rattle.ground.proofs.Numbers.{below_suc}
use Rattle.code.specs.Search.Repaired.{found}
use Rattle.code.specs.Restore.{lost_of}
use Rattle.layout.specs.Layout.{tables_of, spot_of}
use Rattle.layout.specs.Spread.{row_start}
use Rattle.errata.specs.Restoring.{falling_to, among}
use Rattle.errata.proofs.Places.{falling-below, among_one, among_none}
use Rattle.places.specs.declared.Place.{Place}
use Rattle.places.specs.Places.{end_of}
use Rattle.contents.specs.Contents.{contents}
use Rattle.losses.specs.declared.Came.{Came}
use Rattle.losses.specs.Losses.{payload_at, lost_at, sent_at, row_came, lost_in, lost_places, came_by, tabled, came_of}
use Rattle.columns.specs.Columns.{row_restored}
use Rattle.columns.specs.InnerWrite.{Writable}
use Rattle.columns.specs.InnerBytes.{row_number, aim_of, LostRow, LostBelow, Nearer, Lacking, Restores, put_columns}
use Rattle.columns.proofs.Nearing.{nearer_still, nearer_then, nearer_less}
use Rattle.columns.proofs.Standings.{column-below, sent_row, stands_at, number_at, column-at}
use Rattle.columns.proofs.Coming.{row-found, row_fits, aim_is, row_at_lem}
use Rattle.columns.proofs.Gone.{places_fall, among-lost}
use Rattle.columns.proofs.Putting.{Placed, nearer_puts}

-- ---- row q as it came

-- one of the places
place-among : (at : List ℕ) (n c k : ℕ) → k < n → get_or at k 0 ≡ 254 - c → among at n c ≡ true
place-among at n c k h e = by (among at n c) refl
  where
    by : (b : Bool) → among at n c ≡ b → b ≡ true
    by true q = refl
    by false q = absurd (among_none at n c q k h e)

nothing-at : (l : List ℕ) (k : ℕ) → length l ≡ 0 → get_or l k 0 ≡ 0
nothing-at l k e = get_or-eq_default l 0 (omega arith)

came_told : (p : Place) (s : List ℕ) (q : ℕ) → end_of p ≤ length s → 1 ≤ p.rows → 1 ≤ p.slot
    → came_of p s q ≡ came_by (lost_in p.rows p.slot (contents p s) q) (row_came p.rows p.slot (contents p s) q)
unfolding came_of tabled
came_told p s q e r l = rw (le-leb (end_of p) (length s) e, ne_eqb p.rows 0 (λ z. omega arith), ne_eqb p.slot 0 (λ z. omega arith))

module _ (p : Place) (s : List ℕ) (n : ℕ) (w : Writable p s n) (q : ℕ) (b : q < p.rows * tables_of p.rows n) (came : Came) (is : came ≡ came_of p s q) where
  abbrev lost : ℕ → Bool
  lost = lost_in p.rows p.slot (contents p s) q

  told : came ≡ came_by lost (row_came p.rows p.slot (contents p s) q)
  told = is ∙ came_told p s q w.ends w.rows w.slot

  pub came_row : came.row ≡ row_came p.rows p.slot (contents p s) q
  unfolding came_by
  came_row = ap (λ (x : Came). x.row) told

  pub came_lost : came.lost ≡ lost_of lost 255
  unfolding came_by
  came_lost = ap (λ (x : Came). x.lost) told

  pub came_at_lem : came.at ≡ lost_places lost
  unfolding came_by
  came_at_lem = ap (λ (x : Came). x.at) told

  pub came_few : came.lost ≤ 16
  came_few = omega (arith, came_lost, w.full q b)

  falling : falling_to came.at came.lost ≡ true
  falling = subst (λ (x : ℕ). falling_to came.at x ≡ true) (sym came_lost)
      (subst (λ (x : List ℕ). falling_to x (lost_of lost 255) ≡ true) (sym came_at_lem) (places_fall lost (w.full q b)))

  among_is : (c : ℕ) → c < 255 → among came.at came.lost c ≡ lost c
  among_is c h =
      ap (λ (x : ℕ). among came.at x c) came_lost ∙ ap (λ (x : List ℕ). among x (lost_of lost 255) c) came_at_lem
      ∙ among-lost lost (w.full q b) c h

  pub came_below : (k : ℕ) → k < came.lost → get_or came.at k 0 < 255
  came_below k h = falling-below came.at came.lost falling k h

  -- a lost byte of the file in this row is one of them
  told_one : (i : ℕ) → LostRow p s q i → (k : ℕ) × (k < came.lost) × (get_or came.at k 0 ≡ 254 - (spot_of p.rows i).column)
  told_one i x =
      let k : ℕ = (spot_of p.rows i).column in
      let t : lost k ≡ true =
      ap (λ (y : ℕ). lost_at p.slot (contents p s) (sent_at p.rows y k)) (sym x.0) ∙ ap (lost_at p.slot (contents p s)) (sent_row p.rows w.rows i) ∙ x.1 in
      among_one came.at came.lost k (among_is k (omega (arith, column-below p.rows w.rows i)) ∙ t)

  -- what stands at a lost column
  lost-empty : (k : ℕ) → k < 255 → lost k ≡ true → get_or (row_came p.rows p.slot (contents p s) q) k 0 ≡ 0
  lost-empty k h t = row_at_lem p s n w q k h ∙ nothing-at (payload_at (contents p s) (sent_at p.rows q k / p.slot)) (sent_at p.rows q k % p.slot) (eqb-true _ 0 t)

  module _ (r : List ℕ) (e : row_restored p.rows p.slot (contents p s) q ≡ found r) where
    lacking : Lacking came.row came.at came.lost r
    lacking =
        let fits = row_fits p s n w q r e in
        record {
          falling = falling;
          fits = record {
            coded = fits.coded;
            known = λ c h t. fits.known c h (sym (among_is c h) ∙ t) ∙ ap (λ (x : List ℕ). get_or x c 0) (sym came_row);
          };
          empty = λ k h.
              let c : ℕ = 254 - get_or came.at k 0 in
              let l : c < 255 = omega arith in
              ap (λ (x : List ℕ). get_or x c 0) came_row ∙ lost-empty c l (sym (among_is c l) ∙ place-among came.at came.lost c k h (omega (arith, came_below k h)));
        }

    module _ (v before after : List ℕ) (restores : Restores came.row came.at came.lost v) (base : ℕ) (start : base ≡ row_start p.rows q) (room : n ≤ length before)
        (put : after ≡ put_columns p.rows n base came.at v came.lost before) where
      right : (j : ℕ) → j < came.lost → 254 - get_or came.at j 0 < 239 → base + (254 - get_or came.at j 0) * p.rows < n
          → get_or v j 0 ≡ aim_of p s (base + (254 - get_or came.at j 0) * p.rows)
      right j h c b =
          let i : ℕ = base + (254 - get_or came.at j 0) * p.rows in
          let z : i ≡ row_start p.rows q + (254 - get_or came.at j 0) * p.rows = ap (λ (x : ℕ). x + (254 - get_or came.at j 0) * p.rows) start in
          restores r lacking j h
          ∙ sym (aim_is p s n w q r e i (number_at p.rows w.rows q (254 - get_or came.at j 0) i c z)
          ∙ ap (λ (x : ℕ). get_or r x 0) (column-at p.rows w.rows q (254 - get_or came.at j 0) i c z))

      told-all : (i : ℕ) → LostRow p s q i → Placed p.rows n base came.at v came.lost i
      told-all i x =
          let f = told_one i x in
          let h : (spot_of p.rows i).column < 239 = column-below p.rows w.rows i in
          let d : 254 - get_or came.at f.0 0 ≡ (spot_of p.rows i).column = omega (arith, f.2) in
          let g : i ≡ base + (254 - get_or came.at f.0 0) * p.rows =
          stands_at p.rows w.rows q i x.0 ∙ ap₂ (λ (y z : ℕ). y + z * p.rows) (sym start) (sym d) in
          (f.0, f.1, omega (arith, d), g)

      pub row_put : Nearer (aim_of p s) n (LostRow p s q) before after
      row_put =
          subst (Nearer (aim_of p s) n (LostRow p s q) before) (sym put)
          (nearer_less (aim_of p s) n (Placed p.rows n base came.at v came.lost) (LostRow p s q) before _
          (nearer_puts p.rows n base came.at v (aim_of p s) came.lost before room right) (λ i h x. told-all i x))

  -- whichever row it is
  pub row_done : (v before after : List ℕ) → Restores came.row came.at came.lost v → (base : ℕ) → base ≡ row_start p.rows q → n ≤ length before
      → after ≡ put_columns p.rows n base came.at v came.lost before → Nearer (aim_of p s) n (LostRow p s q) before after
  row_done v before after restores base start room put =
      let f = row-found p s n w q b in row_put f.0 f.1 v before after restores base start room put

  -- nothing is lost
  pub row-whole : came.lost ≡ 0 → (before : List ℕ) → Nearer (aim_of p s) n (LostRow p s q) before before
  row-whole z before =
      nearer_still (aim_of p s) n (LostRow p s q) before
      (λ i h x. omega (arith, z, (told_one i x).1))

-- ---- the pass: the lost bytes of the rows below q are put in

module _ (p : Place) (s : List ℕ) (n : ℕ) where
  pub lost-first : (before : List ℕ) → Nearer (aim_of p s) n (LostBelow p s 0) before before
  lost-first before = nearer_still (aim_of p s) n (LostBelow p s 0) before (λ i h x. not-suc-le-zero x.0)

  pub lost-more : (q : ℕ) (before out after : List ℕ) → Nearer (aim_of p s) n (LostBelow p s q) before out → Nearer (aim_of p s) n (LostRow p s q) out after
      → Nearer (aim_of p s) n (LostBelow p s (q + 1)) before after
  lost-more q before out after u v =
      nearer_then (aim_of p s) n (LostBelow p s q) (LostRow p s q) (LostBelow p s (q + 1)) before out after u v
      (λ i h x. ⊎_elim (λ (e : row_number p.rows i ≡ q). inr (e, x.1)) (λ (b : row_number p.rows i < q). inl (b, x.1))
      (below_suc (subst (λ (y : ℕ). row_number p.rows i < y) (add-one q) x.0)))
