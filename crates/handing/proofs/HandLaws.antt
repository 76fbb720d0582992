-- What Hand out promises: document 01, section 5. Of slots that all hold the payloads of a file the file is handed out, with and without protection; a refusal
-- changes nothing; nothing is seen of the store but the contents of the place. Assumes nothing.
use mathlib.Core.Path.{◌≡◌, refl, sym, ap, ap₂, ◌∙◌}
use mathlib.Core.Bool.{false, cond, not}
use mathlib.Core.List.{List}
use Prim.Native.Nat.{ℕ, ◌*◌, ◌/◌, ◌%◌, ◌<◌, ◌≤◌}
use native.Mathlib.Nat.{mul_assoc, mul-pos, mul-div_cancel_left, mul-mod_right, zero-lt-suc}
use native.Mathlib.Omega.{arith}
use borrow.Author.Tests.{eq-eqb}
use lib.Dec.{eqb}
use lib.ListN.{length, get_or, take, drop}
use Rattle.ground.specs.Lists.{listed}
use Rattle.refusals.specs.declared.Refusal.{Refusal}
use Rattle.refusals.specs.declared.Refusal.TheVariants.{Unknown, Slot, Missing, Shape, Size}
use Rattle.layout.specs.Layout.{tables_of, coded_file}
use Rattle.layout.proofs.Coded.{length-coded}
use Rattle.places.specs.declared.Place.{Place}
use Rattle.places.specs.declared.Record.{Record}
use Rattle.places.specs.declared.Name.{Name}
use Rattle.places.specs.Places.{unused, good, place_named}
use Rattle.contents.specs.Contents.{Slot as Content, wrong, holding, contents, any_wrong, filled, lowest_empty, joined}
use Rattle.contents.proofs.Filled.{holding-right, holding-all, holding-filled, holding-lowest, joined-whole}
use Rattle.columns.specs.Handing.{Handing, refusing}
use Rattle.columns.proofs.Handed.{accepted, handed-whole, tables_coded}
use Rattle.columns.proofs.Leaving.{Leaves, leaves_or, leaves-refusing, leaves-handed, leaves_tables, leaves_columns}
use Rattle.handing.specs.Hand.{hand_rows, hand_joined, hand_filled, hand_contents, hand_found, hand_out_of}
use Rattle.handing.proofs.HandCases.{joined-rows, contents-full, plain-right}
use Rattle.std.specs.Prelude.{Option}
use Rattle.std.specs.Prelude.{Err}
use Rattle.std.specs.Prelude.{Some, None}

-- ---- slots that all hold a payload, f k in slot k

pub record Carried (c : List Content) (f : ℕ → List ℕ) : Type 0 where
  pub each : (k : ℕ) → k < length c → get_or c k wrong ≡ holding (f k)
  pub some : (k : ℕ) → k < length c → 0 < length (f k)

module _ (c : List Content) (f : ℕ → List ℕ) (h : Carried c f) where
  slots_are : c ≡ listed (λ k. holding (f k)) (length c) 0
  slots_are = holding-all c f h.each

  pub carried_right : any_wrong c ≡ false
  carried_right = ap any_wrong slots_are ∙ holding-right f (length c) 0

  pub carried_filled : filled c ≡ length c
  carried_filled = ap filled slots_are ∙ holding-filled f (length c) 0 (λ k a b. h.some k (omega arith))

  pub carried_full : lowest_empty c 0 ≡ None
  carried_full = ap (λ (x : List Content). lowest_empty x 0) slots_are ∙ holding-lowest f (length c) 0 (λ k a b. h.some k (omega arith))

  -- the payloads are the parts of p bytes of what is sent
  pub carried_joined : (sent : List ℕ) (p : ℕ) → ((k : ℕ) → k < length c → f k ≡ take p (drop (k * p) sent)) → length sent ≤ length c * p → joined c ≡ sent
  carried_joined sent p e l = ap joined slots_are ∙ joined-whole f sent p (length c) e l

  pub carried_hand : (p : Place) → p.order ≡ 0 → (n : ℕ) (out : List ℕ) → hand_contents p c n out ≡ hand_joined p (joined c) n out
  carried_hand p o n out = contents-full p c n out carried_right o carried_full

-- the coded tables of a file, handed out at its length
module _ (m : ℕ) (h : 0 < m) (file : List ℕ) where
  tables_came : length (coded_file 0 m file) / (255 * m) ≡ tables_of m (length file)
  tables_came =
      ap (λ (x : ℕ). x / (255 * m)) (length-coded 0 m file) ∙ mul-div_cancel_left (tables_of m (length file)) {n = 255 * m} (mul-pos (zero-lt-suc 254) h)

  rows_came : length (coded_file 0 m file) / 255 ≡ m * tables_of m (length file)
  rows_came =
      ap (λ (x : ℕ). x / 255) (length-coded 0 m file ∙ mul_assoc 255 m (tables_of m (length file)))
      ∙ mul-div_cancel_left (m * tables_of m (length file)) {n = 255} (zero-lt-suc 254)

  pub rows-coded : (out : List ℕ) → length file ≤ length out → hand_rows m (coded_file 0 m file) (length file) out ≡ accepted file out
  unfolding hand_rows
  rows-coded out l =
      let a : length (coded_file 0 m file) / 255 % m ≡ 0 = ap (λ (x : ℕ). x % m) rows_came ∙ mul-mod_right m (tables_of m (length file)) in
      rw (eq-eqb (length (coded_file 0 m file) / 255 % m) 0 a, eq-eqb (tables_of m (length file)) (length (coded_file 0 m file) / (255 * m)) (sym tables_came)) (tables_coded 0 m h file out l)

-- a place in row order whose slots hold a file is handed out as the file
module _ (p : Place) (o : p.order ≡ 0) (c : List Content) (f : ℕ → List ℕ) (h : Carried c f) (file out : List ℕ) (l : length file ≤ length out) where
  pub hand_plain : p.protection ≡ 0 → joined c ≡ file → hand_contents p c (length file) out ≡ accepted file out
  hand_plain z e =
      carried_hand c f h p o (length file) out ∙ ap (λ (x : List ℕ). hand_joined p x (length file) out) e
      ∙ plain-right p file (length file) out z refl ∙ handed-whole file out l

  pub hand_coded_lem : (p.protection ≡ 0 → ⊥) → 0 < p.rows → joined c ≡ coded_file 0 p.rows file → hand_contents p c (length file) out ≡ accepted file out
  hand_coded_lem z m e =
      carried_hand c f h p o (length file) out ∙ ap (λ (x : List ℕ). hand_joined p x (length file) out) e
      ∙ joined-rows p (coded_file 0 p.rows file) (length file) out z ∙ rows-coded p.rows m file out l

-- ---- a refusal leaves the output

module _ (out : List ℕ) where
  leaves-rows : (m : ℕ) (sent : List ℕ) (n : ℕ) → Leaves out (hand_rows m sent n out)
  unfolding hand_rows
  leaves-rows m sent n =
      leaves_or out (not (eqb (length sent / 255 % m) 0)) _ _ (leaves-refusing out Shape)
      (leaves_or out (not (eqb (tables_of m n) (length sent / (255 * m)))) _ _ (leaves-refusing out Size) (leaves_tables out 0 m sent n))

  leaves-joined : (p : Place) (sent : List ℕ) (n : ℕ) → Leaves out (hand_joined p sent n out)
  unfolding hand_joined
  leaves-joined p sent n =
      leaves_or out (eqb p.protection 0) _ _
      (leaves_or out (not (eqb n (length sent))) _ _ (leaves-refusing out Size) (leaves-handed out sent)) (leaves-rows p.rows sent n)

  leaves-filled : (p : Place) (c : List Content) (n : ℕ) (e : Option ℕ) → Leaves out (hand_filled p c n out e)
  leaves-filled p c n (Some i) = leaves-refusing out (Missing i)
  leaves-filled p c n None = leaves-joined p (joined c) n

  leaves-contents : (p : Place) (c : List Content) (n : ℕ) → Leaves out (hand_contents p c n out)
  unfolding hand_contents
  leaves-contents p c n =
      leaves_or out (any_wrong c) _ _ (leaves-refusing out Slot)
      (leaves_or out (eqb p.order 1) _ _ (leaves_columns out p c n) (leaves-filled p c n (lowest_empty c 0)))

  leaves-found : (h : Record) (s : List ℕ) (n : ℕ) (e : Option ℕ) → Leaves out (hand_found h s n out e)
  leaves-found h s n (Some i) = leaves-contents (get_or h.places i unused) (contents (get_or h.places i unused) s) n
  leaves-found h s n None = leaves-refusing out Unknown

  pub hand_refused : (h : Record) (s : List ℕ) (x : Name) (n : ℕ) (r : Refusal) → (hand_out_of h s x n out).answer ≡ Err r → (hand_out_of h s x n out).output ≡ out
  unfolding hand_out_of
  hand_refused h s x n =
      leaves_or out (good (length s) h.places) _ _ (leaves-found h s n (place_named h.places x)) (leaves-refusing out Refusal.Record)

-- ---- two stores of one length, with the same contents at the place

module _ (h : Record) (s t : List ℕ) (x : Name) (l : length s ≡ length t)
    (same : (i : ℕ) → place_named h.places x ≡ Some i → contents (get_or h.places i unused) s ≡ contents (get_or h.places i unused) t) where
  pub hand_same : (n : ℕ) (out : List ℕ) → hand_out_of h s x n out ≡ hand_out_of h t x n out
  unfolding hand_out_of
  hand_same n out =
      ap₂ (λ (x : ℕ) (y : Handing). cond (good x h.places) y (refusing Refusal.Record out)) l (by (place_named h.places x) same)
    where
      by : (e : Option ℕ) → ((i : ℕ) → e ≡ Some i → contents (get_or h.places i unused) s ≡ contents (get_or h.places i unused) t) → hand_found h s n out e ≡ hand_found h t n out e
      by (Some i) f = ap (λ (x : List Content). hand_contents (get_or h.places i unused) x n out) (f i refl)
      by None f = refl
