-- The payload of a packet that can be made: which bytes of the file, or which rows of the coded file, it is; and that they are there.
-- Assumes nothing.
use mathlib.Core.Path.{◌≡◌, sym, ap, ap₂, ◌∙◌}
use mathlib.Core.Logic.{⊎_elim}
use mathlib.Core.List.{List}
use Prim.Native.Nat.{ℕ, ◌+◌, ◌-◌, ◌*◌, ◌/◌, ◌<◌, ◌≤◌, min}
use native.Mathlib.Nat.{mul-le-mul}
use native.Mathlib.Omega.{arith}
use lib.ListN.{length, take, drop, length-drop}
use lib.Seq.{take_all}
use Rattle.ground.proofs.Listed.{ceil-below, le_or_lt}
use Rattle.settings.specs.declared.Settings.{Settings}
use Rattle.settings.proofs.Laws.{SettingsFacts, settings_facts}
use Rattle.layout.specs.Layout.{tables_of, coded_file}
use Rattle.laying.specs.Lay.{part_of}
use Rattle.laying.specs.InnerLay.{Part}
use Rattle.pack.specs.Pack.{coded_length, count_of, sent_of, payload_of}
use Rattle.pack.specs.Inner.{payload_length, Packable, coded_rows, RunFits}
use Rattle.pack.proofs.Laws.{protection_one, sent_plain, length-plain, sent_coded, length_tables, length_sent, length_payload, size-rows, begin_rows, coded_length_lem}

-- as much of a list as there is
take_min : (n : ℕ) (l : List ℕ) → take (min n (length l)) l ≡ take n l
take_min n l =
    ⊎_elim
    (λ (h : length l ≤ n). let e : min n (length l) ≡ length l = omega arith in ap (λ (x : ℕ). take x l) e ∙ take_all (length l) l (omega arith) ∙ sym (take_all n l h))
    (λ (h : n < length l). let e : min n (length l) ≡ n = omega arith in ap (λ (x : ℕ). take x l) e)
    (le_or_lt (length l) n)

module _ (g : Settings) (file : List ℕ) (n : ℕ) (p : Packable g (length file) n) where
  facts : SettingsFacts g
  facts = settings_facts g p.fits

  -- where the payload begins, as a number that a machine can hold
  pub begin_below : n * g.size ≤ 1048575 * 4077
  begin_below =
      let a : n < count_of g (length file) = p.below in
      let b : count_of g (length file) ≤ 1048575 = p.few in
      let l : n ≤ 1048575 = omega arith in
      mul-le-mul l facts.size.most

  begins : n * g.size < coded_length g (length file)
  begins = ceil-below (coded_length g (length file)) g.size n facts.size.least p.below

  pub payload_is : payload_length g (length file) n ≡ length (payload_of g file n)
  payload_is = sym (length_payload g file n)

  pub payload_limit : payload_length g (length file) n ≤ 4077
  payload_limit = let a : g.size ≤ 4077 = facts.size.most in omega arith

  payload_cut : take (payload_length g (length file) n) (drop (n * g.size) (sent_of g file)) ≡ payload_of g file n
  unfolding payload_of
  payload_cut =
      let e : payload_length g (length file) n ≡ min g.size (length (drop (n * g.size) (sent_of g file))) = sym (ap (min g.size) (length-drop (n * g.size) (sent_of g file) ∙ ap (λ (x : ℕ). x - n * g.size) (length_sent g file))) in
      ap (λ (x : ℕ). take x (drop (n * g.size) (sent_of g file))) e ∙ take_min g.size (drop (n * g.size) (sent_of g file))

  -- without protection: bytes of the file
  module _ (h : g.protection ≡ 0) where
    pub plain_fits : n * g.size + payload_length g (length file) n ≤ length file
    plain_fits =
        let e : coded_length g (length file) ≡ length file = length-plain g (length file) h in
        let b : n * g.size < coded_length g (length file) = begins in
        omega arith

    pub plain_payload : take (payload_length g (length file) n) (drop (n * g.size) file) ≡ payload_of g file n
    plain_payload = ap (λ (x : List ℕ). take (payload_length g (length file) n) (drop (n * g.size) x)) (sym (sent_plain g file h)) ∙ payload_cut

  -- with protection, in column order: a part of the coded file
  module _ (h : g.protection ≡ 0 → ⊥) (o : g.order ≡ 1) where
    pub columns_fit : (room : ℕ) → payload_length g (length file) n ≤ room → Part (length file) g.rows (n * g.size) (payload_length g (length file) n) room 0
    columns_fit room l =
        let one : g.protection ≡ 1 = protection_one g p.fits h in
        let m : g.rows < 256 = facts.rows-most one in
        let b : n * g.size < coded_length g (length file) = begins in
        let e : coded_length g (length file) ≡ 255 * g.rows * tables_of g.rows (length file) = length_tables g (length file) h in
        record {
          rows = facts.rows one;
          rows-most = omega arith;
          len-most = p.most;
          few = payload_limit;
          there = omega arith;
          enough = omega arith;
        }

    pub columns_payload : part_of g.rows file (n * g.size) (payload_length g (length file) n) ≡ payload_of g file n
    unfolding part_of
    columns_payload =
        ap (λ (x : List ℕ). take (payload_length g (length file) n) (drop (n * g.size) x)) (sym (sent_coded g file h ∙ ap (λ (x : ℕ). coded_file x g.rows file) o))
        ∙ payload_cut

  -- and in row order: rows of it
  module _ (h : g.protection ≡ 0 → ⊥) (o : g.order ≡ 0) where
    one : g.protection ≡ 1
    one = protection_one g p.fits h

    size_is : g.size ≡ 255 * (g.size / 255)
    size_is = size-rows g file p.fits one o

    begin_is : n * g.size ≡ 255 * (n * (g.size / 255))
    begin_is = begin_rows g file p.fits one o n

    coded_is : coded_length g (length file) ≡ 255 * (g.rows * tables_of g.rows (length file))
    coded_is = coded_length_lem g file p.fits one

    pub coded-fits : (room : ℕ) → payload_length g (length file) n ≤ room → RunFits file g.rows (n * g.size / 255) (payload_length g (length file) n / 255) room 0
    coded-fits room l =
        let m : g.rows < 256 = facts.rows-most one in
        let b : n * g.size < coded_length g (length file) = begins in
        let s : g.size ≤ 4077 = facts.size.most in
        record {
          rows = facts.rows one;
          rows-most = omega arith;
          len = p.most;
          few = omega (arith, size_is);
          there = omega (arith, size_is, begin_is, coded_is);
          enough = omega (arith, size_is, begin_is, coded_is);
        }

    pub coded_payload : coded_rows file g.rows (n * g.size / 255) (payload_length g (length file) n / 255) ≡ payload_of g file n
    coded_payload =
        let a : payload_length g (length file) n / 255 * 255 ≡ payload_length g (length file) n = omega (arith, size_is, begin_is, coded_is) in
        let b : n * g.size / 255 * 255 ≡ n * g.size = omega (arith, begin_is) in
        ap₂ (λ (x y : ℕ). take x (drop y (coded_file 0 g.rows file))) a b
        ∙ ap (λ (x : List ℕ). take (payload_length g (length file) n) (drop (n * g.size) x)) (sym (sent_coded g file h ∙ ap (λ (x : ℕ). coded_file x g.rows file) o)) ∙ payload_cut
