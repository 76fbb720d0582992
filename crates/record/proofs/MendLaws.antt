-- What repair makes of a payload, and when the CRC agrees: document 01, section 5, Offer; what demand 3 asks of an altered copy.
-- Assumes nothing.
use mathlib.Core.Path.{◌≡◌, refl, sym, ap, ◌∙◌}
use mathlib.Core.Logic.{◌⊎◌, ⊎_elim}
use mathlib.Core.Bool.{Bool, true, false}
use mathlib.Core.List.{List}
use Prim.Native.Nat.{ℕ, ◌+◌, ◌-◌, ◌*◌, ◌/◌, ◌%◌, ◌<◌, ◌≤◌}
use native.Mathlib.Omega.{arith}
use borrow.Author.Tests.{eqb-true, eqb-false, ltb-true}
use lib.Dec.{eqb, ltb}
use lib.ListN.{length, get_or, take, drop}
use lib.Seq.{get_or-drop, get_or-take}
use Rattle.code.specs.Code.{Bytes, Coded, distance}
use Rattle.code.proofs.Mend.{row_of, bytes_split, mend_whole, mend_length}
use Rattle.packet.specs.Packet.{read_by}
use Rattle.packet.proofs.Laws.{fields-first}
use Rattle.code.specs.Mend.{whole, altered_in}
use Rattle.record.specs.Mend.{payload_in, mended_in}
use Rattle.sealing.specs.Sealing.{crc_in, agrees}
use Rattle.record.proofs.OfferCases.{payload_length_lem, mended-plain, mended-rows}

pub mended-length : (t : ℕ) (q b : List ℕ) (n : ℕ) → 18 ≤ length q → (t ≡ 0) ⊎ ((length q - 18) % 255 ≡ 0) → mended_in t q ≡ whole b n → length b ≡ length q - 18
mended-length t q b n h m e = by (eqb t 0) refl
  where
    by : (x : Bool) → eqb t 0 ≡ x → length b ≡ length q - 18
    by true z =
        let w : whole (payload_in q) 0 ≡ whole b n = sym (mended-plain t q (eqb-true t 0 z)) ∙ e in
        let v : payload_in q ≡ b = cc in
        ap length (sym v) ∙ payload_length_lem q h
    by false z =
        let r : (length q - 18) % 255 ≡ 0 = ⊎_elim (λ (o : t ≡ 0). absurd (eqb-false t 0 z o)) (λ o. o) m in
        let w = mend_length _ 0 (payload_in q) b n (sym (mended-rows t q (eqb-false t 0 z)) ∙ e) in
        omega (arith, payload_length_lem q h)

-- ---- an altered copy q of a packet p: header and CRC intact, at most eight bytes altered in each row

pub record Altered (q p : List ℕ) : Type 0 where
  pub bytes : Bytes q
  pub sized : length q ≡ length p
  pub header : take 14 q ≡ take 14 p
  pub crc : drop (length q - 4) q ≡ drop (length q - 4) p
  pub rows : (j : ℕ) → distance (row_of (payload_in q) j) (row_of (payload_in p) j) ≤ 8

-- a packet with protection as it is packed: coded rows, and a CRC that agrees
pub record Intact (p : List ℕ) : Type 0 where
  pub least : 19 ≤ length p
  pub multiple : (length p - 18) % 255 ≡ 0
  pub coded : (j : ℕ) → j * 255 < length (payload_in p) → Coded (row_of (payload_in p) j)
  pub agreed : agrees p (payload_in p) ≡ true

module _ (q p : List ℕ) (a : Altered q p) where
  first-same : (j : ℕ) → ltb j 14 ≡ true → get_or q j 0 ≡ get_or p j 0
  first-same j h =
      let l = ltb-true j 14 h in
      sym (get_or-take 14 q j 0 l) ∙ ap (λ (x : List ℕ). get_or x j 0) a.header ∙ get_or-take 14 p j 0 l

  -- its fields are read as the packet's
  pub read-copy : (rows : Bool) → read_by rows q ≡ read_by rows p
  unfolding read_by
  read-copy rows = rw (fields-first q p a.header, a.sized, first-same 0 refl, first-same 1 refl, first-same 2 refl)

  module _ (w : Intact p) where
    last-same : (k : ℕ) → 1 ≤ k → k ≤ 4 → get_or q (length q - k) 0 ≡ get_or p (length p - k) 0
    last-same k l m =
        let s : length q ≡ length p = a.sized in
        let g : 19 ≤ length p = w.least in
        let x : length q - k ≡ length q - 4 + (4 - k) = omega arith in
        let y : length q - 4 + (4 - k) ≡ length p - k = omega arith in
        ap (λ (i : ℕ). get_or q i 0) x ∙ sym (get_or-drop (length q - 4) q (4 - k) 0) ∙ ap (λ (l : List ℕ). get_or l (4 - k) 0) a.crc
        ∙ get_or-drop (length q - 4) p (4 - k) 0 ∙ ap (λ (i : ℕ). get_or p i 0) y

    crc-same : crc_in q ≡ crc_in p
    crc-same =
        cc (
          last-same 4 (omega arith) (omega arith),
          last-same 3 (omega arith) (omega arith),
          last-same 2 (omega arith) (omega arith),
          last-same 1 (omega arith) (omega arith),
        )

    -- its CRC agrees with the packet's payload
    pub agrees-copy : agrees q (payload_in p) ≡ true
    unfolding agrees
    agrees-copy = rw (crc-same, a.header) w.agreed

    -- and repair gives that payload back, mended where the copy was altered
    pub mended-copy : (t : ℕ) → (t ≡ 0 → ⊥) → mended_in t q ≡ whole (payload_in p) (altered_in (length (payload_in q) / 255) (payload_in q) (payload_in p))
    mended-copy t z =
        let s : length q ≡ length p = a.sized in
        let g : 19 ≤ length p = w.least in
        let m : (length p - 18) % 255 ≡ 0 = w.multiple in
        let x = payload_length_lem q (omega arith) in
        let y = payload_length_lem p (omega arith) in
        mended-rows t q z
        ∙ mend_whole (length (payload_in q) / 255) 0 (payload_in q) (payload_in p)
        (bytes_split (length q - 18) (drop 14 q) (bytes_split 14 q a.bytes).1).0 (omega arith) (omega arith)
        (λ j l. record { coded = w.coded j (omega arith); close = a.rows j })
