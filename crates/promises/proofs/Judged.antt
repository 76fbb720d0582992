-- A copy of packet n, offered to the file's own place, is judged to be the packet's payload for slot n: its fields are read as packed, in row order every row is
-- repaired to the packet's, in column order it came as it was sent, and the CRC then agrees. Hence two files that one copy serves have that payload in common. Assumes nothing.
use mathlib.Core.Path.{◌≡◌, refl, sym, ap, ap₂, ◌∙◌}
use mathlib.Core.Bool.{Bool, true, false, not}
use mathlib.Core.List.{List, ◌++◌}
use Prim.Native.Nat.{ℕ, zero, suc, ◌/◌, ◌≤◌, ◌<◌}
use native.Mathlib.Omega.{arith}
use borrow.Author.Tests.{eq-eqb, ne_eqb, eqb-true, eqb-false, lt-ltb}
use lib.Dec.{eqb}
use lib.ListN.{length, take, drop}
use Rattle.crc.specs.Crc.{crc32_of}
use Rattle.packet.specs.declared.Packet.{Packet}
use Rattle.settings.specs.declared.Settings.{Settings}
use Rattle.packet.specs.Packet.{read_by}
use Rattle.packet.specs.Edition.{edition_of}
use Rattle.code.specs.Mend.{whole, altered_in}
use Rattle.code.proofs.Distance.{distance_self}
use Rattle.settings.proofs.Laws.{row_wise_lem}
use Rattle.packet.proofs.Laws.{SentFacts}
use Rattle.pack.specs.Pack.{count_of, payload_of, packet_of}
use Rattle.pack.proofs.Laws.{fields_of, packet_payload, packet_front, packet_crc, packet_sent, packet_reads_own, packet_edition, payload_most, payload_coded, row-order}
use Rattle.places.specs.declared.Place.{Place}
use Rattle.places.specs.Places.{settings_name, place_of}
use Rattle.places.proofs.Named.{same_name_lem}
use Rattle.ground.proofs.Truth.{and_join}
use Rattle.record.specs.Mend.{payload_in}
use Rattle.sealing.specs.Sealing.{crc_in, agrees}
use Rattle.record.specs.Offer.{name_in, put, mend_as, judge, differs}
use Rattle.record.proofs.OfferCases.{mended-plain, judge-puts}
use Rattle.record.proofs.MendLaws.{Altered, Intact, read-copy}
use Rattle.record.proofs.OfferFacts.{read_known, read_names, SameFile, same-serves, mends_nothing, mends_rows}
use Rattle.record.proofs.OfferLaws.{judge-copy}
use Rattle.promises.specs.Calls.{names}
use Rattle.promises.specs.Statements.{bytes_altered, Protected, Copy}
use Rattle.std.specs.Prelude.{Ok}

-- what is not altered
altered_none : (n : ℕ) (b : List ℕ) → altered_in n b b ≡ 0
unfolding altered_in
altered_none zero b = refl
altered_none (suc n) b = rw (distance_self (take 255 b), altered_none n (drop 255 b)) refl

-- a packet's fields are those of the file's own place
module _ (g : Settings) (file : List ℕ) (n start : ℕ) where
  own-fields : SameFile (place_of g (count_of g (length file)) start) (fields_of g file n)
  own-fields = record { update = refl; count = refl; protection = refl; rows = λ (o : g.protection ≡ 1). rw (ne_eqb g.protection 0 (λ (z : g.protection ≡ 0). omega arith)) }

  pub not_different : differs (place_of g (count_of g (length file)) start) (fields_of g file n) ≡ false
  not_different = same-serves (place_of g (count_of g (length file)) start) (fields_of g file n) own-fields

module _ (g : Settings) (file : List ℕ) (p : Protected g file) (n : ℕ) (below : n < count_of g (length file)) where
  body : payload_in (packet_of g file n) ≡ payload_of g file n
  body = packet_payload g file n

  -- the CRC of a packet as it is packed agrees
  packet_agrees : agrees (packet_of g file n) (payload_in (packet_of g file n)) ≡ true
  unfolding agrees
  packet_agrees =
      eq-eqb (crc_in (packet_of g file n)) (crc32_of (take 14 (packet_of g file n) ++ payload_in (packet_of g file n)))
      (packet_crc g file n ∙ ap crc32_of (packet_front g file n ∙ ap (λ (b : List ℕ). take 14 (packet_of g file n) ++ b) (sym body)))

  -- in row order its rows are coded
  packet_intact : g.order ≡ 0 → Intact (packet_of g file n)
  packet_intact o =
      let sent : SentFacts true (packet_of g file n) (fields_of g file n) = packet_sent g file n p.fit p.count below true (λ t z. o) in
      record {
        least = sent.least;
        multiple = sent.multiple refl p.protection;
        coded = λ j h. rw body (payload_coded g file p.fit p.protection o p.bytes n j (omega (arith, ap length body)));
        agreed = packet_agrees;
      }

  module _ (q : List ℕ) (c : Copy g file n q) where
    altered : Altered q (packet_of g file n)
    altered = record { bytes = c.bytes; sized = c.sized; header = c.header; crc = c.crc; rows = λ i. omega (arith, c.rows i) }

    -- it is read as it was packed
    pub copy_reads : read_by (not (eqb g.order 1)) q ≡ Ok (fields_of g file n)
    copy_reads = read-copy q (packet_of g file n) altered (not (eqb g.order 1)) ∙ packet_reads_own g file n p.fit p.count below

    narrow : length (payload_in (packet_of g file n)) ≤ g.size
    narrow = omega (arith, ap length body, payload_most g file p.fit n)

    module _ (start : ℕ) where
      abbrev place : Place
      place = place_of g (count_of g (length file)) start

      own-edition : edition_of (fields_of g file n) ≡ g.edition
      own-edition = packet_edition g file n p.fit p.count below

      -- in row order it is mended where it was altered
      rows-judged : g.order ≡ 0 → judge place (fields_of g file n) q ≡ put n (payload_of g file n) (bytes_altered q (payload_of g file n))
      rows-judged o =
          judge-copy place (fields_of g file n) q (packet_of g file n) altered (packet_intact o) (own-fields g file n start) own-edition
          (mends_rows place (fields_of g file n) (row_wise_lem g.protection g.order p.protection o)) narrow
          ∙ ap (λ (b : List ℕ). put n b (bytes_altered q b)) body

      -- in column order it is taken as it came, which is as it was sent
      columns_judged : g.order ≡ 1 → judge place (fields_of g file n) q ≡ put n (payload_of g file n) (bytes_altered q (payload_of g file n))
      columns_judged o =
          let same : q ≡ packet_of g file n = c.as_sent o in
          let came : payload_in q ≡ payload_of g file n = ap payload_in same ∙ body in
          judge-puts place (fields_of g file n) q (same-serves place (fields_of g file n) (own-fields g file n start)) own-edition (payload_of g file n) 0
          (omega (arith, ap length came, payload_most g file p.fit n))
          (mended-plain (mend_as place (fields_of g file n)) q (mends_nothing place (fields_of g file n) (rw (o, p.protection) refl)) ∙ ap (λ (b : List ℕ). whole b 0) came)
          (ap₂ agrees same (sym body) ∙ packet_agrees)
          ∙ ap (put n (payload_of g file n)) (sym (altered_none (length (payload_in q) / 255) (payload_of g file n)) ∙ ap (λ (b : List ℕ). altered_in (length (payload_in q) / 255) b (payload_of g file n)) (sym came))

      -- judged to be the packet's payload, for slot n
      pub copy-judged : judge place (fields_of g file n) q ≡ put n (payload_of g file n) (bytes_altered q (payload_of g file n))
      copy-judged = by (eqb g.order 1) refl
        where
          by : (t : Bool) → eqb g.order 1 ≡ t → judge place (fields_of g file n) q ≡ put n (payload_of g file n) (bytes_altered q (payload_of g file n))
          by true t = columns_judged (eqb-true g.order 1 t)
          by false t = rows-judged (row-order g p.fit (eqb-false g.order 1 t))

    pub copy_name : name_in q ≡ settings_name g
    copy_name = sym (read_names (not (eqb g.order 1)) q (fields_of g file n) copy_reads)

    pub copy-names : names (settings_name g) q ≡ true
    copy-names =
        let least : 19 ≤ length q = (read_known (not (eqb g.order 1)) q (fields_of g file n) copy_reads).least in
        and_join (lt-ltb 12 (length q) (omega arith)) (same_name_lem (name_in q) (settings_name g) copy_name)

-- one copy for two files: the number is the same, and so is the payload
pub same_payload : (g : Settings) (a b : List ℕ) (pa : Protected g a) (pb : Protected g b) (n m : ℕ)
    → n < count_of g (length a) → m < count_of g (length b) → (q : List ℕ) → Copy g a n q → Copy g b m q → payload_of g a n ≡ payload_of g b n
same_payload g a b pa pb n m la lb q ca cb =
    let read : Ok (fields_of g a n) ≡ Ok (fields_of g b m) = sym (copy_reads g a pa n la q ca) ∙ copy_reads g b pb m lb q cb in
    let fields : fields_of g a n ≡ fields_of g b m = cc in
    let judged : put n (payload_of g a n) (bytes_altered q (payload_of g a n)) ≡ put m (payload_of g b m) (bytes_altered q (payload_of g b m)) =
    sym (copy-judged g a pa n la q ca 0) ∙ ap (λ (f : Packet). judge (place_of g f.count 0) f q) fields ∙ copy-judged g b pb m lb q cb 0 in
    let number : m ≡ n = cc in
    let payload : payload_of g a n ≡ payload_of g b m = cc in
    payload ∙ ap (payload_of g b) number
