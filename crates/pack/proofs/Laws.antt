-- The laws of packing for the layers above (document 01, section 4): the counts, the payloads and what they join to, the parts of a packet, that reading it gives
-- the fields it was packed with, in their edition, and that its CRC agrees. Assumes nothing.
use mathlib.Core.Path.{◌≡◌, refl, sym, ap, ap₂, subst, ◌∙◌}
use mathlib.Core.Bool.{Bool, true, false, cond, not, true≢false}
use mathlib.Core.List.{List, ◌++◌, append_assoc, flatten}
use Prim.Native.Nat.{ℕ, ◌+◌, ◌-◌, ◌*◌, ◌/◌, ◌%◌, ◌^◌, ◌<◌, ◌≤◌, min}
use native.Mathlib.Nat.{add-mul, one-mul, mul_assoc, mul_left_comm, mul-pos, zero-lt-suc, div-div-eq-div-mul, div-add-mod', mod-lt, mod-eq_of_lt, div-lt_iff_lt-mul}
use native.Mathlib.Omega.{arith}
use borrow.Author.Tests.{eq-eqb, ne_eqb, eqb-false, not-true}
use lib.Dec.{eqb}
use lib.ListN.{length, get_or, take, drop, length-append, length-take, length-drop, take-append-drop}
use lib.Seq.{take_at, drop_at, drop-drop, get_or-append-add}
use Rattle.ground.specs.Lists.{listed}
use Rattle.ground.proofs.Listed.{part_of_front, joined-all, ceil_upper, ceil-below, ceil-lower}
use Rattle.code.specs.Code.{Bytes, Coded}
use Rattle.code.proofs.Lists.{bytes_of, bytes-parts, append-bytes}
use Rattle.crc.specs.Crc.{crc32_of}
use Rattle.crc.proofs.Bounds.{crc32_lt}
use Rattle.packet.specs.declared.Packet.{Packet}
use Rattle.settings.specs.declared.Settings.{Settings}
use Rattle.packet.specs.Packet.{fields_in, marked, header_of, read_by, read_header_of}
use Rattle.packet.specs.Edition.{spare_of, edition_of}
use Rattle.packet.specs.Range.{InRange}
use Rattle.settings.specs.Settings.{settings_fit, rows_sent}
use Rattle.packet.proofs.Laws.{header-length, header-bytes, marked-header, fields-header, SentFacts, read_accepts}
use Rattle.packet.proofs.Spares.{spare_range, edition_shown}
use Rattle.settings.proofs.Laws.{SettingsFacts, settings_facts, row_wise_lem}
use Rattle.layout.specs.Layout.{tables_of, row_of, coded_file, undone}
use Rattle.layout.proofs.Coded.{length-coded, coded-bytes, coded_row_lem, row-coded, undone-file}
use Rattle.laying.proofs.Starts.{tables_few}
use Rattle.pack.specs.Pack.{coded_length, count_of, sent_of, payload_of, fields_for, header_for, packet_of}
use Rattle.sealing.specs.Sealing.{four_bytes, sealed}
use Rattle.std.specs.Prelude.{Ok}

-- ---- settings that fit

-- protection is 0 or 1
pub protection_one : (g : Settings) → settings_fit g ≡ true → (g.protection ≡ 0 → ⊥) → g.protection ≡ 1
protection_one g fit h = let l : g.protection < 2 = (settings_facts g fit).protection in omega arith

-- and the order is 0 or 1
pub row-order : (g : Settings) → settings_fit g ≡ true → (g.order ≡ 1 → ⊥) → g.order ≡ 0
row-order g fit h = let l : g.order < 2 = (settings_facts g fit).order-most in omega arith

pub rows_positive : (g : Settings) → settings_fit g ≡ true → (g.protection ≡ 0 → ⊥) → 0 < g.rows
rows_positive g fit h = (settings_facts g fit).rows (protection_one g fit h)

-- ---- what is sent

-- without protection the file itself
pub sent_plain : (g : Settings) (file : List ℕ) → g.protection ≡ 0 → sent_of g file ≡ file
unfolding sent_of
sent_plain g file h = ap (λ (b : Bool). cond b file (coded_file g.order g.rows file)) (eq-eqb g.protection 0 h)

pub length-plain : (g : Settings) (n : ℕ) → g.protection ≡ 0 → coded_length g n ≡ n
length-plain g n h = ap (λ (b : Bool). cond b n (255 * g.rows * tables_of g.rows n)) (eq-eqb g.protection 0 h)

-- with protection its coded tables
pub sent_coded : (g : Settings) (file : List ℕ) → (g.protection ≡ 0 → ⊥) → sent_of g file ≡ coded_file g.order g.rows file
unfolding sent_of
sent_coded g file h = ap (λ (b : Bool). cond b file (coded_file g.order g.rows file)) (ne_eqb g.protection 0 h)

pub length_tables : (g : Settings) (n : ℕ) → (g.protection ≡ 0 → ⊥) → coded_length g n ≡ 255 * g.rows * tables_of g.rows n
length_tables g n h = ap (λ (b : Bool). cond b n (255 * g.rows * tables_of g.rows n)) (ne_eqb g.protection 0 h)

pub length_sent : (g : Settings) (file : List ℕ) → length (sent_of g file) ≡ coded_length g (length file)
unfolding sent_of
length_sent g file = go (eqb g.protection 0)
  where
    go : (b : Bool) → length (cond b file (coded_file g.order g.rows file)) ≡ cond b (length file) (255 * g.rows * tables_of g.rows (length file))
    go true = refl
    go false = length-coded g.order g.rows file

-- ---- T and N, rounded up

pub tables_bounds : (m n : ℕ) → 0 < m → 0 < n → ((tables_of m n - 1) * (239 * m) < n) × (n ≤ tables_of m n * (239 * m))
tables_bounds m n h p =
    let w : 0 < 239 * m = mul-pos (zero-lt-suc 238) h in
    (ceil-lower n (239 * m) w p, ceil_upper n (239 * m) w)

pub coded-few : (g : Settings) (n : ℕ) → settings_fit g ≡ true → coded_length g n ≤ 2 * (n + 60945)
coded-few g n fit = go (eqb g.protection 0) refl
  where
    go : (b : Bool) → eqb g.protection 0 ≡ b → cond b n (255 * g.rows * tables_of g.rows n) ≤ 2 * (n + 60945)
    go true e = omega arith
    go false e =
        let p : g.protection ≡ 1 = protection_one g fit (eqb-false _ _ e) in
        omega (arith, tables_few g.rows n ((settings_facts g fit).rows p), (settings_facts g fit).rows-most p)

pub count_bounds : (g : Settings) (n : ℕ) → settings_fit g ≡ true → 0 < coded_length g n
    → ((count_of g n - 1) * g.size < coded_length g n) × (coded_length g n ≤ count_of g n * g.size)
count_bounds g n fit p =
    let w : 0 < g.size = (settings_facts g fit).size.least in
    (ceil-lower (coded_length g n) g.size w p, ceil_upper (coded_length g n) g.size w)

-- ---- the payloads

pub length_payload : (g : Settings) (file : List ℕ) (n : ℕ) → length (payload_of g file n) ≡ min g.size (coded_length g (length file) - n * g.size)
unfolding payload_of
length_payload g file n =
    length-take g.size (drop (n * g.size) (sent_of g file))
    ∙ ap (min g.size) (length-drop (n * g.size) (sent_of g file) ∙ ap (λ (x : ℕ). x - n * g.size) (length_sent g file))

-- a part of bytes is bytes
part_bytes : (n k : ℕ) (l : List ℕ) → Bytes l → Bytes (take n (drop k l))
part_bytes n k l b =
    let d : Bytes (drop k l) = (bytes-parts (take k l) (drop k l) (rw (take-append-drop k l) b)).1 in
    (bytes-parts (take n (drop k l)) (drop n (drop k l)) (rw (take-append-drop n (drop k l)) d)).0

pub payload_bytes : (g : Settings) (file : List ℕ) (n : ℕ) → Bytes file → Bytes (payload_of g file n)
unfolding payload_of sent_of
payload_bytes g file n b = part_bytes g.size (n * g.size) (sent_of g file) (go (eqb g.protection 0))
  where
    go : (t : Bool) → Bytes (cond t file (coded_file g.order g.rows file))
    go true = b
    go false = coded-bytes g.order g.rows file b

module _ (g : Settings) (file : List ℕ) (fit : settings_fit g ≡ true) where
  facts : SettingsFacts g
  facts = settings_facts g fit

  -- no longer than P
  pub payload_most : (n : ℕ) → length (payload_of g file n) ≤ g.size
  payload_most n = omega (arith, length_payload g file n)

  -- below the count none is empty
  pub payload_some : (n : ℕ) → n < count_of g (length file) → 0 < length (payload_of g file n)
  payload_some n l =
      let b : n * g.size < coded_length g (length file) = ceil-below (coded_length g (length file)) g.size n facts.size.least l in
      omega (arith, length_payload g file n, facts.size.least)

  next-size : (n : ℕ) → (n + 1) * g.size ≡ n * g.size + g.size
  next-size n = add-mul n 1 g.size ∙ ap (λ (x : ℕ). n * g.size + x) (one-mul g.size)

  -- every one but the last has P bytes
  pub payload_full : (n : ℕ) → n + 1 < count_of g (length file) → length (payload_of g file n) ≡ g.size
  payload_full n l =
      let b : (n + 1) * g.size < coded_length g (length file) = ceil-below (coded_length g (length file)) g.size (n + 1) facts.size.least l in
      omega (arith, length_payload g file n, next-size n)

  -- the last has what is left
  pub payload_last : (n : ℕ) → n + 1 ≡ count_of g (length file) → length (payload_of g file n) ≡ coded_length g (length file) - n * g.size
  payload_last n l =
      let u : coded_length g (length file) ≤ count_of g (length file) * g.size = ceil_upper (coded_length g (length file)) g.size facts.size.least in
      let d : (n + 1) * g.size ≡ count_of g (length file) * g.size = ap (λ (x : ℕ). x * g.size) l in
      omega (arith, length_payload g file n, next-size n)

  -- joined, they are what is sent
  pub joined_payloads : flatten (listed (payload_of g file) (count_of g (length file)) 0) ≡ sent_of g file
  unfolding payload_of
  joined_payloads =
      let u : coded_length g (length file) ≤ count_of g (length file) * g.size = ceil_upper (coded_length g (length file)) g.size facts.size.least in
      joined-all (sent_of g file) g.size (count_of g (length file)) (omega (arith, length_sent g file))

  -- without protection they join to the file
  pub joined-plain : g.protection ≡ 0 → flatten (listed (payload_of g file) (count_of g (length file)) 0) ≡ file
  joined-plain h = joined_payloads ∙ sent_plain g file h

  -- with protection they are whole coded rows, and the tables undone give the file followed by zeros
  module _ (p : g.protection ≡ 1) where
    not_plain : g.protection ≡ 0 → ⊥
    not_plain z = omega arith

    pub coded_length_lem : coded_length g (length file) ≡ 255 * (g.rows * tables_of g.rows (length file))
    coded_length_lem = length_tables g (length file) not_plain ∙ mul_assoc 255 g.rows (tables_of g.rows (length file))

    pub joined-file : undone g.order g.rows (flatten (listed (payload_of g file) (count_of g (length file)) 0)) (length file) 0 ≡ file
    joined-file =
        ap (λ (x : List ℕ). undone g.order g.rows x (length file) 0) (joined_payloads ∙ sent_coded g file not_plain)
        ∙ undone-file g.order g.rows (facts.rows p) file

  -- in row order they are whole coded rows
  module _ (p : g.protection ≡ 1) (o : g.order ≡ 0) where
    -- P and the bytes before payload n, as rows
    pub size-rows : g.size ≡ 255 * (g.size / 255)
    size-rows = omega (arith, facts.size.multiple (row_wise_lem g.protection g.order p o))

    pub begin_rows : (n : ℕ) → n * g.size ≡ 255 * (n * (g.size / 255))
    begin_rows n = ap (λ (x : ℕ). n * x) size-rows ∙ mul_left_comm n 255 (g.size / 255)

    pub payload_rows : (n : ℕ) → length (payload_of g file n) % 255 ≡ 0
    payload_rows n = omega (arith, length_payload g file n, size-rows, begin_rows n, coded_length_lem p)

    -- row i of payload n
    pub payload_row : (n i : ℕ) → i * 255 < length (payload_of g file n)
        → take 255 (drop (i * 255) (payload_of g file n)) ≡ row_of g.rows file ((n * (g.size / 255) + i) / g.rows) ((n * (g.size / 255) + i) % g.rows)
    unfolding payload_of
    payload_row n i l =
        let q : ℕ = n * (g.size / 255) + i in
        let e : n * g.size + i * 255 ≡ q * 255 = omega (arith, begin_rows n) in
        part_of_front 255 (i * 255) g.size (drop (n * g.size) (sent_of g file)) (omega (arith, length_payload g file n, size-rows))
        ∙ ap (take 255) (drop-drop (i * 255) (n * g.size) (sent_of g file))
        ∙ ap₂ (λ (x : ℕ) (y : List ℕ). take 255 (drop x y)) e (sent_coded g file (not_plain p) ∙ ap (λ (x : ℕ). coded_file x g.rows file) o)
        ∙ coded_row_lem g.rows (facts.rows p) file q (omega (arith, length_payload g file n, size-rows, begin_rows n, coded_length_lem p))

    pub payload_coded : Bytes file → (n i : ℕ) → i * 255 < length (payload_of g file n) → Coded (take 255 (drop (i * 255) (payload_of g file n)))
    payload_coded b n i l =
        subst Coded (sym (payload_row n i l))
        (row-coded g.rows file ((n * (g.size / 255) + i) / g.rows) ((n * (g.size / 255) + i) % g.rows) b)

-- ---- a header, a body and four bytes of CRC, joined
module _ (h b : List ℕ) (e : length h ≡ 14) where
  pub length-sealed : length (sealed (h ++ b)) ≡ 14 + length b + 4
  unfolding sealed
  length-sealed = length-append (h ++ b) (four_bytes (crc32_of (h ++ b))) ∙ ap (λ (x : ℕ). x + 4) (length-append h b ∙ ap (λ (x : ℕ). x + length b) e)

  pub sealed-header : take 14 (sealed (h ++ b)) ≡ h
  unfolding sealed
  sealed-header = ap (take 14) (append_assoc h b (four_bytes (crc32_of (h ++ b)))) ∙ take_at h (b ++ four_bytes (crc32_of (h ++ b))) 14 e

  pub sealed_body : take (length (sealed (h ++ b)) - 18) (drop 14 (sealed (h ++ b))) ≡ b
  unfolding sealed
  sealed_body =
      let f : List ℕ = four_bytes (crc32_of (h ++ b)) in
      let k : length b ≡ length (sealed (h ++ b)) - 18 = omega (arith, length-sealed) in
      ap (take (length (sealed (h ++ b)) - 18)) (ap (drop 14) (append_assoc h b f) ∙ drop_at h (b ++ f) 14 e) ∙ take_at b f (length (sealed (h ++ b)) - 18) k

  pub sealed-front : take (length (sealed (h ++ b)) - 4) (sealed (h ++ b)) ≡ h ++ b
  unfolding sealed
  sealed-front =
      take_at (h ++ b) (four_bytes (crc32_of (h ++ b))) (length (sealed (h ++ b)) - 4) (omega (arith, length-sealed, length-append h b))

-- ---- four bytes behind a list, read as a number, are the number
digits : (v a b c p q r s : ℕ) → a * 256 + s ≡ v → b * 256 + r ≡ a → c * 256 + q ≡ b → p ≡ c → p * 16777216 + q * 65536 + r * 256 + s ≡ v
digits v a b c p q r s e f g h = omega arith

four-number : (v : ℕ) → v < 2 ^ 32 → v / 16777216 % 256 * 16777216 + v / 65536 % 256 * 65536 + v / 256 % 256 * 256 + v % 256 ≡ v
four-number v h =
    digits v (v / 256) (v / 65536) (v / 16777216) (v / 16777216 % 256) (v / 65536 % 256) (v / 256 % 256) (v % 256) (div-add-mod' v 256)
    (ap (λ (x : ℕ). x * 256 + v / 256 % 256) (sym (div-div-eq-div-mul v 256 256)) ∙ div-add-mod' (v / 256) 256)
    (ap (λ (x : ℕ). x * 256 + v / 65536 % 256) (sym (div-div-eq-div-mul v 65536 256)) ∙ div-add-mod' (v / 65536) 256)
    (mod-eq_of_lt {n = v / 16777216} {m = 256} ((div-lt_iff_lt-mul (zero-lt-suc 16777215)).1 h))

four-at : (l : List ℕ) (v p i : ℕ) → p ≡ length l + i → get_or (l ++ four_bytes v) p 0 ≡ get_or (four_bytes v) i 0
four-at l v p i e = ap (λ (x : ℕ). get_or (l ++ four_bytes v) x 0) e ∙ get_or-append-add l (four_bytes v) i 0

four-read : (l : List ℕ) (v n : ℕ) → v < 2 ^ 32 → n ≡ length l + 4
    → get_or (l ++ four_bytes v) (n - 4) 0 * 16777216 + get_or (l ++ four_bytes v) (n - 3) 0 * 65536 + get_or (l ++ four_bytes v) (n - 2) 0 * 256 + get_or (l ++ four_bytes v) (n - 1) 0 ≡ v
four-read l v n h e =
    let a : get_or (l ++ four_bytes v) (n - 4) 0 ≡ v / 16777216 % 256 = four-at l v (n - 4) 0 (omega arith) in
    let b : get_or (l ++ four_bytes v) (n - 3) 0 ≡ v / 65536 % 256 = four-at l v (n - 3) 1 (omega arith) in
    let c : get_or (l ++ four_bytes v) (n - 2) 0 ≡ v / 256 % 256 = four-at l v (n - 2) 2 (omega arith) in
    let d : get_or (l ++ four_bytes v) (n - 1) 0 ≡ v % 256 = four-at l v (n - 1) 3 (omega arith) in
    rw (a, b, c, d) (four-number v h)

four_bytes_lem : (v : ℕ) → Bytes (four_bytes v)
unfolding Bytes
four_bytes_lem v = (mod-lt (v / 16777216) (zero-lt-suc 255), (mod-lt (v / 65536) (zero-lt-suc 255), (mod-lt (v / 256) (zero-lt-suc 255), (mod-lt v (zero-lt-suc 255), tt))))

pub length-header : (g : Settings) (count n k : ℕ) → length (header_for g count n k) ≡ 14
unfolding header_for
length-header g count n k = header-length (fields_for g count n k)

-- ---- the packets of a file
module _ (g : Settings) (file : List ℕ) (n : ℕ) where
  -- the fields with which packet n is packed, and its header
  abbrev pub fields_of : Packet
  fields_of = fields_for g (count_of g (length file)) n (length (payload_of g file n))

  abbrev front : List ℕ
  front = header_for g (count_of g (length file)) n (length (payload_of g file n))

  length_front : length front ≡ 14
  length_front = length-header g (count_of g (length file)) n (length (payload_of g file n))

  begins : packet_of g file n ≡ header_of fields_of ++ (payload_of g file n ++ four_bytes (crc32_of (front ++ payload_of g file n)))
  unfolding packet_of sealed header_for
  begins = append_assoc front (payload_of g file n) (four_bytes (crc32_of (front ++ payload_of g file n)))

  pub length_packet : length (packet_of g file n) ≡ 14 + length (payload_of g file n) + 4
  unfolding packet_of
  length_packet = length-sealed front (payload_of g file n) length_front

  pub packet_header : take 14 (packet_of g file n) ≡ header_of fields_of
  unfolding packet_of header_for
  packet_header = sealed-header front (payload_of g file n) length_front

  pub packet_payload : take (length (packet_of g file n) - 18) (drop 14 (packet_of g file n)) ≡ payload_of g file n
  unfolding packet_of
  packet_payload = sealed_body front (payload_of g file n) length_front

  -- what the CRC covers
  pub packet_front : take (length (packet_of g file n) - 4) (packet_of g file n) ≡ take 14 (packet_of g file n) ++ payload_of g file n
  unfolding packet_of
  packet_front =
      sealed-front front (payload_of g file n) length_front ∙ ap (λ (x : List ℕ). x ++ payload_of g file n) (sym (sealed-header front (payload_of g file n) length_front))

  -- the last four bytes as a number are the CRC of the rest
  pub packet_crc : get_or (packet_of g file n) (length (packet_of g file n) - 4) 0 * 16777216 + get_or (packet_of g file n) (length (packet_of g file n) - 3) 0 * 65536
      + get_or (packet_of g file n) (length (packet_of g file n) - 2) 0 * 256 + get_or (packet_of g file n) (length (packet_of g file n) - 1) 0
      ≡ crc32_of (take (length (packet_of g file n) - 4) (packet_of g file n))
  unfolding packet_of sealed
  packet_crc =
      four-read (front ++ payload_of g file n) (crc32_of (front ++ payload_of g file n)) (length (packet_of g file n)) (crc32_lt (front ++ payload_of g file n))
      (length_packet ∙ sym (ap (λ (x : ℕ). x + 4) (length-append front (payload_of g file n) ∙ ap (λ (x : ℕ). x + length (payload_of g file n)) length_front)))
      ∙ ap crc32_of (sym (sealed-front front (payload_of g file n) length_front))

  module _ (fit : settings_fit g ≡ true) (few : count_of g (length file) ≤ 1048575) (below : n < count_of g (length file)) where
    rows-below : rows_sent g < 2 ^ 8
    rows-below = go (eqb g.protection 0) refl
      where
        go : (b : Bool) → eqb g.protection 0 ≡ b → cond b (spare_of g.edition).rows g.rows < 2 ^ 8
        go true e = (spare_range g.edition).1
        go false e = (settings_facts g fit).rows-most (protection_one g fit (eqb-false _ _ e))

    rows-some : g.protection ≡ 1 → 0 < rows_sent g
    rows-some o =
        let e : eqb g.protection 0 ≡ false = ne_eqb g.protection 0 (λ (z : g.protection ≡ 0). omega arith) in
        rw e ((settings_facts g fit).rows o)

    in_range : InRange fields_of
    in_range = record {
      resource = (settings_facts g fit).resource-most;
      number = omega arith;
      update = (settings_facts g fit).update;
      length = omega (arith, payload_most g file fit n, (settings_facts g fit).size.most);
      count = omega arith;
      kind = omega (arith, (settings_facts g fit).kind-most);
      protection = omega (arith, (settings_facts g fit).protection);
      rows = rows-below;
      reserved = (spare_range g.edition).0;
    }

    pub packet_sent : (rows : Bool) → (rows ≡ true → g.protection ≡ 1 → g.order ≡ 0) → SentFacts rows (packet_of g file n) fields_of
    packet_sent rows whole =
        let least : 0 < length (payload_of g file n) = payload_some g file fit n below in
        let most : length (payload_of g file n) ≤ g.size = payload_most g file fit n in
        let limit : g.size ≤ 4077 = (settings_facts g fit).size.most in
        let long : length (packet_of g file n) ≡ 14 + length (payload_of g file n) + 4 = length_packet in
        record {
          fields = sym (ap fields_in begins ∙ fields-header fields_of in_range (payload_of g file n ++ four_bytes (crc32_of (front ++ payload_of g file n))));
          mark = ap marked begins ∙ marked-header fields_of (payload_of g file n ++ four_bytes (crc32_of (front ++ payload_of g file n)));
          least = omega arith;
          most = omega arith;
          whole = sym long;
          kind = (settings_facts g fit).kind-most;
          protection = (settings_facts g fit).protection;
          rows = λ o. rows-some o;
          number = omega arith;
          below = λ k. below;
          stream = λ k. absurd (omega (arith, (settings_facts g fit).kind));
          multiple = λ t o. omega (arith, payload_rows g file fit o (whole t o) n);
          resource = (settings_facts g fit).resource;
        }

    -- reading it gives the fields it was packed with: in any order where rows are not judged, and as a place of its own order has it read
    pub packet_reads : read_header_of (packet_of g file n) ≡ Ok fields_of
    packet_reads = read_accepts false (packet_of g file n) fields_of (packet_sent false (λ t. absurd (true≢false (sym t))))

    own-rows : not (eqb g.order 1) ≡ true → g.protection ≡ 1 → g.order ≡ 0
    own-rows t o = row-order g fit (eqb-false _ _ (not-true _ t))

    pub packet_reads_own : read_by (not (eqb g.order 1)) (packet_of g file n) ≡ Ok fields_of
    packet_reads_own = read_accepts (not (eqb g.order 1)) (packet_of g file n) fields_of (packet_sent (not (eqb g.order 1)) own-rows)

    -- and these show the edition under which it was packed
    pub packet_edition : edition_of fields_of ≡ g.edition
    packet_edition =
        edition_shown fields_of g.edition (settings_facts g fit).edition (settings_facts g fit).edition-most
        (record { reserved = refl; rows = λ (z : g.protection ≡ 0). rw (eq-eqb g.protection 0 z) })

    pub packet_bytes : Bytes file → Bytes (packet_of g file n)
    packet_bytes b =
        subst Bytes (sym begins)
        (append-bytes (header_of fields_of) (payload_of g file n ++ four_bytes (crc32_of (front ++ payload_of g file n)))
        (bytes_of (header_of fields_of) (header-bytes fields_of (settings_facts g fit).resource-most rows-below))
        (append-bytes (payload_of g file n) (four_bytes (crc32_of (front ++ payload_of g file n))) (payload_bytes g file n b)
        (four_bytes_lem (crc32_of (front ++ payload_of g file n)))))
