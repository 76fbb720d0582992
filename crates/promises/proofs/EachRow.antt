-- Demand 2, of each row of a packet: our repair of packets is exact in every row.
-- Assumes nothing.
use mathlib.Core.Path.{◌≡◌, sym, ap, ◌∙◌, subst}
use mathlib.Core.List.{List}
use Prim.Native.Nat.{ℕ, ◌-◌, ◌*◌, ◌/◌, ◌%◌}
use native.Mathlib.Nat.{zero-add}
use native.Mathlib.Omega.{arith}
use lib.ListN.{length, drop}
use Rattle.code.specs.Code.{Bytes}
use Rattle.code.specs.Mend.{whole, broken, mend_rows}
use Rattle.code.proofs.Mend.{bytes_split, mend_near, mend_altered, FirstLost, mend_broken, broken_mend}
use Rattle.record.specs.Mend.{payload_in, mended_in}
use Rattle.record.proofs.OfferCases.{mended-rows}
use Rattle.code.proofs.Mend.{mend_whole, mend_length}
use Rattle.promises.specs.Statements.{RowsNear, bytes_altered, FirstBroken, WholeRows, MendsEachRow}

module _ (q : List ℕ) where
  -- how many rows the payload has
  abbrev count : ℕ
  count = length (payload_in q) / 255

  pub rows-near : (b : List ℕ) (k : ℕ) → length (payload_in q) % 255 ≡ 0 → mend_rows count 0 (payload_in q) ≡ whole b k → RowsNear q b × (k ≡ bytes_altered q b)
  rows-near b k m e = (
    record { sized = mend_length count 0 (payload_in q) b k e ∙ omega arith; near = λ i l. mend_near count 0 (payload_in q) b k e i (omega arith) },
    mend_altered count 0 (payload_in q) b k e,
  )

  module _ (w : WholeRows q) where
    whole-sized : length (payload_in q) ≡ count * 255
    whole-sized = omega (arith, w.multiple)

    payload_bytes : Bytes (payload_in q)
    payload_bytes = (bytes_split (length q - 18) (drop 14 q) (bytes_split 14 q w.bytes).1).0

    near-rows : (b : List ℕ) → RowsNear q b → mend_rows count 0 (payload_in q) ≡ whole b (bytes_altered q b)
    near-rows b n =
        mend_whole count 0 (payload_in q) b payload_bytes whole-sized (n.sized ∙ whole-sized) (λ i l. n.near i (omega (arith, whole-sized)))

    rows-broken : (i : ℕ) → mend_rows count 0 (payload_in q) ≡ broken i → FirstBroken q i
    rows-broken i e =
        let f = mend_broken count 0 (payload_in q) i payload_bytes whole-sized e in
        let same : f.0 ≡ i = sym (f.1 ∙ zero-add f.0) in
        let l : FirstLost count (payload_in q) i = subst (FirstLost count (payload_in q)) same f.2 in
        record { within = omega (arith, whole-sized, l.within); lost = l.lost; before = l.before }

    broken-rows : (i : ℕ) → FirstBroken q i → mend_rows count 0 (payload_in q) ≡ broken i
    broken-rows i f =
        broken_mend count 0 (payload_in q) i payload_bytes whole-sized (record { within = omega (arith, whole-sized, f.within); lost = f.lost; before = f.before })
        ∙ ap broken (zero-add i)

mended : (q : List ℕ) → mended_in 1 q ≡ mend_rows (length (payload_in q) / 255) 0 (payload_in q)
mended q = mended-rows 1 q (λ z. omega arith)

pub mends_each_row : MendsEachRow mended_in
mends_each_row = record {
  sound = λ q b m w e. rows-near q b m w.multiple (sym (mended q) ∙ e);
  complete = λ q b w n. mended q ∙ near-rows q w b n;
  refusing = λ q i w e. rows-broken q w i (sym (mended q) ∙ e);
  refused = λ q i w f. mended q ∙ broken-rows q w i f;
}
