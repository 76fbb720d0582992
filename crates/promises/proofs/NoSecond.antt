-- No second file fits: each offered copy is one of both files, so their payloads are the same, and the tables undone are the same file, up to zeros behind the shorter.
-- Assumes nothing.
use mathlib.Core.Path.{◌≡◌, refl, sym, ap, ap₂, ◌∙◌, subst}
use mathlib.Core.Bool.{false}
use mathlib.Core.List.{List, ◌++◌, flatten, append-nil}
use Prim.Native.Nat.{ℕ, ◌+◌, ◌-◌, ◌*◌, ◌/◌, ◌≤◌, ◌<◌}
use native.Mathlib.Omega.{arith}
use lib.ListN.{length, replicate}
use Rattle.ground.specs.Lists.{listed}
use Rattle.ground.proofs.Listed.{listed-append, listed_ext}
use Rattle.layout.specs.Layout.{tables_of, coded_file, read_back, undone}
use Rattle.layout.proofs.Coded.{coded_tables, tables_reach, undone-file, undone_padding}
use Rattle.settings.specs.declared.Settings.{Settings}
use Rattle.pack.specs.Pack.{count_of, payload_of}
use Rattle.pack.proofs.Laws.{fields_of, rows_positive, sent_coded, joined_payloads}
use Rattle.places.specs.Places.{settings_name, place_of}
use Rattle.ground.proofs.Truth.{differ}
use Rattle.record.specs.Offer.{judge}
use Rattle.promises.specs.Calls.{Call, names}
use Rattle.promises.specs.Calls.Call.{offering}
use Rattle.promises.specs.Statements.{Protected, Copy, BringsNoOther, Fair, AllFair, Offers, Carries, NoSecondFile, NoSecondLength}
use Rattle.promises.proofs.Judged.{copy_reads, copy-judged, copy-names, same_payload}

-- an offer that is a copy for the one file, and fair for the other
pub record Both (g : Settings) (a b : List ℕ) (n : ℕ) : Type 0 where
  pub packet : List ℕ
  pub one : Copy g a n packet
  pub other : Fair g b (offering packet)

pub both : (g : Settings) (a b : List ℕ) (n : ℕ) {cs : List Call} → Offers g a n cs → AllFair g b cs → Both g a b n
both g a b n (Offers.here {q} c) (AllFair.next f rest) = record { packet = q; one = c; other = f }
both g a b n (Offers.later o) (AllFair.next f rest) = both g a b n o rest

module _ (g : Settings) (a b : List ℕ) (pa : Protected g a) (pb : Protected g b) (same_count : count_of g (length a) ≡ count_of g (length b)) where
  pub served : (n : ℕ) → n < count_of g (length a) → (q : List ℕ) → Copy g a n q → (c : Call) → c ≡ offering q → Fair g b c → payload_of g a n ≡ payload_of g b n
  served n l q ca c e (Fair.copy m q' lm cb) =
      let s : q' ≡ q = cc in
      same_payload g a b pa pb n m l lm q ca (subst (Copy g b m) s cb)
  served n l q ca c e (Fair.other q' none) =
      let s : q' ≡ q = cc in
      differ (sym (copy-names g a pa n l q ca) ∙ subst (λ (x : List ℕ). names (settings_name g) x ≡ false) s none)
  served n l q ca c e (Fair.noise q' only) =
      let s : q' ≡ q = cc in
      cc (subst (BringsNoOther g b) s only (fields_of g a n) (copy_reads g a pa n l q ca) n (payload_of g a n) _
      (ap (λ (k : ℕ). judge (place_of g k 0) (fields_of g a n) q) (sym same_count) ∙ copy-judged g a pa n l q ca 0))
  served n l q ca c e (Fair.packs x s k out) = let z : ◌≡◌ {A = ℕ} 0 1 = cc in absurd (omega arith)
  served n l q ca c e (Fair.opens s k) = let z : ◌≡◌ {A = ℕ} 0 1 = cc in absurd (omega arith)
  served n l q ca c e (Fair.asks r) = let z : ◌≡◌ {A = ℕ} 0 1 = cc in absurd (omega arith)
  served n l q ca c e (Fair.hands r k out) = let z : ◌≡◌ {A = ℕ} 0 1 = cc in absurd (omega arith)
  served n l q ca c e (Fair.closes r k) = let z : ◌≡◌ {A = ℕ} 0 1 = cc in absurd (omega arith)

  -- what is sent of both is the same
  module _ (cs : List Call) (ca : Carries g a cs) (cb : Carries g b cs) where
    same_sent : coded_file g.order g.rows a ≡ coded_file g.order g.rows b
    same_sent =
        let payloads : (n : ℕ) → n < count_of g (length a) → payload_of g a n ≡ payload_of g b n = λ n l.
        let s = both g a b n (ca.every n l) cb.fair in
        served n l s.packet s.one (offering s.packet) refl s.other in
        sym (joined_payloads g a pa.fit ∙ sent_coded g a (λ z. omega (arith, pa.protection)))
        ∙ ap flatten (listed_ext (payload_of g a) (payload_of g b) (count_of g (length a)) 0 (λ k p l. payloads k (omega arith))
        ∙ ap (λ (n : ℕ). listed (payload_of g b) n 0) same_count)
        ∙ joined_payloads g b pb.fit ∙ sent_coded g b (λ z. omega (arith, pb.protection))

    some-rows : 0 < g.rows
    some-rows = rows_positive g pa.fit (λ z. omega (arith, pa.protection))

    -- so are the tables, and b, which fits them, is read back from those of a
    padded : length a ≤ length b → b ≡ a ++ replicate (length b - length a) 0
    padded h =
        let tables : tables_of g.rows (length a) ≡ tables_of g.rows (length b) =
        sym (coded_tables g.order g.rows a some-rows) ∙ ap (λ (x : List ℕ). length x / (255 * g.rows)) same_sent ∙ coded_tables g.order g.rows b some-rows in
        let reach : length b ≤ 239 * g.rows * tables_of g.rows (length a) =
        subst (λ (t : ℕ). length b ≤ 239 * g.rows * t) (sym tables) (tables_reach g.rows (length b) some-rows) in
        let sum : length b ≡ length a + (length b - length a) = omega arith in
        let begin : 0 + length a ≡ length a = omega arith in
        sym (undone-file g.order g.rows some-rows b)
        ∙ ap₂ (λ (x : List ℕ) (n : ℕ). undone g.order g.rows x n 0) (sym same_sent) sum
        ∙ listed-append (read_back g.order g.rows (coded_file g.order g.rows a)) (length a) (length b - length a) 0
        ∙ ap (λ (k : ℕ). undone g.order g.rows (coded_file g.order g.rows a) (length a) 0 ++ undone g.order g.rows (coded_file g.order g.rows a) (length b - length a) k) begin
        ∙ ap₂ ◌++◌ (undone-file g.order g.rows some-rows a) (undone_padding g.order g.rows some-rows a (length b - length a) (omega (arith, reach)))

pub no_second_length : NoSecondLength
no_second_length g a b pa pb e h cs ca cb = padded g a b pa pb e cs ca cb h

pub no_second_file : NoSecondFile
no_second_file g a b pa pb alike cs ca cb =
    let e : length a ≡ length b = omega (arith, alike) in
    let rest : length b - length a ≡ 0 = omega (arith, e) in
    sym (padded g a b pa pb (ap (count_of g) e) cs ca cb (omega (arith, e)) ∙ ap (λ (n : ℕ). a ++ replicate n 0) rest ∙ append-nil a)
