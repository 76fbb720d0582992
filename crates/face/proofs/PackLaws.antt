-- Packing through the face: a packet has at most 4095 bytes, so that its length fits an answer; and the answer is packing's own.
-- Assumes nothing.
use mathlib.Core.Path.{◌≡◌, refl, sym, ap, subst, ◌∙◌}
use mathlib.Core.Bool.{Bool, true, false, cond, not, ◌||◌}
use mathlib.Core.List.{List, ◌++◌}
use Prim.Native.Nat.{ℕ, ◌<◌, ◌≤◌}
use native.Mathlib.Omega.{arith}
use borrow.Author.Tests.{not-false}
use lib.Dec.{eqb, leb, ltb}
use lib.ListN.{length, drop}
use Rattle.refusals.specs.declared.Refusal.TheVariants.{Field, Size, Count, Number, Output}
use Rattle.settings.specs.declared.Settings.{Settings}
use Rattle.settings.specs.Settings.{settings_fit}
use Rattle.settings.proofs.Laws.{settings_facts}
use Rattle.pack.specs.Told.{packed_told}
use Rattle.pack.specs.Pack.{largest_file, count_of, packet_of, refusing, written, pack_of, Packs}
use Rattle.pack.proofs.Laws.{length_packet, length_payload}
use Rattle.face.specs.Face.{answer_of, Says, pack_says}
use Rattle.refusals.specs.declared.Refusal.{Refusal}
use Rattle.std.specs.Prelude.{Result}
use Rattle.std.specs.Prelude.{Ok}

module _ (file : List ℕ) (g : Settings) (n : ℕ) (out : List ℕ) where
  packet_short : settings_fit g ≡ true → length (packet_of g file n) ≤ 4095
  packet_short fit =
      let limit : g.size ≤ 4077 = (settings_facts g fit).size.most in
      omega (arith, length_packet g file n, length_payload g file n)

  answer-short : answer_of (packed_told (pack_of file g n out).answer) < 18446744073709551616
  unfolding pack_of written
  answer-short =
      go (not (settings_fit g)) (eqb (length file) 0 || ltb largest_file (length file)) (ltb 1048575 (count_of g (length file))) (leb (count_of g (length file)) n)
      (ltb (length out) (length (packet_of g file n))) refl
    where
      go : (a b c d e : Bool) → not (settings_fit g) ≡ a
          → answer_of (packed_told (cond a (refusing Field out) (cond b (refusing Size out) (cond c (refusing Count out) (cond d (refusing Number out)
          (cond e (refusing Output out) (record { answer = Ok (length (packet_of g file n)); output = packet_of g file n ++ drop (length (packet_of g file n)) out })))))
          ).answer) < 18446744073709551616
      go true b c d e t = omega arith
      go false true c d e t = omega arith
      go false false true d e t = omega arith
      go false false false true e t = omega arith
      go false false false false true t = omega arith
      go false false false false false t = omega (arith, packet_short (not-false (settings_fit g) t))

  module _ (p : Result ℕ Refusal) (x : List ℕ) (h : Packs (pack_of file g n out) p x) where
    pub packed_fits : answer_of (packed_told p) < 18446744073709551616
    packed_fits = subst (λ (y : Result ℕ Refusal). answer_of (packed_told y) < 18446744073709551616) (sym h.answer) answer-short

    pub pack_says_lem : (r : ℕ) → r ≡ answer_of (packed_told p) → Says (pack_says file g n out) r x
    unfolding pack_says
    pack_says_lem r e = record { answers = e ∙ ap (λ (y : Result ℕ Refusal). answer_of (packed_told y)) h.answer; leaves = h.output }
