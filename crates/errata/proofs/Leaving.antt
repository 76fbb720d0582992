-- What was found of a remainder is what the definition says of it: the row of 239 zeros and the remainder leaves the remainder, and what was found makes it the coded row
-- within eight bytes.
-- Assumes nothing.
use mathlib.Core.Path.{◌≡◌, refl, sym, ap, ◌∙◌}
use Rattle.std.proofs.Common.{Some, None}
use mathlib.Core.List.{List}
use Prim.Native.Nat.{ℕ}
use native.Mathlib.Omega.{arith}
use lib.ListN.{length, length-append}
use Rattle.code.specs.Code.{Bytes}
use Rattle.code.specs.Search.{remainder}
use Rattle.code.specs.Repair.{Near}
use Rattle.code.proofs.Lists.{zeros, length_zeros, zeros_bytes, append-bytes}
use Rattle.code.proofs.Division.{remainder_zeros}
use Rattle.code.proofs.Exact.{repair-found, repair-none}
use Rattle.errata.specs.declared.Errata.{Errata}
use Rattle.errata.specs.Errata.{errata_for, leaving, errata_of}
use Rattle.errata.specs.InnerErrata.{entries, mended_by, Nearing, Far, Kept}
use Rattle.errata.proofs.Listing.{listed-told}

not_divided : (w : List ℕ) → remainder 0 w ≡ w
unfolding remainder
not_divided w = refl

module _ (rest : List ℕ) (long : length rest ≡ 16) where
  pub leaving-length : length (leaving rest) ≡ 255
  unfolding leaving
  leaving-length = length-append (zeros 239) rest ∙ omega (arith, length_zeros 239, long)

  pub leaving_rest : rest ≡ remainder 239 (leaving rest)
  unfolding leaving
  leaving_rest = sym (remainder_zeros 239 0 rest (omega arith) ∙ not_divided rest)

  module _ (bytes : Bytes rest) where
    pub leaving-bytes : Bytes (leaving rest)
    unfolding leaving
    leaving-bytes = append-bytes (zeros 239) rest (zeros_bytes 239) bytes

    pub found-told : {n : ℕ} {at c : List ℕ} → Nearing rest n at c → (e : Errata) → Kept at c n e → Some e ≡ errata_of rest
    unfolding errata_of
    found-told {n} {at} {c} nearing e kept =
        let r : List ℕ = leaving rest in
        let s : List ℕ = mended_by r (entries at) (entries c) n in
        let near : Near r s = nearing r leaving-length leaving-bytes leaving_rest in
        listed-told r s leaving-length e kept.listed (sym (kept.same r)) ∙ ap (errata_for r) (sym (repair-found r s leaving-length leaving-bytes near))

    pub none_told : Far rest → None ≡ errata_of rest
    unfolding errata_of errata_for
    none_told far =
        let r : List ℕ = leaving rest in
        ap (errata_for r) (sym (repair-none r leaving-length leaving-bytes (far r leaving-length leaving-bytes leaving_rest)))
