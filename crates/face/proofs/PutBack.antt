-- The record that open and close hand over, put back into its bytes; beside a refusal these stay, and read as the record that came.
-- Assumes nothing.
use mathlib.Core.Path.{◌≡◌, refl, ap, subst, sym, ◌∙◌}
use mathlib.Core.List.{List}
use Prim.Native.Nat.{ℕ, ◌<◌}
use lib.ListN.{length, get_or}
use Rattle.std.specs.Prelude.{Result, Ok, Err, MatchResult}
use Rattle.refusals.specs.declared.Refusal.{Refusal}
use Rattle.refusals.specs.Refusals.{answered}
use Rattle.refusals.specs.Told.{refused_as, verdict_told}
use Rattle.code.specs.Code.{Bytes}
use Rattle.code.proofs.Lists.{bytes_of}
use Rattle.settings.specs.declared.Settings.{Settings}
use Rattle.places.specs.declared.Record.{Record}
use Rattle.places.specs.declared.Name.{Name}
use Rattle.opening.specs.Open.{Kept, renewed, open_of, Opens, close_of}
use Rattle.opening.proofs.OpenLaws.{refused_plan, refused-record}
use Rattle.holding.specs.Layout.{record_length, record_in, record_bytes}
use Rattle.holding.proofs.LayoutLaws.{bytes-again}
use Rattle.face.specs.Face.{answer_of, Keeps, open_says, close_says}
use Rattle.face.proofs.HoldLaws.{open_says_lem, close_says_lem}
use Rattle.face.proofs.RefusedLaws.{close-refused-record}

-- what stands in the record's bytes, and what is answered, by what was handed over
abbrev pub PutBack : List ℕ → Result Record Refusal → ℕ → List ℕ → Type 0
PutBack h kept r h' = MatchResult kept (λ k. (r ≡ 0) × (h' ≡ record_bytes k)) (λ e. (r ≡ answer_of (refused_as e)) × (h' ≡ h))

-- what stands there are bytes; so are those that stayed
put_back : (h : List ℕ) (k : Kept) (kept : Result Record Refusal) (r : ℕ) (h' : List ℕ) → kept ≡ renewed k
    → (Bytes h → (e : Refusal) → k.verdict ≡ Err e → record_bytes k.«record» ≡ h) → ((i : ℕ) → get_or h' i 0 < 256) → PutBack h kept r h'
    → (h' ≡ record_bytes k.«record») × (r ≡ answer_of (verdict_told k.verdict))
put_back h k kept r h' e same small p = by k.verdict refl (subst (λ (x : Result Record Refusal). PutBack h x r h') e p)
  where
    by : (v : Result (Unit {0}) Refusal) → k.verdict ≡ v → PutBack h (answered v k.«record») r h'
        → (h' ≡ record_bytes k.«record») × (r ≡ answer_of (verdict_told v))
    by (Ok tt) d q = (q.1, q.0)
    by (Err x) d q =
        let bytes : Bytes h = bytes_of h (λ i. subst (λ (l : List ℕ). get_or l i 0 < 256) q.1 (small i)) in
        (q.1 ∙ sym (same bytes x d), q.0)

module _ (h s : List ℕ) (long : length h ≡ record_length) (held : Record) (is : held ≡ record_in h) (h' : List ℕ) (small : (i : ℕ) → get_or h' i 0 < 256) where
  pub open_put_back : (g : Settings) (count r : ℕ) (kept : Result Record Refusal) (s' : List ℕ) → Opens held s g count kept s'
      → PutBack h kept r h' → Keeps (open_says h s g count) r h' s'
  open_put_back g count r kept s' o p =
      let k = (open_of held s g count).kept in
      let b = put_back h k kept r h' o.answers
      (λ bytes x e. ap record_bytes (refused-record held s g count x (refused_plan held s g count x e) ∙ is) ∙ bytes-again h bytes long) small p in
      open_says_lem h s g count r held h' s' long is o.leaves b.0 b.1

  pub close_put_back : (x : Name) (r : ℕ) (kept : Result Record Refusal) → kept ≡ renewed (close_of held s x)
      → PutBack h kept r h' → Keeps (close_says h s x) r h' s
  close_put_back x r kept o p =
      let k = close_of held s x in
      let b = put_back h k kept r h' o (λ bytes y e. ap record_bytes (close-refused-record held s x y e ∙ is) ∙ bytes-again h bytes long) small p in
      close_says_lem h s x r held h' long is b.0 b.1
