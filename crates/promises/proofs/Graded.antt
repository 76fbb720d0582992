-- What is told of a copy is how many bytes of it are altered: while its file is collected, its slot is empty or holds its payload, and the copy is judged to be that payload,
-- mended where it was altered. Assumes nothing.
use mathlib.Core.Path.{◌≡◌, ap, ◌∙◌}
use mathlib.Core.Logic.{◌⊎◌, ⊎_map}
use mathlib.Core.List.{List}
use Prim.Native.Nat.{ℕ, ◌<◌}
use native.Mathlib.Omega.{arith}
use lib.ListN.{length}
use Rattle.settings.specs.declared.Settings.{Settings}
use Rattle.pack.specs.Pack.{count_of, payload_of}
use Rattle.pack.proofs.Laws.{fields_of}
use Rattle.places.specs.declared.Place.{Place}
use Rattle.contents.specs.Contents.{contents}
use Rattle.record.specs.declared.Offered.{Offered}
use Rattle.record.specs.declared.Offered.TheVariants.{Stored, Repeat}
use Rattle.record.specs.Offer.{Judged, judge, offer_of}
use Rattle.record.specs.Told.{offered_told}
use Rattle.record.proofs.OfferLaws.{answered, answer-after, offer-answer}
use Rattle.promises.specs.Calls.{Answer, telling, State, step, fresh}
use Rattle.promises.specs.Statements.{bytes_altered, Protected, Copy, Graded, MendedIsAltered, GradedFromFresh}
use Rattle.promises.proofs.Judged.{copy-judged}
use Rattle.promises.proofs.Demand.{Collecting, own, copy_reads_there, fair-run, begun}
use Rattle.promises.proofs.Fresh.{opens}
use Rattle.refusals.specs.declared.Refusal.{Refusal}
use Rattle.std.specs.Prelude.{Ok, Result}

module _ (g : Settings) (file : List ℕ) (p : Protected g file) (i start : ℕ) (x : State) (c : Collecting g file p i start x) where
  module _ (n : ℕ) (below : n < count_of g (length file)) (q : List ℕ) (cp : Copy g file n q) where
    abbrev mended : ℕ
    mended = bytes_altered q (payload_of g file n)

    answers : ((offer_of x.held x.store q).answer ≡ Ok (Stored mended)) ⊎ ((offer_of x.held x.store q).answer ≡ Ok (Repeat mended))
    answers =
        let said : (offer_of x.held x.store q).answer ≡ answered (judge (own g file p i start) (fields_of g file n) q) (contents (own g file p i start) x.store) =
        offer-answer x.held x.store q c.sound (fields_of g file n) (copy_reads_there g file p i start n below q cp x c) i c.named
        ∙ ap (λ (o : Place). answered (judge o (fields_of g file n) q) (contents o x.store)) c.place in
        let judged = said ∙ ap (λ (j : Judged). answered j (contents (own g file p i start) x.store)) (copy-judged g file p n below q cp start) in
        ⊎_map (λ e. judged ∙ e) (λ e. judged ∙ e) (answer-after (contents (own g file p i start) x.store) n (payload_of g file n) mended (c.slots n below))

  graded : Graded step g file x
  unfolding step
  graded n below q cp =
      ⊎_map (ap (λ (a : Result Offered Refusal). telling (offered_told a))) (ap (λ (a : Result Offered Refusal). telling (offered_told a))) (answers n below q cp)

pub mended_is_altered : MendedIsAltered step
mended_is_altered g file p x answer cs fair =
    let b = begun g file p x answer in
    graded g file p b.0 b.1 _ (fair-run g file p b.0 b.1 fair _ b.2).collecting

pub graded_from_fresh : GradedFromFresh step
graded_from_fresh g file p s room cs fair =
    mended_is_altered g file p (fresh s) (ap (λ (a : Answer). a.told.number) (opens g file p s room.0 (omega (arith, room.1)))) cs fair
