-- What counts as noise in demand 3: an input that is refused as its fields are read (1 to 8), or at the file's place whatever the store holds (11 to 14), brings nothing.
-- Assumes nothing.
use mathlib.Core.Path.{◌≡◌, sym, ap, ◌∙◌}
use mathlib.Core.Bool.{Bool, not}
use mathlib.Core.List.{List}
use Prim.Native.Nat.{ℕ}
use native.Mathlib.Omega.{arith}
use lib.Dec.{eqb}
use lib.ListN.{length}
use Rattle.refusals.specs.declared.Refusal.{Refusal}
use Rattle.packet.specs.declared.Packet.{Packet}
use Rattle.settings.specs.declared.Settings.{Settings}
use Rattle.packet.specs.Packet.{read_by}
use Rattle.pack.specs.Pack.{count_of}
use Rattle.places.specs.Places.{place_of}
use Rattle.record.specs.Offer.{judge, put, refuse}
use Rattle.record.proofs.OfferFacts.{read_alike}
use Rattle.promises.specs.Statements.{BringsNoOther}
use Rattle.std.specs.Prelude.{Ok, Err}

module _ (g : Settings) (file q : List ℕ) (r : Refusal) where
  pub unread_is_noise : read_by (not (eqb g.order 1)) q ≡ Err r → BringsNoOther g file q
  unread_is_noise e f s n b m j = let z : Err r ≡ Ok f = sym e ∙ s in let y : ◌≡◌ {A = ℕ} 0 1 = cc in absurd (omega arith)

  -- whether or not its rows are judged as it is read
  pub refused_is_noise : (rows : Bool) (f : Packet) → read_by rows q ≡ Ok f → judge (place_of g (count_of g (length file)) 0) f q ≡ refuse r → BringsNoOther g file q
  refused_is_noise rows f s e k t n b m j =
      let same : f ≡ k = read_alike rows (not (eqb g.order 1)) q f k s t in
      let y : refuse r ≡ put n b m = sym e ∙ ap (λ (x : Packet). judge (place_of g (count_of g (length file)) 0) x q) same ∙ j in
      let w : ◌≡◌ {A = ℕ} 0 1 = cc in
      absurd (omega arith)
