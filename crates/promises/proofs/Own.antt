-- The packets of a file are copies of themselves, so offered in order they carry it, also before and behind other fair calls.
-- Assumes nothing.
use mathlib.Core.Path.{◌≡◌, refl, sym, subst}
use mathlib.Core.Logic.{◌⊎◌, inl, inr}
use mathlib.Core.List.{List, [], ◌∷◌, ◌++◌, map}
use Prim.Native.Nat.{ℕ, zero, suc, ◌+◌, ◌≤◌, ◌<◌}
use native.Mathlib.Nat.{eq-or-lt_of_le}
use native.Mathlib.Omega.{arith}
use lib.ListN.{length}
use Rattle.ground.specs.Lists.{listed}
use Rattle.code.proofs.Distance.{distance_self}
use Rattle.settings.specs.declared.Settings.{Settings}
use Rattle.pack.specs.Pack.{count_of, packet_of}
use Rattle.pack.proofs.Laws.{packet_bytes}
use Rattle.promises.specs.Calls.{Call}
use Rattle.promises.specs.Calls.Call.{offering}
use Rattle.promises.specs.Statements.{Protected, row_in, Copy, Fair, AllFair, Offers, Carries, SomeCarry}

-- packets that are fair one by one, offered in order
module _ (g : Settings) (file : List ℕ) (packets : ℕ → List ℕ) (n : ℕ) (each : (i : ℕ) → i < n → Fair g file (offering (packets i))) where
  -- k of them from packet i on
  pub fair_from : (k i : ℕ) → i + k ≤ n → AllFair g file (map offering (listed packets k i))
  fair_from zero i l = AllFair.ended
  fair_from (suc k) i l = AllFair.next (each i (omega arith)) (fair_from k (suc i) (omega arith))

  pub fair_each : AllFair g file (map offering (listed packets n 0))
  fair_each = fair_from n 0 (omega arith)

module _ (g : Settings) (file : List ℕ) (p : Protected g file) where
  pub whole_copy : (n : ℕ) → n < count_of g (length file) → Copy g file n (packet_of g file n)
  whole_copy n l = record {
    bytes = packet_bytes g file n p.fit p.count l p.bytes;
    sized = refl;
    header = refl;
    crc = refl;
    rows = λ i. omega (arith, distance_self (row_in (packet_of g file n) i));
    as_sent = λ o. refl;
  }

  -- k packets from packet i on
  pub own_offers : (n k i : ℕ) → i ≤ n → n < i + k → n < count_of g (length file) → Offers g file n (map offering (listed (packet_of g file) k i))
  own_offers n zero i a b l = absurd (omega arith)
  own_offers n (suc k) i a b l = by (eq-or-lt_of_le a) (λ (c : i < n). own_offers n k (suc i) c (omega arith) l)
    where
      by : (i ≡ n) ⊎ (i < n) → (i < n → Offers g file n (map offering (listed (packet_of g file) k (suc i))))
          → Offers g file n (map offering (listed (packet_of g file) (suc k) i))
      by (inl e) later = Offers.here (subst (λ (x : ℕ). Copy g file n (packet_of g file x)) (sym e) (whole_copy n l))
      by (inr c) later = Offers.later (later c)

pub some_carry : SomeCarry
some_carry g file p = record {
  fair = fair_each g file (packet_of g file) (count_of g (length file)) (λ i l. Fair.copy i (packet_of g file i) l (whole_copy g file p i l));
  every = λ n l. own_offers g file p n (count_of g (length file)) 0 (omega arith) (omega arith) l;
}

-- ---- before and behind other calls

fair_join : (g : Settings) (file : List ℕ) {cs ds : List Call} → AllFair g file cs → AllFair g file ds → AllFair g file (cs ++ ds)
fair_join g file AllFair.ended e = e
fair_join g file (AllFair.next f fs) e = AllFair.next f (fair_join g file fs e)

offers_before : (g : Settings) (file : List ℕ) (n : ℕ) {cs : List Call} (ds : List Call) → Offers g file n cs → Offers g file n (cs ++ ds)
offers_before g file n ds (Offers.here c) = Offers.here c
offers_before g file n ds (Offers.later o) = Offers.later (offers_before g file n ds o)

offers_behind : (g : Settings) (file : List ℕ) (n : ℕ) (cs : List Call) {ds : List Call} → Offers g file n ds → Offers g file n (cs ++ ds)
offers_behind g file n [] o = o
offers_behind g file n (c ∷ cs) o = Offers.later (offers_behind g file n cs o)

-- the packets of a file, as offers
abbrev pub own : Settings → List ℕ → List Call
own g file = map offering (listed (packet_of g file) (count_of g (length file)) 0)

module _ (g : Settings) (file : List ℕ) (p : Protected g file) where
  pub own-before : {ds : List Call} → AllFair g file ds → Carries g file (own g file ++ ds)
  own-before {ds} f = record {
    fair = fair_join g file (some_carry g file p).fair f;
    every = λ n l. offers_before g file n ds ((some_carry g file p).every n l);
  }

  pub own_behind : {cs : List Call} → AllFair g file cs → Carries g file (cs ++ own g file)
  own_behind {cs} f = record {
    fair = fair_join g file f (some_carry g file p).fair;
    every = λ n l. offers_behind g file n cs ((some_carry g file p).every n l);
  }
