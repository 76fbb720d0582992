-- The roots of a locator that is not zero are at most eight different places (crate roots), and they are all of them.
-- Assumes nothing.
use mathlib.Core.Path.{◌≡◌}
use mathlib.Core.Logic.{◌≢◌}
use mathlib.Core.List.{List}
use Prim.Native.Nat.{ℕ, ◌≤◌, ◌<◌}
use native.Mathlib.Omega.{arith}
use lib.ListN.{length, get_or}
use Rattle.code.proofs.Lists.{bytes_of}
use Rattle.roots.specs.declared.Roots.{Roots}
use Rattle.roots.specs.Roots.{roots_of}
use Rattle.roots.proofs.Bound.{AllRoots, all_roots}
use Rattle.errata.specs.InnerErrata.{Ordered, Placed, Rooted}

-- places in increasing order are different ones
pub ordered-placed : {n : ℕ} {at : List ℕ} → Ordered n at → Placed n at
ordered-placed {n} {at} ordered =
    let few : n ≤ 8 = ordered.few in
    record { few = omega arith; below = ordered.below; apart = λ k l h b x. omega (arith, ordered.rising k l h b) }

of_all : {v : List ℕ} {n : ℕ} {at : List ℕ} → length v ≡ 9 → AllRoots v n at → Rooted v n at
of_all {v} {n} {at} long r =
    let few : n < length v = r.few in
    let ordered : Ordered n at = record { few = omega arith; below = r.below; rising = r.rising } in
    record { ordered = ordered; placed = ordered-placed ordered; all = r.all }

pub rooted : (v : List ℕ) (top : ℕ) → length v ≡ 9 → ((i : ℕ) → get_or v i 0 < 256) → get_or v top 0 ≢ 0 → (r : Roots) → r ≡ roots_of v → Rooted v r.n r.at
rooted v top long fit some r e =
    rw e
    (of_all long (all_roots v top (bytes_of v fit) some (omega arith)))
