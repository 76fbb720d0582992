-- One result (document 01, section 7): what it is that a contract determines the result of its call and all lent memory afterwards.
-- Assumes nothing.
use Rattle.std.specs.Prelude.{◌≡◌}
use contract.Lifetimes.{Lfts}
use denote.Triple.Entry.{Args, Res}
use denote.Triple.Clauses.{Ended, Lasts, AtExit, at_exit}

-- what a contract says of the arguments, the result and the arguments at exit; T is the call's signature
abbrev pub Ensures : Ended → Type 1
Ensures T = (κs : Lfts T.signature.lifetimes) → Args T.signature κs → Res T.signature κs → AtExit T κs → Type 0

-- of the same arguments two results r and s that it allows are equal, and so are d and e, all that they leave in what was lent to be changed
abbrev pub OneResult : (T : Ended) → Ensures T → Type 0
OneResult T P =
    (κs : Lfts T.signature.lifetimes) (a : Args T.signature κs) (r s : Res T.signature κs) (d e : Lasts T κs a)
    → P κs a r (at_exit T κs a d) → P κs a s (at_exit T κs a e) → (r ≡ s) × (d ≡ e)
