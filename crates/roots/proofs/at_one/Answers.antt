-- `roots::at_one` adds the coefficients, each of which counts once at 1.
-- Assumes nothing.
use Rattle.std.proofs.Common.{rules, ◌≡◌, ◌<◌, ℕ, List, get_or}
use Rattle.std.specs.List.{fold}
use lib.Bits.{bit_xor}
use Rattle.roots.proofs.Values.{fold_value}
use Rattle.roots.proofs.at_one.Goals as goal

pub returns : goal.returns
returns c =
    let v : List ℕ = c.args.v in
    let added : c.fold.result ≡ fold bit_xor 0 v = search rules in
    let fit : (i : ℕ) → get_or v i 0 < 256 = λ i. search rules in
    fold_value v c.fold.result fit added
