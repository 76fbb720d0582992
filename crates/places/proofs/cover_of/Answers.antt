-- `places::cover_of` meets its contract: it computes the definition, and a u32 times a u16 and two more is far below 2^64.
-- Assumes nothing.
use Prim.Native.Nat.{◌+◌, ◌≤◌, ◌^◌}
use native.Mathlib.Nat.{mul-le-mul}
use native.Mathlib.Omega.{arith}
use Rattle.places.proofs.cover_of.Goals as goal

pub overflow_add-result : goal.overflow_add-result
overflow_add-result c = omega arith

pub overflow_mul-result : goal.overflow_mul-result
overflow_mul-result c =
    let a : c.args.count ≤ 2 ^ 32 = omega arith in
    let b : c.args.size + 2 ≤ 2 ^ 17 = omega arith in
    omega (arith, mul-le-mul a b)

pub returns : goal.returns
returns c = omega arith
