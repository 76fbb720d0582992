-- The rows of the tables before row q, and those before it in its own (`start_modulo`).
use Prim.Native.Nat.{◌^◌}
use Rattle.layout.proofs.Spans.{start_modulo}
use Rattle.layout.proofs.row_start.Goals as goal

pub returns : goal.returns
returns c = start_modulo c.args.m c.args.q (2 ^ 64)
