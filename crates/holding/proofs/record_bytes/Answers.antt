-- One place more stands; when all eight do, the bytes are the record's.
use mathlib.Core.Path.{◌≡◌}
use native.Mathlib.Omega.{arith}
use borrow.Author.Rules.{rules}
use lib.ListN.{length}
use Rattle.code.proofs.Lists.{length_zeros}
use Rattle.holding.specs.Layout.{record_length, record_bytes}
use Rattle.holding.proofs.RecordLaws.{put_begin, put_step, put_end}
use Rattle.holding.proofs.record_bytes.Goals as goal

pub loop-i-init : goal.loop-i-init
loop-i-init c =
    let eight : length c.args.held.places ≡ 8 = search rules in
    put_begin _ eight _ (length_zeros record_length)

pub loop-i-preserved : goal.loop-i-preserved
loop-i-preserved c =
    let eight : length c.args.held.places ≡ 8 = search rules in
    put_step _ eight _ _ c.loop-i.invariant _ _ (omega arith) c.place_bytes.ensures c.copy_in.ensures

pub returns : goal.returns
unfolding record_bytes
returns c =
    let eight : length c.args.held.places ≡ 8 = search rules in
    put_end _ eight _ _ c.loop-i.invariant (omega arith)
