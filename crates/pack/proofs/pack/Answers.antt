-- `pack::pack` meets its contract: packing answers as the plan says, and the packet that the plan goes on with is written by `put_packet`.
-- Assumes nothing.
use mathlib.Core.Path.{sym, ◌∙◌}
use lib.ListN.{length}
use Rattle.std.proofs.lemmas.Result.{err_from_is_err_and}
use Rattle.pack.proofs.Plans.{packs_stop, packs_go, planned}
use Rattle.pack.proofs.pack.Goals as goal

pub put_packet-requires : goal.put_packet-requires
put_packet-requires c =
    let a = c.args in
    let p = planned a.settings (length a.file.now) a.number _ _ (sym c.judge.ensures ∙ c.in_ok-count.was) in
    (p.1.1, p.0, p.1.0)

pub returns-in_err-count : goal.returns-in_err-count
returns-in_err-count c =
    let a = c.args in
    let p = err_from_is_err_and c.from_residual.result c.from_residual.ensures.1 in
    rw (p.1, p.2) (packs_stop a.file.now a.settings a.number a.out.now _ (sym c.judge.ensures ∙ c.in_err-count.was))

pub returns : goal.returns
returns c =
    let a = c.args in
    packs_go a.file.now a.settings a.number a.out.now _ _ _ _ (sym c.judge.ensures ∙ c.in_ok-count.was) c.put_packet.ensures
