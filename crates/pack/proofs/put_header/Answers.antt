-- `pack::put_header` meets its contract: it stores, from the front, the fourteen bytes that `header` gives for the packet's fields.
-- Assumes nothing.
use mathlib.Core.Path.{ap, ap₂, ◌∙◌}
use mathlib.Core.List.{List}
use Prim.Native.Nat.{ℕ, ◌+◌}
use lib.Seq.{sets}
use Rattle.packet.specs.declared.Spare.{Spare}
use Rattle.packet.specs.Packet.{header_of}
use Rattle.pack.specs.Pack.{header_for}
use Rattle.pack.proofs.put_header.Goals as goal

pub returns : goal.returns
unfolding header_for
returns c =
    let a = c.args in
    let g = a.settings in
    c.copy_in.ensures
    ∙ ap (λ (x : List ℕ). sets a.out.now 0 x)
    (c.header-head.ensures
    ∙ ap₂ (λ (m : ℕ) (r : ℕ). header_of (record {
      resource = g.resource;
      number = a.number;
      update = g.update;
      length = 14 + a.size + 4;
      count = a.count;
      kind = g.kind;
      protection = g.protection;
      rows = m;
      reserved = r;
    }))
    c.rows_sent.ensures
    (ap (λ (s : Spare). s.reserved) c.spare_of.ensures))
