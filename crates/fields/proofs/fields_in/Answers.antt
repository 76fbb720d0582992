-- `fields::fields_in` meets its contract: each field is taken from the definition's bytes, all of which lie within the fourteen.
-- Assumes nothing.
use mathlib.Core.Path.{◌≡◌}
use mathlib.Core.List.{List}
use Prim.Native.Nat.{ℕ, ◌+◌, ◌*◌, ◌/◌, ◌%◌}
use lib.ListN.{get_or}
use Rattle.packet.specs.declared.Packet.{Packet}
use Rattle.packet.specs.Packet.{fields_in}
use Rattle.fields.proofs.fields_in.Goals as goal

-- The fields, of which calls work out five: over plain numbers, since to rewrite in the goal itself takes most of a second.
same :
    (q : List ℕ) (r n l c m : ℕ)
    → r ≡ get_or q 3 0 * 256 + get_or q 4 0
    → n ≡ get_or q 5 0 * 4096 + get_or q 6 0 * 16 + get_or q 7 0 / 16
    → l ≡ get_or q 8 0 * 16 + get_or q 9 0 / 16
    → c ≡ get_or q 9 0 % 16 * 65536 + get_or q 10 0 * 256 + get_or q 11 0
    → m ≡ get_or q 12 0 % 16 * 16 + get_or q 13 0 / 16
    → ◌≡◌ {A = Packet}
    (record {
      resource = r;
      number = n;
      update = get_or q 7 0 % 16;
      length = l;
      count = c;
      kind = get_or q 12 0 / 64;
      protection = get_or q 12 0 / 16 % 4;
      rows = m;
      reserved = get_or q 13 0 % 16;
    })
    (fields_in q)
unfolding fields_in
same q r n l c m e f g h k = rw (e, f, g, h, k)

pub returns : goal.returns
returns c =
    same _ _ _ _ _ _
    c.resource_in.ensures
    c.number_in.ensures
    c.length_in.ensures
    c.count_in.ensures
    c.rows_in.ensures
