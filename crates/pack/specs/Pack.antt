-- Packing: document 01, section 4, with the spare bits of the edition (document 02, R-9) and by rows or by columns (R-8), and the refusals 17, 23, 25, 6, 26 in that order (section 6).
-- Assumes nothing.
use Rattle.std.specs.Prelude.{◌≡◌, cond, not, ◌||◌, List, ◌++◌, ℕ, ◌+◌, ◌*◌, eqb, leb, ltb, length, take, drop}
use Rattle.ground.specs.Lists.{ceil}
use Rattle.refusals.specs.declared.Refusal.{Refusal}
use Rattle.refusals.specs.declared.Refusal.TheVariants.{Number, Field, Size, Count, Output}
use Rattle.packet.specs.declared.Packet.{Packet}
use Rattle.settings.specs.declared.Settings.{Settings}
use Rattle.packet.specs.Packet.{header_of}
use Rattle.packet.specs.Edition.{spare_of}
use Rattle.sealing.specs.Sealing.{sealed}
use Rattle.settings.specs.Settings.{settings_fit, rows_sent}
use Rattle.layout.specs.Layout.{tables_of, coded_file}
use Rattle.std.specs.Prelude.{Result}
use Rattle.std.specs.Prelude.{Ok, Err}

-- the longest file
abbrev pub largest_file : ℕ
largest_file = 16777216

-- the coded length C of a file of n bytes
abbrev pub coded_length : Settings → ℕ → ℕ
coded_length g n = cond (eqb g.protection 0) n (255 * g.rows * tables_of g.rows n)

-- the count N of its packets
abbrev pub count_of : Settings → ℕ → ℕ
count_of g n = ceil (coded_length g n) g.size

-- what is sent: the file itself, or its coded tables in the order of the settings
unfoldable pub sent_of : Settings → List ℕ → List ℕ
sent_of g file = cond (eqb g.protection 0) file (coded_file g.order g.rows file)

-- the payload of packet n: P bytes, and what is left in the last
unfoldable pub payload_of : Settings → List ℕ → ℕ → List ℕ
payload_of g file n = take g.size (drop (n * g.size) (sent_of g file))

-- the fields of packet n, with a payload of k bytes
abbrev pub fields_for : Settings → ℕ → ℕ → ℕ → Packet
fields_for g count n k = record {
  resource = g.resource;
  number = n;
  update = g.update;
  length = 14 + k + 4;
  count = count;
  kind = g.kind;
  protection = g.protection;
  rows = rows_sent g;
  reserved = (spare_of g.edition).reserved;
}

-- its header
unfoldable pub header_for : Settings → ℕ → ℕ → ℕ → List ℕ
header_for g count n k = header_of (fields_for g count n k)

-- packet n of a file
unfoldable pub packet_of : Settings → List ℕ → ℕ → List ℕ
packet_of g file n =
    sealed (header_for g (count_of g (length file)) n (length (payload_of g file n)) ++ payload_of g file n)

-- what packing answers, and what the output then holds
pub record Packing : Type 0 where
  pub answer : Result ℕ Refusal
  pub output : List ℕ

abbrev pub refusing : Refusal → List ℕ → Packing
refusing r out = record { answer = Err r; output = out }

-- a packet at the start of the output, the rest of it unchanged; refused where the output is too short
unfoldable pub written : List ℕ → List ℕ → Packing
written q out =
    cond (ltb (length out) (length q)) (refusing Output out)
    (record { answer = Ok (length q); output = q ++ drop (length q) out })

unfoldable pub pack_of : List ℕ → Settings → ℕ → List ℕ → Packing
pack_of file g n out =
    cond (not (settings_fit g)) (refusing Field out)
    (cond (eqb (length file) 0 || ltb largest_file (length file)) (refusing Size out)
    (cond (ltb 1048575 (count_of g (length file))) (refusing Count out)
    (cond (leb (count_of g (length file)) n) (refusing Number out) (written (packet_of g file n) out))))

-- a call answered, and left the output, as p says
pub record Packs (p : Packing) (r : Result ℕ Refusal) (out : List ℕ) : Type 0 where
  pub answer : r ≡ p.answer
  pub output : out ≡ p.output
