-- What a function of the face says, from what the call that it stands for says: rows and fields.
-- Assumes nothing.
use mathlib.Core.Path.{◌≡◌, refl, sym, ap, ◌∙◌}
use mathlib.Core.Bool.{Bool, true, false}
use mathlib.Core.List.{List}
use Prim.Native.Nat.{ℕ, ◌*◌, ◌<◌, ◌≤◌}
use native.Mathlib.Omega.{arith}
use borrow.Author.Tests.{lt-ltb, le-ltb, eq-eqb, ne_eqb}
use lib.ListN.{length}
use lib.Dec.{eqb, ltb}
use lib.Seq.{sets}
use Rattle.ground.proofs.Writing.{sets-front}
use Rattle.refusals.specs.declared.Refusal.{Refusal}
use Rattle.refusals.specs.declared.Refusal.TheVariants.{Output}
use Rattle.refusals.specs.Refusals.{number_of}
use Rattle.encoding.specs.declared.Encoded.{Encoded}
use Rattle.single.specs.declared.Corrected.{Corrected}
use Rattle.encoding.specs.Encode.{encode_of}
use Rattle.single.specs.Single.{repair_row_of}
use Rattle.packet.specs.declared.Packet.{Packet}
use Rattle.packet.specs.Packet.{read_by}
use Rattle.refusals.specs.Told.{refused_as, verdict_told}
use Rattle.refusals.proofs.Told.{number_not_0}
use Rattle.packet.specs.Told.{field_list}
use Rattle.face.specs.Face.{Said, Says, answer_of, puts, puts_if, valued, encode_says, repaired_says, repair_says, reading_says, read_says}
use Rattle.std.specs.Prelude.{Result}
use Rattle.std.specs.Prelude.{Ok, Err}

-- the same said in another way
pub says_as : {p q : Said} {r : ℕ} {out : List ℕ} → p ≡ q → Says p r out → Says q r out
says_as e s = record { answers = s.answers ∙ ap (λ (x : Said). x.answer) e; leaves = s.leaves ∙ ap (λ (x : Said). x.output) e }

module _ (b out : List ℕ) where
  pub puts-short : (r : ℕ) → length out < length b → r ≡ answer_of (refused_as Output) → Says (puts b out) r out
  unfolding puts
  puts-short r h e = let t : ltb (length out) (length b) ≡ true = lt-ltb (length out) (length b) h in record { answers = rw t e; leaves = rw t }

  pub puts-fits : (x : List ℕ) → length b ≤ length out → x ≡ sets out 0 b → Says (puts b out) 0 x
  unfolding puts
  puts-fits x h e =
      let t : ltb (length out) (length b) ≡ false = le-ltb (length out) (length b) h in
      record { answers = rw t; leaves = rw t (e ∙ sets-front out b h) }

pub refused-puts : (z : Refusal) (b out : List ℕ) (r : ℕ) → r ≡ answer_of (refused_as z) → Says (puts_if (refused_as z) b out) r out
unfolding puts_if
refused-puts z b out r e = let t : eqb (number_of z) 0 ≡ false = ne_eqb (number_of z) 0 (number_not_0 z) in record { answers = rw t e; leaves = rw t }

module _ (v : Result (Unit {0}) Refusal) (b out : List ℕ) (r : ℕ) where
  pub puts_accepted : (x : List ℕ) → v ≡ (Ok tt) → Says (puts b out) r x → Says (puts_if (verdict_told v) b out) r x
  unfolding puts_if
  puts_accepted x e s = says_as (ap (λ (w : Result (Unit {0}) Refusal). puts_if (verdict_told w) b out) (sym e)) s

  pub puts-refused : (z : Refusal) → v ≡ Err z → r ≡ answer_of (refused_as z) → Says (puts_if (verdict_told v) b out) r out
  puts-refused z e s = says_as (ap (λ (w : Result (Unit {0}) Refusal). puts_if (verdict_told w) b out) (sym e)) (refused-puts z b out r s)

pub encode_says_lem : (info out : List ℕ) (r : ℕ) (x : List ℕ) (made : Encoded) → made ≡ encode_of info → Says (puts_if (verdict_told made.verdict) made.checks out) r x → Says (encode_says info out) r x
unfolding encode_says
encode_says_lem info out r x made e s = says_as (ap (λ (m : Encoded). puts_if (verdict_told m.verdict) m.checks out) e) s

-- a row that was repaired is put, with its count as the value; a refusal is answered
module _ (row out : List ℕ) (r : ℕ) where
  repaired_as : (a b : Result Corrected Refusal) (x : List ℕ) → a ≡ b → Says (repaired_says b out) r x → Says (repaired_says a out) r x
  repaired_as a b x e s = says_as (ap (λ (y : Result Corrected Refusal). repaired_says y out) (sym e)) s

  pub repair_put : (m : Corrected) (a : ℕ) (x : List ℕ) → repair_row_of row ≡ Ok m → Says (puts m.row out) a x → r ≡ valued m.count a → Says (repair_says row out) r x
  unfolding repair_says
  repair_put m a x e s v = repaired_as (repair_row_of row) (Ok m) x e (record { answers = v ∙ ap (valued m.count) s.answers; leaves = s.leaves })

  pub repair_refused : (z : Refusal) → repair_row_of row ≡ Err z → r ≡ answer_of (refused_as z) → Says (repair_says row out) r out
  unfolding repair_says
  repair_refused z e s = repaired_as (repair_row_of row) (Err z) out e (record { answers = s; leaves = refl })

-- an answer with a value, and one that is a refusal already
pub valued_accepted : (v a : ℕ) → a ≡ 0 → valued v a ≡ 256 * v
unfolding valued
valued_accepted v a e = rw (eq-eqb a 0 e) (omega arith)

pub valued-refused : (v a : ℕ) → (a ≡ 0 → ⊥) → valued v a ≡ a
unfolding valued
valued-refused v a e = rw (ne_eqb a 0 e) refl

-- what was read is put; a refusal is answered
module _ (a : Result Packet Refusal) (out : List ℕ) (r : ℕ) where
  pub read_sent : (x : List ℕ) (f : Packet) → a ≡ Ok f → Says (puts (field_list f) out) r x → Says (reading_says a out) r x
  unfolding puts_if
  read_sent x f e s = says_as (ap (λ (y : Result Packet Refusal). reading_says y out) (sym e)) s

  pub read-refused : (z : Refusal) → a ≡ Err z → r ≡ answer_of (refused_as z) → Says (reading_says a out) r out
  read-refused z e s = says_as (ap (λ (y : Result Packet Refusal). reading_says y out) (sym e)) (refused-puts z _ out r s)

pub reads_as : (rows : Bool) (q out : List ℕ) (a : Result Packet Refusal) (r : ℕ) (x : List ℕ) → a ≡ read_by rows q → Says (reading_says a out) r x → Says (read_says rows q out) r x
unfolding read_says
reads_as rows q out a r x e s = says_as (ap (λ (y : Result Packet Refusal). reading_says y out) e) s
