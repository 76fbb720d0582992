-- `seal` meets its contract: what is stored behind the first n bytes are the four bytes of what `crc32` gives.
-- Assumes nothing.
use mathlib.Core.Path.{◌≡◌, sym, ap, ◌∙◌}
use Prim.Native.Nat.{ℕ}
use native.Mathlib.Omega.{arith}
use borrow.Author.Rules.{rules}
use lib.Seq.{sets}
use Rattle.ground.proofs.Writing.{put_whole}
use Rattle.sealing.specs.Sealing.{four_bytes}
use Rattle.sealing.proofs.Laws.{seal_told, seal_served, seal_refused}
use Rattle.sealing.proofs.seal.Goals as goal

pub returns-then-len-lt-CRC : goal.returns-then-len-lt-CRC
returns-then-len-lt-CRC c = seal_refused _ _ (omega arith)

pub returns-then-len-n : goal.returns-then-len-n
returns-then-len-n c = seal_refused _ _ (omega arith)

pub returns : goal.returns
returns c =
    let a = c.args in
    let bytes : c.copy_from_slice.new.self ≡ four_bytes c.crc32-sum.result = search rules in (
      seal_served _ _ (omega arith),
      put_whole a.out.now _ a.n _ (search rules) (omega arith) ∙ ap (sets a.out.now a.n) bytes
          ∙ ap (λ (v : ℕ). sets a.out.now a.n (four_bytes v)) c.crc32-sum.ensures ∙ sym (seal_told a.out.now a.n (omega arith)),
    )
