-- `register::put` writes one word behind the other.
-- Assumes nothing.
use mathlib.Core.Path.{ap, ◌∙◌}
use mathlib.Core.List.{List}
use Prim.Native.Nat.{ℕ, ◌+◌}
use lib.Seq.{sets}
use Rattle.encoding.specs.InnerRegister.{unpack}
use Rattle.encoding.proofs.Bytes.{put_both}
use Rattle.encoding.proofs.register.put.Goals as goal

pub returns : goal.returns
returns c =
    let s = c.args in
    c.put_word-2.ensures
    ∙ ap (λ (l : List ℕ). sets l (s.at + 8) (unpack 8 s.r.l)) c.put_word.ensures
    ∙ put_both s.out.now s.at s.r.h s.r.l
