-- Label, short value, part and LF are written each where the one before it ends.
use mathlib.Core.Path.{◌≡◌}
use native.Mathlib.Omega.{arith}
use lib.ListN.{length}
use Rattle.composing.proofs.LineLaws.{line-put}
use borrow.Author.Rules.{rules}
use Rattle.composing.proofs.put_line.Goals as goal

pub returns : goal.returns
returns c =
    let nineteen : length c.args.v.bytes ≡ 19 = search rules in
    let a = c.args in (
      omega arith,
      line-put a.text.now a.k a.at a.v a.out.now _ _ _ _ (omega (arith, nineteen, c.requires)) c.requires.2 c.label-front.ensures
          c.copy_in.ensures c.copy_in-2.ensures c.copy_in-3.ensures,
    )
