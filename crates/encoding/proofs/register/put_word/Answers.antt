-- `register::put_word` copies the bytes of a word, the top one first, over those that stand there.
-- Assumes nothing.
use Rattle.std.proofs.Common.{◌∙◌}
use Rattle.encoding.proofs.Bytes.{bytes_of, put_back}
use Rattle.encoding.proofs.register.put_word.Goals as goal

pub returns : goal.returns
returns c =
    put_back c.args.out.now _ c.args.at c.args.w c.requires
    (c.copy_from_slice.ensures.after ∙ c.to_be_bytes.ensures ∙ bytes_of c.args.w)
