-- What came is written; where no slot is empty that is the file. Else what is lost is put in, and both are all there is.
-- Assumes nothing.
use Rattle.columns.proofs.Whole.{surveyed, known_written, both-written}
use Rattle.restoring.proofs.write.write_file.Goals as goal

pub unwrap-seen-requires : goal.unwrap-seen-requires
unwrap-seen-requires c = surveyed c.args.p c.args.store.now c.args.n c.requires.0 _ c.survey.ensures

pub returns-then-seen-p : goal.returns-then-seen-p
returns-then-seen-p c =
    known_written c.args.p c.args.store.now c.args.n c.requires.0 _ _ c.survey.ensures c.unwrap-seen.ensures c.if-seen-p.true
    c.args.out.now _ c.write_known.ensures c.requires.1

pub returns : goal.returns
returns c =
    both-written c.args.p c.args.store.now c.args.n c.requires.0 c.args.out.now _ _ c.write_known.ensures
    c.restore_rows.ensures c.requires.1
