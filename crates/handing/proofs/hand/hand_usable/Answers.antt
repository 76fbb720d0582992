-- The pass over the lengths rules out the refusals 15 and 21 and gives the joined length; then every slot is filled. Without protection the refusals 23 and 26
-- are ruled out, in this order, and the payloads are the file.
use mathlib.Core.Path.{◌≡◌, sym, ◌∙◌}
use mathlib.Core.List.{List}
use Prim.Native.Nat.{ℕ}
use native.Mathlib.Omega.{arith}
use Rattle.std.specs.Prelude.{Some, None}
use Rattle.std.proofs.lemmas.Result.{err_from_is_err_and}
use Rattle.refusals.specs.declared.Refusal.TheVariants.{Slot}
use Rattle.contents.specs.Contents.{contents, joined}
use Rattle.standing.proofs.SurveyLaws.{Tallied, seen_right, seen_not}
use Rattle.handing.specs.Hand.{hand_joined, hand_contents}
use Rattle.columns.proofs.HandLaws.{comes_from}
use Rattle.handing.proofs.HandCases.{plain_size, plain-output, plain-file, joined-rows, contents-slot, contents_missing, contents-full}
use Rattle.handing.proofs.hand.hand_usable.Goals as goal

pub returns-in_err-seen : goal.returns-in_err-seen
returns-in_err-seen c =
    let none : c.survey.result ≡ None = grind arith in
    let refused : c.in_err-seen.field-0.0 ≡ Slot = grind arith in
    let p = err_from_is_err_and c.from_residual.result c.from_residual.ensures.1 in
    rw (p.1, p.2, refused) (contents-slot _ _ _ _ (seen_not _ _ c.requires.ends _ c.survey.ensures none))

pub returns-then-seen-p : goal.returns-then-seen-p
returns-then-seen-p c =
    let some : c.survey.result ≡ Some c.in_ok-seen.seen = grind arith in
    let tallied : Tallied c.args.p (contents c.args.p c.args.store.now) c.in_ok-seen.seen = seen_right _ _ c.requires.ends _ _ c.survey.ensures some in
    let t = tallied in contents_missing _ _ _ _ t.right c.requires.by_rows _ (t.some c.if-seen-p.true)

pub hand_rows-requires : goal.hand_rows-requires
hand_rows-requires c =
    let some : c.survey.result ≡ Some c.in_ok-seen.seen = grind arith in
    let tallied : Tallied c.args.p (contents c.args.p c.args.store.now) c.in_ok-seen.seen = seen_right _ _ c.requires.ends _ _ c.survey.ensures some in
    let t = tallied in
    let u = c.requires in
    let d = c.if-p-ne0.true in
    (record { filled = record { ends = u.ends; right = t.right }; protected = d; by_rows = u.by_rows; least = u.rows d }, t.bytes)

pub returns-then-p-ne0 : goal.returns-then-p-ne0
returns-then-p-ne0 c =
    let some : c.survey.result ≡ Some c.in_ok-seen.seen = grind arith in
    let tallied : Tallied c.args.p (contents c.args.p c.args.store.now) c.in_ok-seen.seen = seen_right _ _ c.requires.ends _ _ c.survey.ensures some in
    let full : (n : ℕ) (out : List ℕ)
    → hand_contents c.args.p (contents c.args.p c.args.store.now) n out
    ≡ hand_joined c.args.p (joined (contents c.args.p c.args.store.now)) n out = λ n out. let t = tallied in contents-full _ _ n out t.right c.requires.by_rows (t.none c.if-seen-p.false) in
    comes_from (full _ _ ∙ joined-rows _ _ _ _ c.if-p-ne0.true) c.hand_rows.ensures

pub returns-then-differs : goal.returns-then-differs
returns-then-differs c =
    let some : c.survey.result ≡ Some c.in_ok-seen.seen = grind arith in
    let tallied : Tallied c.args.p (contents c.args.p c.args.store.now) c.in_ok-seen.seen = seen_right _ _ c.requires.ends _ _ c.survey.ensures some in
    let full : (n : ℕ) (out : List ℕ)
    → hand_contents c.args.p (contents c.args.p c.args.store.now) n out
    ≡ hand_joined c.args.p (joined (contents c.args.p c.args.store.now)) n out = λ n out. let t = tallied in contents-full _ _ n out t.right c.requires.by_rows (t.none c.if-seen-p.false) in
    comes_from (full _ _) (plain_size _ _ _ _ c.if-p-ne0.false (λ e. c.if-differs.true (e ∙ sym tallied.bytes)))

pub returns-then-out-bytes : goal.returns-then-out-bytes
returns-then-out-bytes c =
    let some : c.survey.result ≡ Some c.in_ok-seen.seen = grind arith in
    let tallied : Tallied c.args.p (contents c.args.p c.args.store.now) c.in_ok-seen.seen = seen_right _ _ c.requires.ends _ _ c.survey.ensures some in
    let full : (n : ℕ) (out : List ℕ)
    → hand_contents c.args.p (contents c.args.p c.args.store.now) n out
    ≡ hand_joined c.args.p (joined (contents c.args.p c.args.store.now)) n out = λ n out. let t = tallied in contents-full _ _ n out t.right c.requires.by_rows (t.none c.if-seen-p.false) in
    let l = tallied.bytes in
    comes_from (full _ _) (plain-output _ _ _ _ c.if-p-ne0.false (c.if-differs.false ∙ l) _ l c.if-out-bytes.true)

pub write_plain-requires : goal.write_plain-requires
write_plain-requires c =
    let some : c.survey.result ≡ Some c.in_ok-seen.seen = grind arith in
    let tallied : Tallied c.args.p (contents c.args.p c.args.store.now) c.in_ok-seen.seen = seen_right _ _ c.requires.ends _ _ c.survey.ensures some in
    let t = tallied in
    (record { ends = c.requires.ends; right = t.right }, omega (arith, t.bytes, c.if-out-bytes.false))

pub returns : goal.returns
returns c =
    let some : c.survey.result ≡ Some c.in_ok-seen.seen = grind arith in
    let tallied : Tallied c.args.p (contents c.args.p c.args.store.now) c.in_ok-seen.seen = seen_right _ _ c.requires.ends _ _ c.survey.ensures some in
    let full : (n : ℕ) (out : List ℕ)
    → hand_contents c.args.p (contents c.args.p c.args.store.now) n out
    ≡ hand_joined c.args.p (joined (contents c.args.p c.args.store.now)) n out = λ n out. let t = tallied in contents-full _ _ n out t.right c.requires.by_rows (t.none c.if-seen-p.false) in
    let l = tallied.bytes in
    comes_from (full _ _) (plain-file _ _ _ _ c.if-p-ne0.false (c.if-differs.false ∙ l) _ l c.if-out-bytes.false _ c.write_plain.ensures)
