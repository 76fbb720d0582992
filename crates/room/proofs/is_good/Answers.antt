-- What the search leaves of `is_good`, by the laws of `Named`, `Steps` and `Keeping`.
use mathlib.Core.Path.{◌≡◌, sym, ◌∙◌}
use mathlib.Core.List.{List}
use Prim.Native.Nat.{◌+◌}
use native.Mathlib.Omega.{arith}
use borrow.Author.Rules.{rules}
use lib.ListN.{length, get_or, drop}
use Rattle.std.proofs.Common.{tests}
use Rattle.std.proofs.lemmas.List.{take_rest}
use Rattle.std.proofs.lemmas.Iterator.{YieldsList-from_slice}
use Rattle.std.proofs.lemmas.Iterator.Search.{all_from_yields_List}
use Rattle.places.specs.declared.Place.{Place}
use Rattle.places.specs.Places.{unused, fits, agree}
use Rattle.places.proofs.Named.{in_use_lem, not_in_use}
use Rattle.places.proofs.Steps.{mapped_length, list_all-all, good_unfit, good_clash, good-yes, good_end}
use Rattle.places.proofs.Keeping.{fits_used, good_skip}
use Rattle.room.proofs.is_good.Goals.{then-p-ne0+else-not-is_sound+else-not-all, else-p-ne0}
use Rattle.room.proofs.is_good.Goals as goal

pub returns-then-not-is_sound : goal.returns-then-not-is_sound
returns-then-not-is_sound c =
    let ps = c.args.held.places in
    let eight : length c.args.held.places ≡ 8 = search (rules, mapped_length) in
    let p = get_or ps c.loop-i.i unused in
    let judged : fits c.args.n p ≡ c.is_sound.result = fits_used c.args.n p (in_use_lem p c.if-p-ne0.true) ∙ sym c.is_sound.ensures in
    sym (good_unfit _ ps c.loop-i.i (omega (arith, eight)) (judged ∙ c.if-not-is_sound.true)) ∙ c.loop-i.invariant

pub returns-then-not-all : goal.returns-then-not-all
returns-then-not-all c =
    let ps = c.args.held.places in
    let eight : length c.args.held.places ≡ 8 = search (rules, mapped_length) in
    let i = c.loop-i.i in
    let p = get_or ps i unused in
    let judged : fits c.args.n p ≡ c.is_sound.result = fits_used c.args.n p (in_use_lem p c.if-p-ne0.true) ∙ sym c.is_sound.ensures in
    let later : List Place = drop (i + 1) ps in
    let told = all_from_yields_List (agree p) _ _ _ c.all.ensures.ran (YieldsList-from_slice later (c.iter.ensures.rest ∙ take_rest ps (i + 1))) (λ x b q k. search (rules, tests)) in
    sym (good_clash _ ps i (omega (arith, eight)) (judged ∙ c.if-not-is_sound.false) (sym (told ∙ list_all-all _ later) ∙ c.if-not-all.true))
    ∙ c.loop-i.invariant

pub loop-i-preserved : goal.loop-i-preserved
loop-i-preserved c =
    let ps = c.args.held.places in
    let eight : length c.args.held.places ≡ 8 = search (rules, mapped_length) in
    let i = c.loop-i.i in
    let p = get_or ps i unused in
    elim c.if-p-ne0.branch [
      | then-p-ne0+else-not-is_sound+else-not-all w ↦
          let judged : fits c.args.n p ≡ w.is_sound.result = fits_used c.args.n p (in_use_lem p w.if-p-ne0.true) ∙ sym w.is_sound.ensures in
          let later : List Place = drop (i + 1) ps in
          let told = all_from_yields_List (agree p) _ _ _ w.all.ensures.ran (YieldsList-from_slice later (w.iter.ensures.rest ∙ take_rest ps (i + 1))) (λ x b q k. search (rules, tests)) in
          sym (good-yes _ ps i (omega (arith, eight)) (judged ∙ w.if-not-is_sound.false) (sym (told ∙ list_all-all _ later) ∙ w.if-not-all.false))
          ∙ c.loop-i.invariant
      | else-p-ne0 w ↦ sym (good_skip _ ps i (omega (arith, eight)) (not_in_use p w.if-p-ne0.false)) ∙ c.loop-i.invariant
    ]

pub returns : goal.returns
returns c =
    let eight : length c.args.held.places ≡ 8 = search (rules, mapped_length) in
    sym (good_end _ c.args.held.places c.loop-i.i (omega (arith, eight))) ∙ c.loop-i.invariant
