-- One result (document 01, section 7) of each public call about description files, by that call's own contract: crates texts, decimal, content, calendar, times, judging,
-- description, composing and listing. Assumes nothing.
use borrow.Fn.Kinds.{ended_of}
use mathlib.Core.Path.{refl}
use Rattle.ground.proofs.OneResult.{equation}
use Rattle.results.specs.OneResult.{OneResult}
use Rattle.results.proofs.Lent.{after, lent}
use Rattle.texts.proofs as texts
use Rattle.decimal.proofs as decimal
use Rattle.content.proofs as content
use Rattle.calendar.proofs as calendar
use Rattle.times.proofs as times
use Rattle.judging.proofs as judging
use Rattle.description.proofs as description
use Rattle.composing.proofs as composing
use Rattle.listing.proofs as listing

pub well_formed_one : OneResult (ended_of _ texts.well_formed.Kinds.ps texts.well_formed.Kinds.r) texts.well_formed.Reads.Learnt
well_formed_one κs a r s d e p q = (equation p q, refl)

pub until_lf_one : OneResult (ended_of _ texts.until_lf.Kinds.ps texts.until_lf.Kinds.r) texts.until_lf.Reads.Learnt
until_lf_one κs a r s d e p q = (equation p q, refl)

pub unbroken_one : OneResult (ended_of _ texts.unbroken.Kinds.ps texts.unbroken.Kinds.r) texts.unbroken.Reads.Learnt
unbroken_one κs a r s d e p q = (equation p q, refl)

pub number_in_one : OneResult (ended_of _ decimal.number_in.Kinds.ps decimal.number_in.Kinds.r) decimal.number_in.Reads.Learnt
number_in_one κs a r s d e p q = (equation p q, refl)

pub digits_of_one : OneResult (ended_of _ decimal.digits_of.Kinds.ps decimal.digits_of.Kinds.r) decimal.digits_of.Reads.Learnt
digits_of_one κs a r s d e p q = (λ i. record { bytes = equation p.1 q.1 i; length = equation p.0 q.0 i }, refl)

pub content_of_one : OneResult (ended_of _ content.content_of.Kinds.ps content.content_of.Kinds.r) content.content_of.Reads.Learnt
content_of_one κs a r s d e p q = (equation p q, refl)

pub not_given_one : OneResult (ended_of _ calendar.not_given.Kinds.ps calendar.not_given.Kinds.r) calendar.not_given.Reads.Learnt
not_given_one κs a r s d e p q = (equation p q, refl)

pub is_real_one : OneResult (ended_of _ calendar.is_real.Kinds.ps calendar.is_real.Kinds.r) calendar.is_real.Reads.Learnt
is_real_one κs a r s d e p q = (equation p q, refl)

pub not_after_one : OneResult (ended_of _ calendar.not_after.Kinds.ps calendar.not_after.Kinds.r) calendar.not_after.Reads.Learnt
not_after_one κs a r s d e p q = (equation p q, refl)

pub time_text_one : OneResult (ended_of _ times.time_text.Kinds.ps times.time_text.Kinds.r) times.time_text.Reads.Learnt
time_text_one κs a r s d e p q = (equation p q, refl)

pub time_in_one : OneResult (ended_of _ times.time_in.Kinds.ps times.time_in.Kinds.r) times.time_in.Reads.Learnt
time_in_one κs a r s d e p q = (equation p q, refl)

pub lowest_fault_one : OneResult (ended_of _ judging.lowest_fault.Kinds.ps judging.lowest_fault.Kinds.r) judging.lowest_fault.Reads.Learnt
lowest_fault_one κs a r s d e p q = (equation p q, refl)

pub read_one : OneResult (ended_of _ description.read.Kinds.ps description.read.Kinds.r) description.read.Reads.Learnt
read_one κs a r s d e p q = (equation p q, refl)

pub write_one : OneResult (ended_of _ composing.write.Kinds.ps composing.write.Kinds.r) composing.write.Reads.Learnt
write_one κs a r s d e p q = (equation p.0 q.0, after 2 (lent (equation p.1 q.1) refl))

pub put_numbers_one : OneResult (ended_of _ listing.put_numbers.Kinds.ps listing.put_numbers.Kinds.r) listing.put_numbers.Reads.Learnt
put_numbers_one κs a r s d e p q = (equation p.answers q.answers, after 1 (lent (equation p.leaves q.leaves) refl))

pub description_of_one : OneResult (ended_of _ listing.description_of.Kinds.ps listing.description_of.Kinds.r) listing.description_of.Reads.Learnt
description_of_one κs a r s d e p q = (equation p q, refl)
