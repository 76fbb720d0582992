-- The attributes that were read are put as thirty numbers; a refusal is answered.
use mathlib.Core.Path.{sym, ◌∙◌}
use native.Mathlib.Omega.{arith}
use Rattle.listing.proofs.ListingLaws.{describe_given, describe_refused}
use Rattle.brithelva.proofs.bh_read_description.Goals as goal

pub enum_known-d : goal.enum_known-d
enum_known-d c = omega arith

pub enum_known-r : goal.enum_known-r
enum_known-r c = omega arith

pub shape_of-values : goal.shape_of-values
shape_of-values c = omega arith

pub returns-in-Ok : goal.returns-in-Ok
returns-in-Ok c =
    describe_given _ _ _ _ _ (sym c.read.ensures ∙ c.in-Ok.is) c.put_numbers.ensures

pub returns-in-Err : goal.returns-in-Err
returns-in-Err c =
    describe_refused _ _ _ _ (sym c.read.ensures ∙ c.in-Err.is) c.refused.ensures
