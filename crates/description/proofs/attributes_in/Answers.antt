-- Each attribute is read from its part; the parts are those of the list, entry by entry.
-- Assumes nothing.
use mathlib.Core.Path.{ap, ◌∙◌}
use Rattle.decimal.specs.Decimal.{number_in}
use Rattle.attributes.specs.declared.Part.{Part}
use Rattle.attributes.specs.Attributes.{part_of, no_charset, no_size}
use Rattle.attributes.specs.Describe.{optional_in, given_time, description_in}
use Rattle.description.proofs.attributes_in.Goals as goal

pub returns : goal.returns
unfolding description_in
returns c ps e =
    let t = c.args.text.now in
    λ j. record {
      service = (c.number_at.ensures ∙ ap (λ (p : Part). number_in (part_of t p)) (e 0)) j;
      mode = (c.number_at-2.ensures ∙ ap (λ (p : Part). number_in (part_of t p)) (e 1)) j;
      resource = (c.number_at-3.ensures ∙ ap (λ (p : Part). number_in (part_of t p)) (e 2)) j;
      update = (c.number_at-4.ensures ∙ ap (λ (p : Part). number_in (part_of t p)) (e 3)) j;
      name = e 4 j;
      kind = (c.number_at-5.ensures ∙ ap (λ (p : Part). number_in (part_of t p)) (e 5)) j;
      title = e 6 j;
      summary = e 7 j;
      keywords = e 8 j;
      charset = (c.optional_at.ensures ∙ ap (λ (p : Part). optional_in no_charset (part_of t p)) (e 9)) j;
      path = e 10 j;
      size = (c.optional_at-2.ensures ∙ ap (λ (p : Part). optional_in no_size (part_of t p)) (e 11)) j;
      begins = (c.time_at.ensures ∙ ap (λ (p : Part). given_time (part_of t p)) (e 12)) j;
      ends = (c.time_at-2.ensures ∙ ap (λ (p : Part). given_time (part_of t p)) (e 13)) j;
      delete = (c.number_at-6.ensures ∙ ap (λ (p : Part). number_in (part_of t p)) (e 14)) j;
    }
