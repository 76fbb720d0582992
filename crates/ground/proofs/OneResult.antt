-- One result: where a contract says what the result equals, two results that it allows are equal.
-- Assumes nothing.
use mathlib.Core.Path.{◌≡◌, sym, ◌∙◌}

pub equation : {A : Type 0} {r s x : A} → r ≡ x → s ≡ x → r ≡ s
equation p q = p ∙ sym q
