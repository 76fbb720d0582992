-- What the reader answers, by the tests that it makes.
-- Assumes nothing.
use mathlib.Core.Path.{◌≡◌, refl, sym, ap, ap₂, ◌∙◌}
use mathlib.Core.Bool.{Bool, cond}
use mathlib.Core.List.{List}
use Prim.Native.Nat.{ℕ, suc, ◌+◌, ◌<◌, ◌≤◌}
use native.Mathlib.Omega.{arith}
use borrow.Author.Tests.{le-leb, lt-leb, lt-ltb, le-ltb}
use lib.Dec.{leb, ltb}
use lib.ListN.{length}
use Rattle.refusals.specs.declared.Refusal.TheVariants.{Line, Extra}
use Rattle.attributes.specs.declared.Description.{Description}
use Rattle.attributes.specs.Rules.{rules, lowest}
use Rattle.attributes.specs.Lines.{lines_of}
use Rattle.attributes.specs.Describe.{description_in, lower, fault_of, describe_of}
use Rattle.std.specs.Prelude.{Err}
use Rattle.std.specs.Prelude.{Ok}

-- with what was found: the attributes, their lowest fault, the number of lines and where they end
module _ (t : List ℕ) (d : Description) (low count next fault : ℕ) (attributes : d ≡ description_in t (lines_of t).parts)
    (judged : low ≡ lowest (rules t d)) (counted : count ≡ length (lines_of t).parts) (ended : next ≡ (lines_of t).next) (lowered : fault ≡ lower low (count + 1)) where
  is_fault : fault ≡ fault_of t
  unfolding fault_of
  is_fault =
      let one : count + 1 ≡ suc (length (lines_of t).parts) = omega arith in
      lowered ∙ ap₂ lower (judged ∙ ap (λ (x : Description). lowest (rules t x)) attributes) one

  says : (b c : Bool) → leb fault 15 ≡ b → ltb next (length t) ≡ c → cond b (Err (Line fault)) (cond c (Err Extra) (Ok d)) ≡ describe_of t
  unfolding describe_of
  says b c e f =
      ap₂ (λ (x y : Bool). cond x (Err (Line fault)) (cond y (Err Extra) (Ok d))) (sym e) (sym f)
      ∙ (λ i. cond (leb (is_fault i) 15) (Err (Line (is_fault i))) (cond (ltb (ended i) (length t)) (Err Extra) (Ok (attributes i))))

  pub says_line : fault ≤ 15 → Err (Line fault) ≡ describe_of t
  says_line h = says _ _ (le-leb fault 15 h) refl

  module _ (h : 15 < fault) where
    pub says_extra : next < length t → Err Extra ≡ describe_of t
    says_extra l = says _ _ (lt-leb fault 15 h) (lt-ltb next (length t) l)

    pub says_attributes : length t ≤ next → Ok d ≡ describe_of t
    says_attributes l = says _ _ (lt-leb fault 15 h) (le-ltb next (length t) l)
