-- What the writer answers. Attributes in their ranges, whose texts are parts of what is lent, are written wherever there is room for their lines (`writes_sound`): no rule
-- is broken. Else the lowest line that may not hold its attribute is told, then that there is no room, and nothing is written (`tells_attribute`, `tells_room`).
-- Assumes nothing.
use mathlib.Core.Path.{◌≡◌, sym, ap, ◌∙◌}
use mathlib.Core.Bool.{Bool, true, false, true≢false, cond}
use mathlib.Core.List.{List}
use Prim.Native.Nat.{ℕ, zero, suc}
use native.Mathlib.Omega.{arith}
use borrow.Author.Tests.{le-leb, le-ltb, lt-ltb}
use lib.Dec.{leb, ltb}
use lib.ListN.{length, get_or}
use lib.Seq.{sets}
use Rattle.refusals.specs.declared.Refusal.{Refusal}
use Rattle.refusals.specs.declared.Refusal.TheVariants.{Line, Output}
use Rattle.attributes.specs.declared.Description.{Description}
use Rattle.attributes.specs.Attributes.{attributes_of}
use Rattle.attributes.specs.Rules.{rules_of, placed, rules, lowest}
use Rattle.attributes.specs.Compose.{text_of, Writing, compose_of}
use Rattle.attributes.specs.Statements.{WritesSound, TellsAttribute, TellsRoom}
use Rattle.attributes.proofs.RuleLaws.{lowest_is, rules-sound}
use Rattle.std.specs.Prelude.{Ok, Err}

-- ---- the whole outcome, by the lowest fault and by the room

abbrev refusing : List ℕ → Refusal → Writing
refusing out why = record { answer = Err why; out = out }

abbrev by_room : List ℕ → Description → List ℕ → Bool → Writing
by_room t d out c = cond c (refusing out Output) (record { answer = Ok (length (text_of (attributes_of t d))); out = sets out 0 (text_of (attributes_of t d)) })

abbrev by_fault : List ℕ → Description → List ℕ → ℕ → Writing
by_fault t d out n = cond (leb n 15) (refusing out (Line n)) (by_room t d out (ltb (length out) (length (text_of (attributes_of t d)))))

outcome : (t : List ℕ) (d : Description) (out : List ℕ) (n : ℕ) → lowest (rules t d) ≡ n → compose_of t d out ≡ by_fault t d out n
unfolding compose_of
outcome t d out n e = ap (by_fault t d out) e

-- ---- written

pub writes_sound : WritesSound compose_of
writes_sound t d out r p h =
    outcome t d out 16 (ap lowest (rules-sound t d p r)) ∙ ap (by_room t d out) (le-ltb (length out) (length (text_of (attributes_of t d))) h)

-- ---- refused

pub tells_attribute : TellsAttribute compose_of
tells_attribute t d out zero l m bad good = absurd (omega arith)
tells_attribute t d out (suc i) l m bad good =
    outcome t d out (suc i) (lowest_is (rules t d) i bad (λ j h. good (suc j) (omega arith) (omega arith)))
    ∙ ap (λ (b : Bool). cond b (refusing out (Line (suc i))) (by_room t d out (ltb (length out) (length (text_of (attributes_of t d)))))) (le-leb (suc i) 15 m)

-- there are fifteen rules
no_more : (t : List ℕ) (d : Description) → get_or (rules t d) 15 false ≡ true → ⊥
unfolding rules placed rules_of
no_more t d e = true≢false (sym e)

pub tells_room : TellsRoom compose_of
tells_room t d out good h =
    outcome t d out 16 (lowest_is (rules t d) 15 (no_more t d) (λ j l. good (suc j) (omega arith) (omega arith)))
    ∙ ap (by_room t d out) (lt-ltb (length out) (length (text_of (attributes_of t d))) h)
