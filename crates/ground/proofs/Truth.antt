-- Tests that passed or failed, taken apart and put together.
-- Assumes nothing.
use mathlib.Core.Path.{◌≡◌, refl, sym}
use mathlib.Core.Logic.{◌⊎◌, inl, inr}
use mathlib.Core.Bool.{Bool, true, false, not, ◌&&◌, ◌||◌, true≢false}

pub differ : {Q : Type 0} → true ≡ false → Q
differ e = absurd (true≢false e)

pub and_join : {a b : Bool} → a ≡ true → b ≡ true → (a && b) ≡ true
and_join p q = rw (p, q)

pub or_left : {a : Bool} (b : Bool) → a ≡ true → (a || b) ≡ true
or_left b p = rw p

pub or_right : (a : Bool) {b : Bool} → b ≡ true → (a || b) ≡ true
or_right true p = refl
or_right false p = p

pub not_yes : {a : Bool} → a ≡ false → not a ≡ true
not_yes p = rw p

pub not_no : {a : Bool} → a ≡ true → not a ≡ false
not_no p = rw p
