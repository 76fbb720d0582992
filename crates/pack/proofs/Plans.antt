-- The plan of a packet: which refusal comes first, and that packing answers as the plan says.
-- Assumes nothing.
use mathlib.Core.Path.{◌≡◌, refl, sym, ap, subst, ◌∙◌}
use mathlib.Core.Bool.{Bool, true, false, cond, not, ◌||◌}
use mathlib.Core.List.{List, ◌++◌}
use Prim.Native.Nat.{ℕ, zero, suc, ◌<◌, ◌≤◌}
use native.Mathlib.Omega.{arith}
use borrow.Author.Tests.{lt-ltb, le-ltb, le-leb, lt-leb, eq-eqb, ne_eqb, ltb-false, leb-false, eqb-false, not-false}
use lib.Dec.{eqb, leb, ltb}
use lib.ListN.{length, drop}
use Rattle.refusals.specs.declared.Refusal.{Refusal}
use Rattle.refusals.specs.declared.Refusal.TheVariants.{Number, Field, Size, Count, Output}
use Rattle.settings.specs.declared.Settings.{Settings}
use Rattle.settings.specs.Settings.{settings_fit}
use Rattle.pack.specs.Pack.{Packing, largest_file, count_of, packet_of, refusing, written, pack_of, Packs}
use Rattle.pack.specs.Inner.{payload_length, plan_of, Packable}
use Rattle.refusals.specs.declared.Refusal.{Refusal}
use Rattle.std.specs.Prelude.{Result}
use Rattle.std.specs.Prelude.{Ok, Err}
use Rattle.std.specs.Prelude.{Result}
use Rattle.std.specs.Prelude.{Ok, Err}

-- ---- the refusals in their order, and the plan where there is none
module _ (g : Settings) (len n : ℕ) where
  pub plan_field : settings_fit g ≡ false → Err Field ≡ plan_of g len n
  unfolding plan_of
  plan_field h = simp h

  module _ (h₁ : settings_fit g ≡ true) where
    pub plan_none : len ≡ 0 → Err Size ≡ plan_of g len n
    unfolding plan_of
    plan_none h = simp (h₁, eq-eqb len 0 h)

    module _ (h₂ : len ≡ 0 → ⊥) where
      pub plan_long : largest_file < len → Err Size ≡ plan_of g len n
      unfolding plan_of
      plan_long h = simp (h₁, ne_eqb len 0 h₂, lt-ltb largest_file len h)

      module _ (h₃ : len ≤ largest_file) where
        pub plan_count : 1048575 < count_of g len → Err Count ≡ plan_of g len n
        unfolding plan_of
        plan_count h = simp (h₁, ne_eqb len 0 h₂, le-ltb largest_file len h₃, lt-ltb 1048575 (count_of g len) h)

        module _ (h₄ : count_of g len ≤ 1048575) where
          pub plan_number : count_of g len ≤ n → Err Number ≡ plan_of g len n
          unfolding plan_of
          plan_number h =
              simp (h₁, ne_eqb len 0 h₂, le-ltb largest_file len h₃, le-ltb 1048575 (count_of g len) h₄, le-leb (count_of g len) n h)

          pub plan_go : n < count_of g len → Ok ((count_of g len), (payload_length g len n)) ≡ plan_of g len n
          unfolding plan_of
          plan_go h =
              simp (h₁, ne_eqb len 0 h₂, le-ltb largest_file len h₃, le-ltb 1048575 (count_of g len) h₄, lt-leb (count_of g len) n h)

-- ---- packing answers as the plan says
abbrev pub as_planned : List ℕ → Settings → ℕ → List ℕ → Result (ℕ × ℕ) Refusal → Packing
as_planned file g n out (Err r) = refusing r out
as_planned file g n out (Ok (c, s)) = written (packet_of g file n) out

pub packs_as_planned : (file : List ℕ) (g : Settings) (n : ℕ) (out : List ℕ) → pack_of file g n out ≡ as_planned file g n out (plan_of g (length file) n)
unfolding pack_of plan_of
packs_as_planned file g n out =
    go (not (settings_fit g)) (eqb (length file) 0 || ltb largest_file (length file)) (ltb 1048575 (count_of g (length file))) (leb (count_of g (length file)) n)
  where
    go : (a b c d : Bool)
        → cond a (refusing Field out) (cond b (refusing Size out) (cond c (refusing Count out) (cond d (refusing Number out) (written (packet_of g file n) out))))
        ≡ as_planned file g n out
        (cond a (Err Field) (cond b (Err Size) (cond c (Err Count) (cond d (Err Number) (Ok ((count_of g (length file)), (payload_length g (length file) n)))))))
    go true b c d = refl
    go false true c d = refl
    go false false true d = refl
    go false false false true = refl
    go false false false false = refl

pub packs_stop : (file : List ℕ) (g : Settings) (n : ℕ) (out : List ℕ) (r : Refusal) → plan_of g (length file) n ≡ Err r → Packs (pack_of file g n out) (Err r) out
packs_stop file g n out r e =
    subst (λ (p : Packing). Packs p (Err r) out) (sym (packs_as_planned file g n out ∙ ap (as_planned file g n out) e)) (record { answer = refl; output = refl })

pub packs_go : (file : List ℕ) (g : Settings) (n : ℕ) (out : List ℕ) (c s : ℕ) (a : Result ℕ Refusal) (x : List ℕ) → plan_of g (length file) n ≡ Ok (c, s)
    → Packs (written (packet_of g file n) out) a x → Packs (pack_of file g n out) a x
packs_go file g n out c s a x e w =
    subst (λ (p : Packing). Packs p a x) (sym (packs_as_planned file g n out ∙ ap (as_planned file g n out) e)) w

-- ---- what a plan that goes on has found
passed : (t : Bool) (r : Refusal) (y : Result (ℕ × ℕ) Refusal) (c s : ℕ) → cond t (Err r) y ≡ Ok (c, s) → (t ≡ false) × (y ≡ Ok (c, s))
passed true r y c s e = absurd (let z : ◌≡◌ {A = ℕ} 0 1 = cc in omega arith)
passed false r y c s e = (refl, e)

neither : (s t : Bool) → s || t ≡ false → (s ≡ false) × (t ≡ false)
neither true t e = absurd (let z : ◌≡◌ {A = ℕ} 0 1 = cc in omega arith)
neither false t e = (refl, e)

same_go : (a b c d : ℕ) → ◌≡◌ {A = Result (ℕ × ℕ) Refusal} (Ok (a, b)) (Ok (c, d)) → (c ≡ a) × (d ≡ b)
same_go a b c d e =
    let both : ◌≡◌ {A = ℕ × ℕ} (c, d) (a, b) = cc in
    (ap (λ (p : ℕ × ℕ). p.0) both, ap (λ (p : ℕ × ℕ). p.1) both)

pub planned : (g : Settings) (len n c s : ℕ) → plan_of g len n ≡ Ok (c, s) → (c ≡ count_of g len) × ((s ≡ payload_length g len n) × Packable g len n)
unfolding plan_of
planned g len n c s e =
    let a = passed (not (settings_fit g)) Field _ c s e in
    let b = passed (eqb len 0 || ltb largest_file len) Size _ c s a.1 in
    let d = passed (ltb 1048575 (count_of g len)) Count _ c s b.1 in
    let f = passed (leb (count_of g len) n) Number _ c s d.1 in
    let i = neither (eqb len 0) (ltb largest_file len) b.0 in
    let k = same_go (count_of g len) (payload_length g len n) c s f.1 in (
      k.0,
      (
        k.1,
        record {
          fits = not-false (settings_fit g) a.0;
          some = positive len (eqb-false len 0 i.0);
          most = ltb-false largest_file len i.1;
          few = ltb-false 1048575 (count_of g len) d.0;
          below = leb-false (count_of g len) n f.0;
        },
      ),
    )
  where
    positive : (x : ℕ) → (x ≡ 0 → ⊥) → 0 < x
    positive zero h = absurd (h refl)
    positive (suc x) h = omega arith

-- ---- for the layers above

-- a packet that can be made, and for which there is room, is written
pub pack_accepts : (file : List ℕ) (g : Settings) (n : ℕ) (out : List ℕ) → Packable g (length file) n → length (packet_of g file n) ≤ length out
    → pack_of file g n out
    ≡ record { answer = Ok (length (packet_of g file n)); output = packet_of g file n ++ drop (length (packet_of g file n)) out }
unfolding written
pack_accepts file g n out p h =
    let q : List ℕ = packet_of g file n in
    packs_as_planned file g n out
    ∙ ap (as_planned file g n out) (sym (plan_go g (length file) n p.fits (λ (z : length file ≡ 0). let s : 0 < length file = p.some in omega arith) p.most p.few p.below))
    ∙ ap (λ (b : Bool). cond b (refusing Output out) (record { answer = Ok (length q); output = q ++ drop (length q) out })) (le-ltb (length out) (length q) h)

-- what is refused leaves the output as it was
refused-kept : (b : Bool) (q out : List ℕ) (r : Refusal)
    → (cond b (refusing Output out) (record { answer = Ok (length q); output = q ++ drop (length q) out })).answer ≡ Err r
    → (cond b (refusing Output out) (record { answer = Ok (length q); output = q ++ drop (length q) out })).output ≡ out
refused-kept true q out r e = refl
refused-kept false q out r e = absurd (let z : ◌≡◌ {A = ℕ} 0 1 = cc in omega arith)

planned-kept : (p : Result (ℕ × ℕ) Refusal) (file : List ℕ) (g : Settings) (n : ℕ) (out : List ℕ) (r : Refusal) → (as_planned file g n out p).answer ≡ Err r → (as_planned file g n out p).output ≡ out
unfolding written
planned-kept (Err s) file g n out r e = refl
planned-kept (Ok (c, s)) file g n out r e = refused-kept (ltb (length out) (length (packet_of g file n))) (packet_of g file n) out r e

pub pack-refused : (file : List ℕ) (g : Settings) (n : ℕ) (out : List ℕ) (r : Refusal) → (pack_of file g n out).answer ≡ Err r → (pack_of file g n out).output ≡ out
pack-refused file g n out r e =
    let w = packs_as_planned file g n out in
    ap (λ (p : Packing). p.output) w ∙ planned-kept (plan_of g (length file) n) file g n out r (sym (ap (λ (p : Packing). p.answer) w) ∙ e)
