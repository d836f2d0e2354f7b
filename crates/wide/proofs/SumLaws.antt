-- A whole sum of wide products at once: no call wraps and each 64-bit part fits, by one computed test on the variables' bounds.
--     sum-needs vs known t tt      what the 64-bit operations of t need: `search (sum_needs ..)` answers each need; casts by `zcasts` of integers
--     sum-gives vs known t tt      what the calls give is t's value over ℤ
--     sum-exact β ρ within t tt    the same where the parts are expressions over given numbers ρ within bounds β, and no machine expressions
--     plus-is, minus_is, scaled-is: a call's `ensures` with the values of its arguments put in; they nest as the calls do
-- Here vs lists the variables of the code (`Var` of integers) and `known : All w64 vs` says that each is within its bound.
--
-- A caller's proof. The code, where p is within ±10^12 and x, an i32, within ±65536:
--     let d = x as i64;
--     plus(times(p - d, d * d), times(p, 1000 * d))
-- Its proof, without the types of the needs:
--     abbrev vs : tie.Start → List Var
--     vs c = own 1000000000000 c.args.p ∷ short 65536 c.args.x ∷ []
--     known : (c : tie.Start) → All w64 (vs c)
--     known c = search
--     abbrev S : Sum
--     S = (var 0 ⊖ var 1) ⊠ (var 1 ⊗ var 1) ⊞ var 0 ⊠ (lit 1000 ⊗ var 1)
--     cast-d c = search (zcasts w64 (vs c) (known c) tt)
--     sub-times c = search (sum-needs (vs c) (known c) S tt)
--     mul-times c = search (sum-needs (vs c) (known c) S tt)
--     mul-times-2 c = search (sum-needs (vs c.before) (known c.before) S tt)
--     returns c =
--         let second = c.before in
--         let first = second.before in
--         let entry = first.before in
--         plus-is c.plus.ensures first.times.ensures second.times2.ensures ∙ sum-gives (vs entry) (known entry) S tt
-- proves value r ≡ (p -ℤ x) *ℤ (x *ℤ x) +ℤ p *ℤ (pos 1000 *ℤ x), which `solve` turns into other words of the ring.
-- Past about 40 operations `search` has too many to enter: hand each need the product that it is of, (sum-needs (vs c) (known c) (a ⊠ b) tt).
use Rattle.std.proofs.Common.{◌≡◌, ℕ, ◌+◌, ◌*◌, ◌^◌, Bool, true, ◌&&◌, T, ltb, List, ℤ, ◌+ℤ◌, ◌-ℤ◌, ◌*ℤ◌, refl, ◌∙◌, ap₂, w64, SFits}
use mir.Syntax.{w128}
use Rattle.integers.specs.Inner.Bounds.{In}
use Rattle.integers.specs.Inner.Expressions.{Ex, ◌⊕◌, ◌⊖◌, ◌⊗◌, ev}
use Rattle.integers.specs.Inner.Machine.{Var, All, sizes, values, seens, mev}
use Rattle.integers.proofs.Booleans.{and_split}
use Rattle.integers.proofs.Bounds.{fit}
use Rattle.integers.proofs.Fitting.{bound, Within, in_bound}
use Rattle.integers.proofs.Overflow.{fine, zneeds, zgives, zbound}
use Rattle.wide.specs.Inner.Values.{wrapped}
use Rattle.wide.specs.Inner.Sums.{Sum, single, ◌⊠◌, ◌⊞◌, ◌⊟◌, ◌⊡◌, flat, given, SumNeeds}
use Rattle.wide.proofs.CongruenceLaws.{wrapped-fits}

-- ---- no call wraps

-- the test: where each variable is within its bound of β, each sum and each multiple is below 2^127 in size
abbrev pub unwrapped : List ℕ → Sum → Bool
unwrapped β (single e) = true
unwrapped β (a ⊠ b) = true
unwrapped β (s ⊞ t) = ltb (bound β (flat s) + bound β (flat t)) (2 ^ 127) && (unwrapped β s && unwrapped β t)
unwrapped β (s ⊟ t) = ltb (bound β (flat s) + bound β (flat t)) (2 ^ 127) && (unwrapped β s && unwrapped β t)
unwrapped β (s ⊡ b) = ltb (bound β (flat s) * bound β b) (2 ^ 127) && unwrapped β s

-- the code has at each part of the sum the part's value
abbrev Same : (Ex → ℤ) → List ℤ → Sum → Type 0
Same part ρ (single e) = part e ≡ ev ρ e
Same part ρ (a ⊠ b) = (part a ≡ ev ρ a) × (part b ≡ ev ρ b)
Same part ρ (s ⊞ t) = Same part ρ s × Same part ρ t
Same part ρ (s ⊟ t) = Same part ρ s × Same part ρ t
Same part ρ (s ⊡ b) = Same part ρ s × (part b ≡ ev ρ b)

module _ (part : Ex → ℤ) (β : List ℕ) (ρ : List ℤ) (within : (e : Ex) → In (bound β e) (ev ρ e)) where
  exact : (t : Sum) → Same part ρ t → T (unwrapped β t) → given part t ≡ ev ρ (flat t)
  exact (single e) h n = h
  exact (a ⊠ b) h n = ap₂ ◌*ℤ◌ h.0 h.1
  exact (s ⊞ t) h n =
      let u = and_split (ltb (bound β (flat s) + bound β (flat t)) (2 ^ 127)) (unwrapped β s && unwrapped β t) n in
      let v = and_split (unwrapped β s) (unwrapped β t) u.1 in
      let f : SFits w128 (ev ρ (flat s ⊕ flat t)) = fit u.0 (within (flat s ⊕ flat t)) in
      ap₂ (λ (x y : ℤ). wrapped (x +ℤ y)) (exact s h.0 v.0) (exact t h.1 v.1) ∙ wrapped-fits f
  exact (s ⊟ t) h n =
      let u = and_split (ltb (bound β (flat s) + bound β (flat t)) (2 ^ 127)) (unwrapped β s && unwrapped β t) n in
      let v = and_split (unwrapped β s) (unwrapped β t) u.1 in
      let f : SFits w128 (ev ρ (flat s ⊖ flat t)) = fit u.0 (within (flat s ⊖ flat t)) in
      ap₂ (λ (x y : ℤ). wrapped (x -ℤ y)) (exact s h.0 v.0) (exact t h.1 v.1) ∙ wrapped-fits f
  exact (s ⊡ b) h n =
      let u = and_split (ltb (bound β (flat s) * bound β b) (2 ^ 127)) (unwrapped β s) n in
      let f : SFits w128 (ev ρ (flat s ⊗ b)) = fit u.0 (within (flat s ⊗ b)) in
      ap₂ (λ (x y : ℤ). wrapped (x *ℤ y)) (exact s h.0 u.1) h.1 ∙ wrapped-fits f

-- ---- over given numbers
same-given : (ρ : List ℤ) (t : Sum) → Same (ev ρ) ρ t
same-given ρ (single e) = refl
same-given ρ (a ⊠ b) = (refl, refl)
same-given ρ (s ⊞ t) = (same-given ρ s, same-given ρ t)
same-given ρ (s ⊟ t) = (same-given ρ s, same-given ρ t)
same-given ρ (s ⊡ b) = (same-given ρ s, refl)

pub sum-exact : (β : List ℕ) (ρ : List ℤ) → Within β ρ → (t : Sum) → T (unwrapped β t) → given (ev ρ) t ≡ ev ρ (flat t)
sum-exact β ρ within t n = exact (ev ρ) β ρ (λ (e : Ex). in_bound β ρ e within) t (same-given ρ t) n

-- ---- over the variables of the code

-- the test: each part fits 64 bits
abbrev pub parts-fit : List Var → Sum → Bool
parts-fit vs (single e) = fine w64 vs e
parts-fit vs (a ⊠ b) = fine w64 vs a && fine w64 vs b
parts-fit vs (s ⊞ t) = parts-fit vs s && parts-fit vs t
parts-fit vs (s ⊟ t) = parts-fit vs s && parts-fit vs t
parts-fit vs (s ⊡ b) = parts-fit vs s && fine w64 vs b

module _ (vs : List Var) (known : All w64 vs) where
  pub sum_needs : (t : Sum) → T (parts-fit vs t) → SumNeeds vs t
  sum_needs (single e) n = (zneeds w64 vs known e n).0
  sum_needs (a ⊠ b) n = let u = and_split (fine w64 vs a) (fine w64 vs b) n in ((zneeds w64 vs known a u.0).0, (zneeds w64 vs known b u.1).0)
  sum_needs (s ⊞ t) n = let u = and_split (parts-fit vs s) (parts-fit vs t) n in (sum_needs s u.0, sum_needs t u.1)
  sum_needs (s ⊟ t) n = let u = and_split (parts-fit vs s) (parts-fit vs t) n in (sum_needs s u.0, sum_needs t u.1)
  sum_needs (s ⊡ b) n = let u = and_split (parts-fit vs s) (fine w64 vs b) n in (sum_needs s u.0, (zneeds w64 vs known b u.1).0)

  same_read : (t : Sum) → T (parts-fit vs t) → Same (mev w64 (seens w64 vs)) (values w64 vs) t
  same_read (single e) n = zgives w64 vs known e n
  same_read (a ⊠ b) n = let u = and_split (fine w64 vs a) (fine w64 vs b) n in (zgives w64 vs known a u.0, zgives w64 vs known b u.1)
  same_read (s ⊞ t) n = let u = and_split (parts-fit vs s) (parts-fit vs t) n in (same_read s u.0, same_read t u.1)
  same_read (s ⊟ t) n = let u = and_split (parts-fit vs s) (parts-fit vs t) n in (same_read s u.0, same_read t u.1)
  same_read (s ⊡ b) n = let u = and_split (parts-fit vs s) (fine w64 vs b) n in (same_read s u.0, zgives w64 vs known b u.1)

  pub sum-gives : (t : Sum) → T (parts-fit vs t && unwrapped (sizes vs) t) → given (mev w64 (seens w64 vs)) t ≡ ev (values w64 vs) (flat t)
  sum-gives t n =
      let u = and_split (parts-fit vs t) (unwrapped (sizes vs) t) n in
      exact (mev w64 (seens w64 vs)) (sizes vs) (values w64 vs) (λ (e : Ex). zbound w64 vs known e) t (same_read t u.0) u.1

-- ---- a call's result by its arguments' values
pub plus-is : {r x y u v : ℤ} → r ≡ wrapped (x +ℤ y) → x ≡ u → y ≡ v → r ≡ wrapped (u +ℤ v)
plus-is e f g = e ∙ ap₂ (λ (x y : ℤ). wrapped (x +ℤ y)) f g

pub minus_is : {r x y u v : ℤ} → r ≡ wrapped (x -ℤ y) → x ≡ u → y ≡ v → r ≡ wrapped (u -ℤ v)
minus_is e f g = e ∙ ap₂ (λ (x y : ℤ). wrapped (x -ℤ y)) f g

pub scaled_is : {r x y u v : ℤ} → r ≡ wrapped (x *ℤ y) → x ≡ u → y ≡ v → r ≡ wrapped (u *ℤ v)
scaled_is e f g = e ∙ ap₂ (λ (x y : ℤ). wrapped (x *ℤ y)) f g
