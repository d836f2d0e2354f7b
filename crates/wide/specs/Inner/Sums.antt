-- A sum of wide products as data: which calls compute it, what they give, and what its 64-bit parts need.
-- The parts are signed expressions of 64 bits (`Ex` of integers), as the code computes them.
use Rattle.std.specs.Prelude.{List, ℤ, ◌+ℤ◌, ◌-ℤ◌, ◌*ℤ◌}
use Rattle.std.specs.Int.{w64}
use Rattle.integers.specs.Inner.Expressions.{Ex, ◌⊕◌, ◌⊖◌, ◌⊗◌}
use Rattle.integers.specs.Inner.Machine.{Var, seens, Asked}
use Rattle.wide.specs.Inner.Values.{wrapped}

-- the calls that make a `Wide`:
--     single e     Wide::from(e), or a `Wide` whose value is known to be e's
--     a ⊠ b        times(a, b)
--     s ⊞ t        plus(s, t)
--     s ⊟ t        minus(s, t)
--     s ⊡ b        scaled(s, b)
infixl 6 ◌⊞◌ ◌⊟◌
infixl 7 ◌⊠◌ ◌⊡◌
pub data Sum : Type 0 where
  single : Ex → Sum
  ◌⊠◌ : Ex → Ex → Sum
  ◌⊞◌ : Sum → Sum → Sum
  ◌⊟◌ : Sum → Sum → Sum
  ◌⊡◌ : Sum → Ex → Sum

-- the sum as one expression over ℤ
abbrev pub flat : Sum → Ex
flat (single e) = e
flat (a ⊠ b) = a ⊗ b
flat (s ⊞ t) = flat s ⊕ flat t
flat (s ⊟ t) = flat s ⊖ flat t
flat (s ⊡ b) = flat s ⊗ b

-- what the calls give, by their contracts, where `part e` is what the code has at the part e
abbrev pub given : (Ex → ℤ) → Sum → ℤ
given part (single e) = part e
given part (a ⊠ b) = part a *ℤ part b
given part (s ⊞ t) = wrapped (given part s +ℤ given part t)
given part (s ⊟ t) = wrapped (given part s -ℤ given part t)
given part (s ⊡ b) = wrapped (given part s *ℤ part b)

-- what the operations of the parts need: each result fits 64 bits
abbrev pub SumNeeds : List Var → Sum → Type 0
SumNeeds vs (single e) = Asked w64 (seens w64 vs) e
SumNeeds vs (a ⊠ b) = Asked w64 (seens w64 vs) a × Asked w64 (seens w64 vs) b
SumNeeds vs (s ⊞ t) = SumNeeds vs s × SumNeeds vs t
SumNeeds vs (s ⊟ t) = SumNeeds vs s × SumNeeds vs t
SumNeeds vs (s ⊡ b) = SumNeeds vs s × Asked w64 (seens w64 vs) b
