-- `minor`: of any four numbers of 32 bits.
use mathlib.Core.Path.{◌≡◌, ◌∙◌}
use lib.IntN.{ℤ, ◌-ℤ◌, ◌*ℤ◌}
use mir.Syntax.{w64}
use mir.Val.{SFits, to_z, of_z}
use mir.Facts.{to_z-of_z as back}
use mir.ValLaws.{to_z-of_z}
use Rattle.integers.proofs.Bounds.{ok64}
use Rattle.plans.proofs.MatrixLaws.{minor_fits}
use Rattle.plans.proofs.matrix3.minor.Goals as goal
use Rattle.plans.proofs.matrix3.minor.Goals.{After-product-2}

-- the two products, and their difference
module _ (c : After-product-2) where
  abbrev a : ℤ
  a = c.args.a

  abbrev b : ℤ
  b = c.args.b

  abbrev d : ℤ
  d = c.args.d

  abbrev e : ℤ
  e = c.args.c

  first-is : to_z w64 (of_z w64 c.product.result) ≡ a *ℤ d
  first-is =
      let f = c.ranges in
      to_z-of_z w64 _ (ok64 _ c.product.type_inv) ∙ (simp (back, f.a, f.d) at c.product.ensures)

  second_is : to_z w64 (of_z w64 c.product-2.result) ≡ b *ℤ e
  second_is =
      let f = c.ranges in
      to_z-of_z w64 _ (ok64 _ c.product-2.type_inv) ∙ (simp (back, f.b, f.c) at c.product-2.ensures)

  difference-fits : SFits w64 (a *ℤ d -ℤ b *ℤ e)
  difference-fits = let f = c.ranges in minor_fits f.a f.b f.c f.d

pub overflow_sub-result : goal.overflow_sub-result
overflow_sub-result c = rw (first-is c, second_is c) (difference-fits c)

pub returns : goal.returns
returns c = rw (first-is c, second_is c, to_z-of_z w64 _ (difference-fits c))
