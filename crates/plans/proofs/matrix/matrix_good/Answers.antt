-- `matrix_good` is `matrix_good`.
use mir.Syntax.{w64}
use mir.ValLaws.{to_z-of_z}
use Rattle.plans.specs.Form.{matrix_good}
use borrow.Author.Rules.{rules}
use Rattle.plans.proofs.matrix.matrix_good.Goals as goal

pub returns : goal.returns
unfolding matrix_good
returns c =
    rw (
      to_z-of_z w64 _ (record { sfits = c.product.type_inv }),
      to_z-of_z w64 _ (record { sfits = c.product-2.type_inv }),
      c.product.ensures,
      c.product-2.ensures,
    )
    (search rules)
