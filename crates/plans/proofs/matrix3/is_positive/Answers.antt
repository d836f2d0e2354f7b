-- `is_positive`: greater than 0.
use mathlib.Core.Path.{◌∙◌, ap}
use lib.IntN.{ℤ, pos}
use Rattle.std.specs.Ordering.{is_gt}
use Rattle.wide.specs.Inner.Values.{value, order_of}
use Rattle.wide.proofs.OrderLaws.{is_greater_lem}
use Rattle.plans.proofs.matrix3.is_positive.Goals as goal

pub returns : goal.returns
returns c =
    let w = value c.args.w in
    c.is_gt.ensures ∙ ap is_gt (c.compare.ensures ∙ ap (λ (z : ℤ). order_of w z) c.from.ensures) ∙ is_greater_lem w (pos 0)
