-- `divider_at`: the field at which divider j begins, j by j; each divider takes at most five fields.
use Rattle.std.proofs.Common.{rules, refl, arith, add-one}
use Rattle.gates.specs.Quads.{divider_at}
use Rattle.gatefields.proofs.quads.divider_at.Goals as goal

pub loop-init : goal.loop-init
unfolding divider_at
loop-init c = (refl, omega arith, omega arith)

pub loop-preserved : goal.loop-preserved
unfolding divider_at
loop-preserved c =
    (rw (add-one, c.count_of.ensures.0, c.field.ensures, c.loop.invariant.0) (omega arith), search rules, search rules)
