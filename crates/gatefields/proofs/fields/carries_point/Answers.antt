-- `carries_point`: each of the four fields is asked.
use mathlib.Core.Path.{refl}
use Rattle.plans.specs.Indices.{any}
use Rattle.gates.specs.Kinds.{carries_point}
use Rattle.gatefields.proofs.fields.carries_point.Goals as goal

pub returns : goal.returns
unfolding carries_point any
returns c =
    rw (
      c.has_point-4.ensures,
      c.field-4.ensures,
      c.has_point-3.ensures,
      c.field-3.ensures,
      c.has_point-2.ensures,
      c.field-2.ensures,
      c.has_point.ensures,
      c.field.ensures,
    ) refl
