-- `quadrant_max`: `*` stands for the end of the scale; else the upper end of the interval.
use mir.Syntax.{w32}
use mir.ValLaws.{to_z-of_z}
use native.Mathlib.Omega.{arith}
use Rattle.text.specs.Lines.{fields}
use Rattle.gates.specs.Kinds.{field_at}
use Rattle.gates.specs.Encoding.{quadrant_max}
use Rattle.gates.proofs.QuadLaws.{count_small}
use Rattle.gatelines.proofs.words.quadrant_max.Goals as goal

pub returns-then-is_star : goal.returns-then-is_star
unfolding quadrant_max
returns-then-is_star c = rw (← c.representative-x.ensures, ← c.is_star.ensures, c.if-is_star.true)

pub interval-requires : goal.interval-requires
interval-requires c =
    omega (arith, c.requires.1, count_small (field_at (fields c.args.line.now) 3))

pub upper_end-requires : goal.upper_end-requires
upper_end-requires c =
    (omega (arith, c.requires.1, count_small (field_at (fields c.args.line.now) 3)), c.interval.ensures.1)

pub returns : goal.returns
unfolding quadrant_max
returns c =
    rw (
      ← c.representative-x.ensures,
      ← c.is_star.ensures,
      c.if-is_star.false,
      to_z-of_z w32 _ (record { sfits = c.upper_end.type_inv }),
      c.upper_end.ensures,
      c.interval.ensures.0,
      to_z-of_z w32 _ (record { sfits = c.value_of.type_inv }),
      c.value_of.ensures,
    )
