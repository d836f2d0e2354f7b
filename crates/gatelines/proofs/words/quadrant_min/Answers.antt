-- `quadrant_min`: `*` stands for the beginning of the scale; else the lower end of the interval.
use mir.Syntax.{w32}
use mir.ValLaws.{to_z-of_z}
use native.Mathlib.Omega.{arith}
use Rattle.text.specs.Lines.{fields}
use Rattle.gates.specs.Kinds.{field_at}
use Rattle.gates.specs.Encoding.{quadrant_min}
use Rattle.gates.proofs.QuadLaws.{count_small}
use Rattle.gatelines.proofs.words.quadrant_min.Goals as goal

pub returns-then-is_star : goal.returns-then-is_star
unfolding quadrant_min
returns-then-is_star c = rw (← c.representative-x.ensures, ← c.is_star.ensures, c.if-is_star.true)

pub interval-requires : goal.interval-requires
interval-requires c =
    omega (arith, c.requires.1, count_small (field_at (fields c.args.line.now) 3))

pub lower_end-requires : goal.lower_end-requires
lower_end-requires c =
    (omega (arith, c.requires.1, count_small (field_at (fields c.args.line.now) 3)), c.interval.ensures.1)

pub returns : goal.returns
unfolding quadrant_min
returns c =
    rw (
      ← c.representative-x.ensures,
      ← c.is_star.ensures,
      c.if-is_star.false,
      to_z-of_z w32 _ (record { sfits = c.lower_end.type_inv }),
      c.lower_end.ensures,
      c.interval.ensures.0,
      to_z-of_z w32 _ (record { sfits = c.value_of.type_inv }),
      c.value_of.ensures,
    )
