-- `holds_interval`: `*`, or a value in the interval.
use native.Mathlib.Omega.{arith}
use mir.Syntax.{w32}
use mir.ValLaws.{to_z-of_z}
use Rattle.text.specs.Lines.{fields}
use Rattle.gates.specs.Kinds.{field_at}
use Rattle.gates.specs.Tiling.{holds_interval}
use Rattle.gates.proofs.QuadLaws.{count_small}
use Rattle.gatelines.proofs.tiling.holds_interval.Goals as goal

pub interval-requires : goal.interval-requires
interval-requires c =
    let h = count_small (field_at (fields c.args.line.now) 3) in
    omega (arith, c.requires.1)

pub returns : goal.returns
unfolding holds_interval
returns c =
    rw (
      c.interval.ensures.0,
      to_z-of_z w32 _ (record { sfits = c.value_of.type_inv }),
      c.value_of.ensures,
      c.is_star.ensures,
      c.representative-x.ensures,
    )
