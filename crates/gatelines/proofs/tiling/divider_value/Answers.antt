-- `divider_value`: the value that the field of the divider holds.
use native.Mathlib.Omega.{arith}
use mathlib.Core.Path.{◌≡◌}
use Prim.Native.Nat.{min}
use mir.Syntax.{w32}
use mir.ValLaws.{to_z-of_z}
use Rattle.gates.specs.Quads.{divider_value}
use Rattle.gatelines.proofs.tiling.divider_value.Goals as goal

pub returns : goal.returns
unfolding divider_value
returns c =
    let args = c.args in
    let e : min args.t 3 ≡ args.t = omega arith in
    rw (to_z-of_z w32 _ (record { sfits = c.value_of.type_inv }), c.value_of.ensures, c.field.ensures, c.divider_at.ensures.0, e)
