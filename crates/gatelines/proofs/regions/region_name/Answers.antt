-- `region_name`: no such region, a quadrant, or the gate itself.
use native.Mathlib.Omega.{arith}
use mathlib.Core.Bool.{true, false}
use Prim.Native.Nat.{◌<◌}
use borrow.Author.Tests.{lt-ltb, le-ltb}
use Rattle.text.specs.Lines.{fields}
use Rattle.gates.specs.Quads.{quadrant_count}
use Rattle.gates.specs.Inner.Regions.{region_name}
use Rattle.gatelines.proofs.LineLaws.{cond_lt, quad-known, region-quad}
use Rattle.gatelines.proofs.regions.region_name.Goals as goal

pub returns-then-region_count-q : goal.returns-then-region_count-q
unfolding region_name
returns-then-region_count-q c =
    rw (
      ← c.region_count.ensures,
      le-ltb c.args.q c.region_count.result c.if-region_count-q.true,
    )

pub returns-then-is_quad : goal.returns-then-is_quad
unfolding region_name
returns-then-is_quad c =
    let region-count = c.region_count in
    let args = c.args in
    let f = fields args.line.now in
    let z =
    quad-known f c.kind_of.result c.is_quad.result true c.kind_of.ensures c.is_quad.ensures
    c.if-is_quad.true in
    let h : args.q < quadrant_count f = omega (arith, region-quad f z, region-count.ensures, c.if-region_count-q.false) in
    let e = cond_lt _ _ _ _ _ h c.quadrant_at.ensures in
    rw (← region-count.ensures, lt-ltb args.q region-count.result c.if-region_count-q.false, z, c.field.ensures, e)

pub returns : goal.returns
unfolding region_name
returns c =
    let args = c.args in
    let f = fields args.line.now in
    let z =
    quad-known f c.kind_of.result c.is_quad.result false c.kind_of.ensures c.is_quad.ensures
    c.if-is_quad.false in
    rw (
      ← c.region_count.ensures,
      lt-ltb args.q c.region_count.result c.if-region_count-q.false,
      z,
      c.field-2.ensures,
    )
