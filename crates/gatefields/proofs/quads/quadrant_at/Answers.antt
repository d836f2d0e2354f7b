-- `quadrant_at`: a quadrant that is there begins within the line, so no sum wraps; else the number of fields.
use native.Mathlib.Omega.{arith}
use borrow.Author.Tests.{lt-ltb, le-ltb}
use Prim.Native.Nat.{◌<◌, ◌≤◌}
use Rattle.text.specs.Lines.{fields}
use Rattle.gates.specs.Quads.{quadrant_at, quadrant_count}
use Rattle.gates.proofs.QuadLaws.{quadrant-fits}
use borrow.Author.Rules.{rules}
use Rattle.gatefields.proofs.quads.quadrant_at.Goals as goal

pub overflow_mul-result : goal.overflow_mul-result
overflow_mul-result c =
    let args = c.args in
    let f = fields args.line.now in
    let h : args.q < quadrant_count f = omega (arith, c.quadrant_count.ensures) in
    let g = quadrant-fits f args.q c.divider_count.result c.divider_count.ensures.0 h in
    search rules

pub overflow_add-result-then-q-quadrant_count : goal.overflow_add-result-then-q-quadrant_count
overflow_add-result-then-q-quadrant_count c =
    let args = c.args in
    let f = fields args.line.now in
    let h : args.q < quadrant_count f = omega (arith, c.quadrant_count.ensures) in
    let g = quadrant-fits f args.q c.divider_count.result c.divider_count.ensures.0 h in
    search rules

pub returns-then-q-quadrant_count : goal.returns-then-q-quadrant_count
unfolding quadrant_at
returns-then-q-quadrant_count c =
    let args = c.args in
    let f = fields args.line.now in
    let h : args.q < quadrant_count f = omega (arith, c.quadrant_count.ensures) in
    rw (lt-ltb args.q (quadrant_count f) h, c.divider_count.ensures.0, c.quadrants_at.ensures.0)

pub returns : goal.returns
returns c =
    let args = c.args in
    let f = fields args.line.now in
    let h : quadrant_count f ≤ args.q = omega (arith, c.quadrant_count.ensures) in
    rw (le-ltb args.q (quadrant_count f) h) c.field_count-n.ensures
