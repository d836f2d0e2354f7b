-- `in_span`: the difference of two numbers of 32 bits is one of 64.
use Prim.Native.Nat.{◌<◌}
use native.Mathlib.Omega.{arith}
use mathlib.Core.Path.{refl}
use mir.Syntax.{w64}
use mir.Facts.{to_z-of_z, to_z_pos}
use Rattle.integers.proofs.Bounds.{wider}
use Rattle.counter.proofs.SpanLaws.{difference-fits}
use Rattle.counter.proofs.sets.in_span.Goals as goal

pub overflow_cast-above : goal.overflow_cast-above
overflow_cast-above c = let f = c.ranges.value in simp (to_z-of_z, f) (wider f)

pub overflow_cast-above-2 : goal.overflow_cast-above-2
overflow_cast-above-2 c = let f = c.ranges.min in simp (to_z-of_z, f) (wider f)

pub overflow_sub-above : goal.overflow_sub-above
overflow_sub-above c =
    let f = c.ranges.value in
    let g = c.ranges.min in
    let wf = wider f in
    let wg = wider g in
    simp (to_z-of_z, f, g, wf, wg) (difference-fits f g)

pub returns : goal.returns
returns c =
    let f = c.ranges.value in
    let g = c.ranges.min in
    let wf = wider f in
    let wg = wider g in
    let d = difference-fits f g in
    let u : c.args.span < 9223372036854775808 = let s = c.ranges.span.fits in omega arith in
    let s = to_z_pos w64 u in
    simp (to_z-of_z, f, g, wf, wg, d, s) refl
