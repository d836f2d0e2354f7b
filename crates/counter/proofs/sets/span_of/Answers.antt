-- `span_of`: the difference of two numbers of 32 bits, the greater first, is one of 32 bits without a sign.
use lib.IntN.{◌-ℤ◌}
use mir.Facts.{to_z-of_z}
use Rattle.integers.proofs.Bounds.{wider}
use Rattle.counter.proofs.SpanLaws.{difference-fits, span_fits, span_number}
use Rattle.counter.proofs.sets.span_of.Goals as goal

pub overflow_cast-result : goal.overflow_cast-result
overflow_cast-result c = let f = c.ranges.max in simp (to_z-of_z, f) (wider f)

pub overflow_cast-result-2 : goal.overflow_cast-result-2
overflow_cast-result-2 c = let f = c.ranges.min in simp (to_z-of_z, f) (wider f)

pub overflow_sub-result : goal.overflow_sub-result
overflow_sub-result c =
    let f = c.ranges.min in
    let g = c.ranges.max in
    let wf = wider f in
    let wg = wider g in
    simp (to_z-of_z, f, g, wf, wg) (difference-fits g f)

pub overflow_cast-result-3 : goal.overflow_cast-result-3
overflow_cast-result-3 c =
    let f = c.ranges.min in
    let g = c.ranges.max in
    let wf = wider f in
    let wg = wider g in
    let d = difference-fits g f in
    simp (to_z-of_z, f, g, wf, wg, d) (span_fits c.args.min c.args.max f g c.requires)

pub returns : goal.returns
returns c =
    let f = c.ranges.min in
    let g = c.ranges.max in
    let wf = wider f in
    let wg = wider g in
    let d = difference-fits g f in
    simp (to_z-of_z, f, g, wf, wg, d) (span_number (c.args.max -ℤ c.args.min) (span_fits c.args.min c.args.max f g c.requires).0)
