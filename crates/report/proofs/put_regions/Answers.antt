-- `put_regions`: the lines of the first r regions are written over the beginning.
use native.Mathlib.Omega.{arith}
use mathlib.Core.Path.{◌≡◌, refl}
use Prim.Native.Nat.{◌+◌}
use Rattle.gates.specs.Gate.{regions}
use Rattle.resolve.specs.Inner.Reading.{gates_at}
use Rattle.report.proofs.ReportLaws.{lines_none, count_next, lines-short}
use Rattle.report.proofs.put_regions.Goals as goal

pub loop-r-init : goal.loop-r-init
loop-r-init c = lines_none _ _ _

pub overflow_add-at : goal.overflow_add-at
overflow_add-at c =
    let loop = c.loop-r in
    let a = c.args in
    let pre = c.requires in
    let rs = regions (gates_at a.table.now.text.now a.table.now.starts a.table.now.gates) in
    let w = count_next rs a.counts.now a.out.now loop.r loop.at loop.invariant c.name_at.ensures refl c.put_count_from-at.ensures in
    omega (arith, pre.0, lines-short rs a.counts.now a.out.now (loop.r + 1) _ w a.m pre.2 (omega arith))

pub loop-r-preserved : goal.loop-r-preserved
loop-r-preserved c =
    let loop = c.loop-r in
    count_next _ c.args.counts.now _ loop.r loop.at loop.invariant c.name_at.ensures refl c.put_count_from-at.ensures

pub returns : goal.returns
returns c =
    let a = c.args in
    let rs = regions (gates_at a.table.now.text.now a.table.now.starts a.table.now.gates) in
    let z : c.loop-r.r ≡ a.m = omega arith in
    let w = rw z at c.loop-r.invariant in
    record {
      writes = w;
      within = omega (arith, c.requires.0, lines-short rs a.counts.now a.out.now a.m c.loop-r.at w a.m c.requires.2 (omega arith));
    }
