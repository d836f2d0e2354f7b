-- `put_regions`: the lines of the first r regions are written over the beginning, each of at most 196,682 bytes.
use mathlib.Core.Path.{◌≡◌}
use native.Mathlib.Omega.{arith}
use Rattle.gates.specs.Gate.{regions}
use Rattle.resolve.specs.Inner.Reading.{gates_at}
use Rattle.report.proofs.ReportLaws.{lines_none}
use Rattle.sheet.proofs.PrintLaws.{region-next}
use Rattle.sheet.proofs.printing.put_regions.Goals as goal

pub loop-r-init : goal.loop-r-init
loop-r-init c = (omega arith, lines_none _ _ _)

pub put_region-at-requires : goal.put_region-at-requires
put_region-at-requires c =
    let pre = c.requires in (
      record { near = omega (arith, pre.0, c.loop-r.invariant.0); within = omega (arith, pre.0) },
      rw c.name_at-name.ensures (pre.2 c.loop-r.r (omega arith)),
      omega (arith, pre.0),
    )

pub overflow_add-at : goal.overflow_add-at
overflow_add-at c =
    omega (arith, c.requires.0, c.args.columns.now.few, c.loop-r.invariant.0, c.put_region-at.ensures.within)

pub loop-r-preserved : goal.loop-r-preserved
loop-r-preserved c =
    let a = c.args in (
      omega (arith, c.args.columns.now.few, c.loop-r.invariant.0, c.put_region-at.ensures.within),
      region-next (regions (gates_at a.table.now.text.now a.table.now.starts a.table.now.gates)) a.columns.now.numbers.now
          a.columns.now.lists a.total.now a.out.now c.loop-r.r c.loop-r.at
          c.loop-r.invariant.1 c.name_at-name.ensures c.parent_at-parent.ensures c.put_region-at.ensures.writes_from,
    )

pub returns : goal.returns
returns c =
    let z : c.loop-r.r ≡ c.args.m = omega arith in
    record {
      writes = rw z at c.loop-r.invariant.1;
      within = omega (arith, c.requires.0, c.loop-r.invariant.0);
    }
