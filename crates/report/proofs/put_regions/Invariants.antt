-- `put_regions`: the lines of the first r regions are written over the beginning.
use Rattle.gates.specs.Gate.{regions}
use Rattle.resolve.specs.Inner.Reading.{gates_at}
use Rattle.events.proofs.PrintingLaws.{Written}
use Rattle.report.specs.Report.{region_lines, count_numbers}
use Rattle.report.proofs.put_regions.Given as goal

abbrev pub invariant-loop-r : goal.invariant-loop-r
invariant-loop-r l =
    Written (region_lines (regions (gates_at l.table.text.now l.table.starts l.table.gates)) (count_numbers l.counts) l.r) l.initial.out l.at l.out
