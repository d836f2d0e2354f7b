-- `put_regions`: the lines of the first r regions are written over the beginning, each of at most 196,682 bytes.
use Prim.Native.Nat.{◌*◌, ◌≤◌}
use Rattle.gates.specs.Gate.{regions}
use Rattle.resolve.specs.Inner.Reading.{gates_at}
use Rattle.events.proofs.PrintingLaws.{Written}
use Rattle.report.specs.Report.{region_lines}
use Rattle.sheet.specs.Inner.Numbers.{numbers_by}
use Rattle.sheet.proofs.printing.put_regions.Given as goal

abbrev pub invariant-loop-r : goal.invariant-loop-r
invariant-loop-r l =
    let rs = regions (gates_at l.table.text.now l.table.starts l.table.gates) in
    (l.at ≤ 196682 * l.r) × Written (region_lines rs (numbers_by rs l.columns.numbers.now l.columns.lists l.total) l.r) l.initial.out l.at l.out
