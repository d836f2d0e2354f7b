-- `column_line`: the line behind `events` where a list is opened, else the right one.
use mathlib.Core.Path.{sym}
use lib.Seq.{length-take-le}
use Rattle.report.proofs.InputLaws.{column-opened, column-none}
use Rattle.report.proofs.column_line.Goals as goal

pub returns-in-Some : goal.returns-in-Some
returns-in-Some c = column-opened c.args.input.now c.split-parted.ensures.parted c.in-Some.is c.rest_from.ensures c.line_from.ensures

pub slice_bounds-right_line-end : goal.slice_bounds-right_line-end
slice_bounds-right_line-end c = sym (length-take-le c.split-parted.result.table c.args.input.now c.split-parted.ensures.within)

pub returns-in-None : goal.returns-in-None
returns-in-None c = column-none c.args.input.now c.split-parted.ensures.parted c.in-None.is c.right_line.ensures
