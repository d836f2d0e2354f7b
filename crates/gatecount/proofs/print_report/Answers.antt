-- `print_report`: a report fits the 4,096 bytes.
use Rattle.std.proofs.Common.{arith, sym}
use lib.Seq.{length-take-le}
use Rattle.report.proofs.ReportLaws.{report_fits}
use Rattle.gatecount.proofs.print_report.Goals as goal

pub slice_bounds-out-end : goal.slice_bounds-out-end
slice_bounds-out-end g c = omega (arith, c.report-n.ensures.0, c.report-n.auto.out, c.report_room-out.ensures, report_fits c.args.input.now)

pub slice_bounds-write_all-end : goal.slice_bounds-write_all-end
slice_bounds-write_all-end g c = sym (length-take-le c.report-n.result c.report-n.new.out
    (omega (arith, c.report-n.ensures.0, c.report-n.auto.out, c.report_room-out.ensures, report_fits c.args.input.now)))
