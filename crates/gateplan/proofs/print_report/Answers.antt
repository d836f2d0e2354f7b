-- `print_report`: the text of a plan fits the 49,152 bytes.
use Rattle.std.proofs.Common.{arith, sym}
use lib.Seq.{length-take-le}
use Rattle.planreport.proofs.LengthLaws.{plan_report_fits}
use Rattle.gateplan.proofs.print_report.Goals as goal

pub slice_bounds-out-end : goal.slice_bounds-out-end
slice_bounds-out-end g c = omega (arith, c.plan_report-n.ensures.0, c.plan_report-n.auto.out, c.text_room-out.ensures, plan_report_fits c.args.input.now)

pub slice_bounds-write_all-end : goal.slice_bounds-write_all-end
slice_bounds-write_all-end g c = sym (length-take-le c.plan_report-n.result c.plan_report-n.new.out
    (omega (arith, c.plan_report-n.ensures.0, c.plan_report-n.auto.out, c.text_room-out.ensures, plan_report_fits c.args.input.now)))
