-- `print_sheet`: a sheet fits the 1,300,000 bytes.
use Rattle.std.proofs.Common.{arith, sym}
use lib.Seq.{length-take-le}
use Rattle.sheet.proofs.FitsLaws.{sheet_fits}
use Rattle.gatesheet.proofs.print_sheet.Goals as goal

pub slice_bounds-out-end : goal.slice_bounds-out-end
slice_bounds-out-end g c = omega (arith, c.sheet-n.ensures.0, c.sheet-n.auto.out, c.sheet_room-out.ensures, sheet_fits c.args.input.now)

pub slice_bounds-write_all-end : goal.slice_bounds-write_all-end
slice_bounds-write_all-end g c = sym (length-take-le c.sheet-n.result c.sheet-n.new.out
    (omega (arith, c.sheet-n.ensures.0, c.sheet-n.auto.out, c.sheet_room-out.ensures, sheet_fits c.args.input.now)))
