-- `before_point`: the point stands within s.
use Rattle.std.proofs.Common.{sym, arith, length-take-le}
use Rattle.text.proofs.LinesLaws.{found_inside}
use Rattle.decimals.proofs.before_point.Goals as goal

pub slice_bounds-result-end : goal.slice_bounds-result-end
slice_bounds-result-end c =
    let s = c.args.s.now in
    sym (length-take-le c.find.result s (found_inside s 0 46 c.find.ensures (omega arith)))
