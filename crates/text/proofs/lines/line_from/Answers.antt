-- `line_from`: the line ends at the next LF of the rest, or at its end.
use Rattle.std.proofs.Common.{◌≤◌, sym, arith, length, length-take-le}
use Rattle.text.proofs.LinesLaws.{found_inside, line_is}
use Rattle.text.proofs.lines.line_from.Goals as goal

pub slice_bounds-result-end : goal.slice_bounds-result-end
slice_bounds-result-end c =
    let l : c.find.result ≤ length c.rest_from-rest.result.now = found_inside _ 0 10 c.find.ensures (omega arith) in
    sym (length-take-le c.find.result c.rest_from-rest.result.now l)

pub returns : goal.returns
returns c = rw (c.find.ensures, c.rest_from-rest.ensures) (line_is c.args.text.now c.args.a)
