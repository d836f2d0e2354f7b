-- `put_from`: the rest from a on is lent.
use Rattle.std.proofs.Common.{refl}
use Rattle.text.proofs.WritingLaws.{rest-lent, rest_written}
use Rattle.text.proofs.output.put_from.Goals as goal

pub returns : goal.returns
returns g c =
    let s = c.args.rest.now in
    let b = c.min-b.result in
    let least = c.min-b.ensures in
    let q = c.write.new.arg2 in
    (q, record { shown = _; shows = rest-lent s _ b least; left = _; met = c.write.ensures; leaves = refl }, rest_written s _ b least q)
