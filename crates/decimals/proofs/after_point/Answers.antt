-- `after_point`: the point stands within s.
use Rattle.std.proofs.Common.{rules, arith}
use Rattle.text.proofs.LinesLaws.{found_inside}
use Rattle.decimals.proofs.after_point.Goals as goal

pub overflow_add-find : goal.overflow_add-find
overflow_add-find c = let h = found_inside c.args.s.now 0 46 c.find.ensures (omega arith) in search rules
