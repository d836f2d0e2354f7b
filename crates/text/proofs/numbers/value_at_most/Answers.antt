-- `value_at_most`: a value that is cut at each digit is cut at the end.
use Rattle.std.proofs.Common.{rules, sym}
use Rattle.text.proofs.NumbersLaws.{digits-fold}
use Rattle.text.proofs.numbers.value_at_most.Goals as goal

pub returns : goal.returns
returns g c = rw (sym (digits-fold g.row.MOST c.args.s.now)) (search rules)
