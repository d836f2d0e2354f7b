-- `put_numbers`: the first r counts are written over the beginning.
use Rattle.sheet.proofs.ColumnLaws.{CountsTo}
use Rattle.sheet.proofs.counting.put_numbers.Given as goal

abbrev pub invariant-loop-r : goal.invariant-loop-r
invariant-loop-r l = CountsTo l.tally l.initial.rest l.r l.rest
