-- `put_line`: the words of the first k fields are written over the beginning.
use mathlib.Core.Path.{◌≡◌}
use lib.ListN.{take}
use Rattle.text.specs.Output.{over}
use Rattle.runreport.specs.PlanReading.{line_words}
use Rattle.runreport.proofs.reading.put_line.Given as goal

abbrev pub invariant-loop-k : goal.invariant-loop-k
invariant-loop-k l = l.rest ≡ over (take l.k (line_words l.line)) l.initial.rest
