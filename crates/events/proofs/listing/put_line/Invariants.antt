-- `put_line`: the values of the first k fields are written over the beginning.
use mathlib.Core.Path.{◌≡◌}
use lib.ListN.{take}
use Rattle.text.specs.Output.{over}
use Rattle.events.specs.Inner.Answers.{line_kept}
use Rattle.events.proofs.listing.put_line.Given as goal

abbrev pub invariant-loop-k : goal.invariant-loop-k
invariant-loop-k l = l.rest ≡ over (take l.k (line_kept l.line)) l.initial.rest
