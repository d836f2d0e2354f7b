-- `bits_of`: the steps that are left are sound, and settle both sets that are asked.
use mathlib.Core.Path.{◌≡◌}
use lib.ListN.{length}
use Rattle.counter.specs.Members.{bits_of, settled}
use Rattle.counter.specs.Outlines.{outline_of, outline_from}
use Rattle.counter.specs.Inner.Steps.{AllSound}
use Rattle.counter.proofs.passing.bits_of.Given as goal

abbrev pub invariant-loop-left : goal.invariant-loop-left
invariant-loop-left l =
    AllSound l.left l.plan (length l.event) l.at × (bits_of l.plan l.event ≡ settled l.left l.plan l.event l.members l.at)
    × (outline_of l.plan l.event ≡ outline_from l.left l.plan l.event l.members l.outline l.at)

abbrev pub decreases-loop-left : goal.decreases-loop-left
decreases-loop-left l = l.left
