-- `bump`: the counts below r are the new ones, those from r on the old.
use mathlib.Core.Path.{◌≡◌}
use mathlib.Core.List.{◌++◌}
use lib.ListN.{drop}
use Rattle.counter.specs.Counting.{list_from}
use Rattle.counter.specs.Inner.Groups.{in_set}
use Rattle.counter.specs.Inner.Raising.{bump_at}
use Rattle.counter.proofs.groups.bump.Given as goal

abbrev pub invariant-loop-r : goal.invariant-loop-r
invariant-loop-r l = l.counts ≡ list_from (bump_at l.initial.counts (in_set l.sets l.e)) 0 l.r ++ drop l.r l.initial.counts
