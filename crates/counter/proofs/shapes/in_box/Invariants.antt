-- `in_box`: inside says whether the triples before the i-th word hold the event.
use mathlib.Core.Path.{◌≡◌}
use Prim.Native.Nat.{◌≤◌, ◌-◌, ◌/◌, ◌%◌}
use lib.ListN.{length}
use Rattle.plans.specs.Indices.{all}
use Rattle.counter.specs.Members.{triple_in}
use Rattle.counter.proofs.shapes.in_box.Given as goal

abbrev pub invariant-loop-i : goal.invariant-loop-i
invariant-loop-i l = (l.i ≤ length l.body) × (l.i % 3 ≡ 0) × (l.inside ≡ all (triple_in l.event l.body) (l.i / 3))

abbrev pub decreases-loop-i : goal.decreases-loop-i
decreases-loop-i l = length l.body - l.i
