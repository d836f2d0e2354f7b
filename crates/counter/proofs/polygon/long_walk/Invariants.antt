-- `long_walk`: after each stretch the sum is what `walked` holds.
use mathlib.Core.Path.{◌≡◌}
use Prim.Native.Nat.{◌-◌, ◌/◌, ◌%◌, ◌≤◌}
use lib.ListN.{length}
use mir.Syntax.{w64}
use mir.Val.{SFits}
use Rattle.counter.specs.Walk.{walked}
use Rattle.std.proofs.Common.{Some}
use Rattle.counter.proofs.polygon.long_walk.Given as goal

abbrev pub invariant-loop-i : goal.invariant-loop-i
invariant-loop-i l = (walked l.v l.point.x l.point.y (l.i / 2) ≡ Some l.sum) × (l.i % 2 ≡ 0) × (l.i ≤ length l.v) × SFits w64 l.sum

abbrev pub decreases-loop-i : goal.decreases-loop-i
decreases-loop-i l = l.n - l.i
