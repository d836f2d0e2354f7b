-- `index_lines`: the first n places are put, and the others are those of the lines from `at` on.
use mathlib.Core.Path.{◌≡◌}
use Prim.Native.Nat.{◌≤◌, ◌-◌}
use lib.ListN.{length, take, drop}
use Rattle.text.specs.Lines.{lines}
use Rattle.text.specs.Inner.Places.{starts_from, line_starts}
use Rattle.text.specs.Output.{over}
use Rattle.text.proofs.lines.index_lines.Given as goal

abbrev pub invariant-loop-at : goal.invariant-loop-at
invariant-loop-at l =
    (l.n ≤ l.at) × (l.n ≤ length (line_starts l.text)) × (drop l.n (line_starts l.text) ≡ starts_from l.at (lines (drop l.at l.text)))
    × (l.starts ≡ over (take l.n (line_starts l.text)) l.initial.starts)

abbrev pub decreases-loop-at : goal.decreases-loop-at
decreases-loop-at l = length l.text - l.at
