-- `first_differing`: field by field, till one differs or one of the two ends.
use Rattle.tables.specs.Columns.{first_differing}
use Rattle.text.specs.Lines.{fields}
use lib.ListN.{drop}
use Prim.Native.Nat.{◌+◌, ◌-◌, ◌≤◌}
use mathlib.Core.Path.{◌≡◌}
use Rattle.heads.proofs.first_differing.Given as goal

abbrev pub invariant-loop-k : goal.invariant-loop-k
invariant-loop-k l =
    (l.k + 1 ≤ l.n)
    × (first_differing (drop 1 (fields l.head)) (fields l.line) ≡ l.k + first_differing (drop (l.k + 1) (fields l.head)) (drop l.k (fields l.line)))

abbrev pub decreases-loop-k : goal.decreases-loop-k
decreases-loop-k l = l.n - l.k
