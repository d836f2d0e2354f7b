-- `lines_refusal` meets its contract: a cursor over the gate lines, none before it refused.
use Rattle.tablecheck.proofs.CursorLaws.{Cursor}
use lib.ListN.{length}
use Prim.Native.Nat.{◌+◌, ◌-◌, ◌≤◌}
use Rattle.tablecheck.proofs.lines_refusal.Given as goal

abbrev pub invariant-loop-at : goal.invariant-loop-at
invariant-loop-at l = (2 ≤ l.line) × Cursor l.text l.at (l.line - 2)

abbrev pub decreases-loop-at : goal.decreases-loop-at
decreases-loop-at l = length l.text + 1 - l.at
