-- `field_count`: n and the fields of the rest from i on are the line's fields and one.
use mathlib.Core.Path.{◌≡◌}
use Prim.Native.Nat.{◌≤◌, ◌+◌}
use lib.ListN.{length, drop}
use Rattle.text.specs.Lines.{fields}
use Rattle.text.proofs.lines.field_count.Given as goal

abbrev pub invariant-loop-i : goal.invariant-loop-i
invariant-loop-i l = (l.n ≤ l.i + 1) × (length (fields l.line) + 1 ≡ l.n + length (fields (drop l.i l.line)))
