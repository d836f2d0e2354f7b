-- `field`: field k of the line is that field of its rest from a on, counted from those passed.
use mathlib.Core.Path.{◌≡◌}
use mathlib.Core.List.{[]}
use Prim.Native.Nat.{◌-◌, ◌≤◌}
use lib.ListN.{length, drop, get_or}
use Rattle.text.specs.Lines.{fields}
use Rattle.text.proofs.lines.field.Given as goal

abbrev pub invariant-loop : goal.invariant-loop
invariant-loop l = (l.a ≤ length l.line) × (get_or (fields l.line) l.k [] ≡ get_or (fields (drop l.a l.line)) (l.k - l.counter) [])
