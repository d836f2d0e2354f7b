-- `round` meets its contract: rows below i are the new ones, those from i on the old.
use Rattle.graph.specs.Inner.Rows.{joined}
use Rattle.text.specs.Output.{over}
use Rattle.text.specs.Bounded.{tab}
use mathlib.Core.Path.{◌≡◌}
use Rattle.graph.proofs.round.Given as goal

abbrev pub invariant-loop-i : goal.invariant-loop-i
invariant-loop-i l = l.rows ≡ over (tab (joined l.initial.rows l.s) l.i) l.initial.rows
