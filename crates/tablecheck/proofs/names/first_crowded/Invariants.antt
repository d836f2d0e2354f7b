-- `first_crowded` meets its contract: total regions are passed, and no gate before i crowds.
use Rattle.resolve.specs.Inner.Reading.{gates_at, regions_at}
use Rattle.tables.specs.Refusals.{uncrowded}
use Rattle.plans.specs.Indices.{first_bad}
use lib.ListN.{length}
use Prim.Native.Nat.{◌-◌, ◌≤◌}
use mathlib.Core.Path.{◌≡◌}
use Rattle.tablecheck.proofs.names.first_crowded.Given as goal

abbrev pub invariant-loop-i : goal.invariant-loop-i
invariant-loop-i l =
    (l.total ≤ 64) × (l.total ≡ length (regions_at l.table.text.now l.table.starts l.i))
    × (first_bad (uncrowded (gates_at l.table.text.now l.table.starts l.table.gates)) 0 l.table.gates
    ≡ first_bad (uncrowded (gates_at l.table.text.now l.table.starts l.table.gates)) l.i (l.table.gates - l.i))
