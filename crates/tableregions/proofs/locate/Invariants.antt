-- `locate` meets its contract: what is left of r behind the gates before this one, each of which ends before region r.
use Rattle.tableregions.specs.Inner.Located.{ends_before}
use Rattle.resolve.specs.Inner.Reading.{regions_at}
use Rattle.plans.specs.Indices.{first_bad}
use lib.ListN.{length}
use Prim.Native.Nat.{◌+◌, ◌-◌}
use mathlib.Core.Path.{◌≡◌}
use Rattle.tableregions.proofs.locate.Given as goal

abbrev pub invariant-loop-gate : goal.invariant-loop-gate
invariant-loop-gate l =
    (l.r ≡ length (regions_at l.table.text.now l.table.starts l.gate) + l.left)
    × (first_bad (ends_before l.table.text.now l.table.starts l.r) 0 l.table.gates
    ≡ first_bad (ends_before l.table.text.now l.table.starts l.r) l.gate (l.table.gates - l.gate))
