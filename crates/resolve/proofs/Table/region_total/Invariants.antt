-- `Table::region_total` meets its contract: total regions are passed, fewer than 64.
use Rattle.resolve.specs.Inner.Reading.{regions_at}
use lib.ListN.{length}
use Prim.Native.Nat.{◌<◌}
use mathlib.Core.Path.{◌≡◌}
use Rattle.resolve.proofs.Table.region_total.Given as goal

abbrev pub invariant-loop-i : goal.invariant-loop-i
invariant-loop-i l = (l.total < 64) × (l.total ≡ length (regions_at l.self.text.now l.self.starts l.i))
