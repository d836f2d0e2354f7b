-- `Table::number_of` meets its contract: base regions are passed, and the search is among those from base on.
use Rattle.resolve.proofs.NumberLaws.{Numbering}
use Prim.Native.Nat.{◌<◌}
use Rattle.resolve.proofs.Table.number_of.Given as goal

abbrev pub invariant-loop-i : goal.invariant-loop-i
invariant-loop-i l = (l.base < 64) × Numbering l.self.text.now l.self.starts l.self.gates l.name l.i l.base
