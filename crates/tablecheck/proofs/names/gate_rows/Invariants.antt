-- `gate_rows` meets its contract: the rows below i are those of their gates.
use Rattle.tablecheck.proofs.RowLaws.{Row}
use Rattle.tablecheck.specs.Inner.Names.{refers_by}
use lib.ListN.{length, get_or}
use Prim.Native.Nat.{ℕ, ◌<◌}
use mathlib.Core.Path.{◌≡◌}
use Rattle.tablecheck.proofs.names.gate_rows.Given as goal

abbrev pub invariant-loop-i : goal.invariant-loop-i
invariant-loop-i l =
    (length l.rows.bits ≡ 64) × ((a : ℕ) → a < l.i → Row (refers_by l.table.text.now l.table.starts a) l.table.gates (get_or l.rows.bits a 0))
