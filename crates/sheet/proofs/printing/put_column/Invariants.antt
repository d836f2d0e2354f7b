-- `put_column`: the fields of the first j lists are written.
use mathlib.Core.List.{flat_map}
use Rattle.text.specs.Inner.Writing.{WritesFrom}
use Rattle.events.specs.Printing.{number_field}
use Rattle.sheet.specs.Inner.Columns.{column_of}
use Rattle.sheet.proofs.printing.put_column.Given as goal

abbrev pub invariant-loop-j : goal.invariant-loop-j
invariant-loop-j l = WritesFrom l.at (flat_map number_field (column_of l.columns.numbers.now l.j l.r)) l.initial.out l.out l.bytes
