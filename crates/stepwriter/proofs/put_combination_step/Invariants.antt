-- `put_combination_step` meets its contract: the header and the first j operands are written over the beginning.
use mathlib.Core.Path.{◌≡◌}
use mathlib.Core.List.{◌++◌}
use Rattle.text.specs.Bounded.{tab}
use Rattle.text.specs.Lines.{fields}
use Rattle.text.specs.Output.{over}
use Rattle.gates.specs.Kinds.{line_kind}
use Rattle.gates.specs.Inner.Regions.{step_number, body_length}
use Rattle.resolve.specs.Inner.Reading.{regions_at}
use Rattle.writer.specs.Inner.Words.{header, operand_at}
use Rattle.stepwriter.proofs.put_combination_step.Given as goal

abbrev pub invariant-loop-j : goal.invariant-loop-j
invariant-loop-j l =
    l.rest ≡ over (header (step_number (line_kind (fields l.line))) l.region l.parent (body_length (fields l.line))
    ++ tab (operand_at (regions_at l.table.text.now l.table.starts l.table.gates) (fields l.line)) l.j) l.initial.rest
