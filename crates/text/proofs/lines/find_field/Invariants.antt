-- `find_field`: the field found from k on is the field found from j on.
use Rattle.std.proofs.Common.{◌≡◌, ◌≤◌, max}
use Rattle.text.specs.Lines.{fields}
use Rattle.text.specs.Inner.Places.{find_field}
use Rattle.text.proofs.lines.find_field.Given as goal

abbrev pub invariant-loop-j : goal.invariant-loop-j
invariant-loop-j l = (l.j ≤ max l.k l.n) × (find_field (fields l.line) l.k l.x ≡ find_field (fields l.line) l.j l.x)
