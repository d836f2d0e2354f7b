-- The numbers of a gate line's refusals.
use Rattle.std.specs.Prelude.{ℕ, Result, Ok, Err}
use Rattle.gates.specs.Rules.{no_refusal}
use Rattle.gates.specs.declared.LineRefusal.{LineRefusal}
use Rattle.gates.specs.declared.LineRefusal.TheVariants.{UnknownKind, WrongShape, BadName, BadNumber, OffScale, BadDimension, CrossedBounds, BadMatrix, NoTiling}

-- 01's numbers
abbrev pub line_refusal_number : LineRefusal → ℕ
line_refusal_number UnknownKind = 4
line_refusal_number WrongShape = 5
line_refusal_number BadName = 6
line_refusal_number BadNumber = 7
line_refusal_number OffScale = 8
line_refusal_number BadDimension = 9
line_refusal_number CrossedBounds = 10
line_refusal_number BadMatrix = 11
line_refusal_number NoTiling = 12

-- the number that a field or a line earns
abbrev pub earned_number : Result Unit LineRefusal → ℕ
earned_number (Ok _) = no_refusal
earned_number (Err r) = line_refusal_number r
