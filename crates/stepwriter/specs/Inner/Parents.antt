-- The numbers of parents among the regions of a table.
use Rattle.std.proofs.Math.Option.{Option, none, some}
use Rattle.std.specs.Prelude.{List, ℕ, min}
use Rattle.gates.specs.Gate.{Name, Region}
use Rattle.tables.specs.Table.{number_of}

-- the number of the region that is named as a parent; 64 for none, and a number of more than 64 is held at 64
abbrev pub number_of_parent : List Region → Option Name → ℕ
number_of_parent rs none = 64
number_of_parent rs (some name) = min 64 (number_of rs name)
