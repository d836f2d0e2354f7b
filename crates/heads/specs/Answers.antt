-- What testing a column line says, by number and place.
use Rattle.std.specs.Prelude.{Result, Ok, Err}
use Rattle.plans.specs.Refusals.{Verdict, passed, refused}
use Rattle.heads.specs.declared.WrongColumns.{WrongColumns}

-- 02: "31 `wrong columns`, place the first differing field"
abbrev pub wrong_columns : WrongColumns → Verdict
wrong_columns w = refused 31 w.field

abbrev pub columns_said : Result Unit WrongColumns → Verdict
columns_said (Ok _) = passed
columns_said (Err w) = wrong_columns w
