-- What the verdict of a table and what compiling answer, by number and place.
use Rattle.std.specs.Prelude.{Bool, true, false, List, ℤ, Result, Ok, Err}
use Rattle.plans.specs.Refusals.{Verdict, passed}
use Rattle.tables.specs.Compile.{Compiling, uncompiled}
use Rattle.tablecheck.specs.Answers.{table_refusal}
use Rattle.tablecheck.specs.declared.Refusal.{Refusal}
use Rattle.compiler.specs.declared.Written.{Written}

-- what a table's verdict says
abbrev pub acceptance : Result Unit Refusal → Verdict
acceptance (Ok _) = passed
acceptance (Err r) = table_refusal r

abbrev pub accepts : Result Unit Refusal → Bool
accepts (Ok _) = true
accepts (Err r) = false

-- what an answer says, with the slice afterwards
abbrev pub compiling : Result Written Refusal → List ℤ → Compiling
compiling (Ok w) slice = record { verdict = passed; words = w.words; regions = w.regions; slice = slice }
compiling (Err r) slice = uncompiled slice (table_refusal r)
