-- What counting by a table answers.
use Rattle.std.specs.Prelude.{List as ListOf, ℤ, Result, Ok, Err}
use Rattle.plans.specs.Refusals.{Verdict, passed, refused, refusal}
use Rattle.counter.specs.Counting.{no_tally}
use Rattle.tables.specs.TableCount.{TableCounting}
use Rattle.heads.specs.Answers.{wrong_columns}
use Rattle.tablecheck.specs.Answers.{table_refusal}
use Rattle.counttable.specs.declared.Refusal.{Refusal}
use Rattle.counttable.specs.declared.Refusal.TheVariants.{Table, Columns, List}
use Rattle.counttable.specs.declared.Counted.{Counted}

-- the number and place of each refusal
abbrev pub count_refusal : Refusal → Verdict
count_refusal (Table r) = table_refusal r
count_refusal (Columns w) = wrong_columns w
count_refusal (List r) = refusal r

-- what an answer says, with the slice afterwards; a refusal reports 0 words and 0 regions, and nothing is counted
abbrev pub table_counting : Result Counted Refusal → ListOf ℤ → TableCounting
table_counting (Ok c) slice = record { verdict = passed; words = c.words; regions = c.regions; tally = c.tally; slice = slice }
table_counting (Err r) slice = record { verdict = count_refusal r; words = 0; regions = 0; tally = no_tally; slice = slice }
