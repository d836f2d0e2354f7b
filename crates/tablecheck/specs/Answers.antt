-- Refusals of a table by number and place.
use Rattle.plans.specs.Refusals.{Verdict, refused}
use Rattle.gates.specs.LineRefusals.{line_refusal_number}
use Rattle.tablecheck.specs.declared.Refusal.{Refusal}
use Rattle.tablecheck.specs.declared.Refusal.TheVariants.{LongTable, OpenLine, BadHead, BadLine, Crowded, TwinName, DeadReference, Circle, LongPlan, ShortSlice}

-- 01's number and place for each refusal of a table
abbrev pub table_refusal : Refusal → Verdict
table_refusal LongTable = refused 1 0
table_refusal OpenLine = refused 2 0
table_refusal BadHead = refused 3 1
table_refusal (BadLine refusal line) = refused (line_refusal_number refusal) line
table_refusal (Crowded line) = refused 13 line
table_refusal (TwinName line) = refused 14 line
table_refusal (DeadReference line) = refused 15 line
table_refusal (Circle line) = refused 16 line
table_refusal LongPlan = refused 17 0
table_refusal ShortSlice = refused 18 0
