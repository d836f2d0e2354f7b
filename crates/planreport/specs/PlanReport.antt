-- What `gateplan` prints of a table: its plan's text, or `refused`, number, place.
use Rattle.std.specs.Prelude.{ℕ, List}
use Rattle.tables.specs.Refusals.{table_verdict}
use Rattle.tables.specs.Compile.{plan_of}
use Rattle.events.specs.Printing.{unless_refused}
use Rattle.planreport.specs.PlanText.{plan_text}

-- its plan has room for 4,096 words
unfoldable pub plan_report_of : List ℕ → List ℕ
plan_report_of table = unless_refused (table_verdict 4096 table) (plan_text (plan_of table))
