-- `test_lists`: the column lines behind the first `events`, where it opens a list.
use mathlib.Core.Bool.{true}
use Rattle.events.proofs.ColumnLaws.{columns-split, columns-unsplit}
use Rattle.sheet.proofs.columns.test_lists.Goals as goal

pub returns-in-Some : goal.returns-in-Some
returns-in-Some c = rw (columns-split c.args.input.now c.split.ensures.parted true c.in-Some.is c.rest_from.ensures) c.test_part.ensures

pub returns-in-None : goal.returns-in-None
returns-in-None c = rw (columns-unsplit c.args.input.now c.split.ensures.parted true c.in-None.is)
