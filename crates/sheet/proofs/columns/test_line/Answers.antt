-- `test_line`: a column line by its names, another line not at all.
use Rattle.sheet.proofs.columns.test_line.Goals as goal

pub returns-then-headed : goal.returns-then-headed
returns-then-headed c = rw c.if-headed.true c.test_columns.ensures

pub returns : goal.returns
returns c = rw c.if-headed.false
