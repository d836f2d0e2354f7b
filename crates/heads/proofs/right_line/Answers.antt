-- `right_line`: what stands behind the first tab of line 1 is the names parted by tabs.
use Rattle.heads.proofs.ColumnLaws.{nothing-behind, behind-tab}
use Rattle.tables.specs.Head.{head_fields, dimensions}
use Rattle.tables.specs.Columns.{right_line}
use Rattle.heads.proofs.right_line.Goals as goal

pub returns-then-head-end : goal.returns-then-head-end
unfolding right_line dimensions head_fields
returns-then-head-end c =
    let head = c.head_line-head in
    rw (← head.ensures) (nothing-behind head.result.now c.find-end.result c.find-end.ensures c.if-head-end.true)

pub returns : goal.returns
unfolding right_line dimensions head_fields
returns c =
    let head = c.head_line-head in
    rw (← head.ensures) (behind-tab head.result.now c.find-end.result c.find-end.ensures c.if-head-end.false)
