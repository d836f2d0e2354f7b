-- `test_columns`: right where line 1 and the column line end together, and wrong at the first field that differs.
use Rattle.heads.proofs.ColumnLaws.{place_inside, tested-right, tested-wrong}
use borrow.Author.Rules.{rules}
use mathlib.Core.Path.{sym}
use Rattle.heads.proofs.test_columns.Goals as goal

pub overflow_add-k : goal.overflow_add-k
overflow_add-k c =
    let a = c.args in
    let h = c.head_line-head.ensures in
    let l = place_inside a.table.now a.columns.now h c.field_count-n.ensures c.first_differing-k.ensures in
    search rules

pub returns-then-k-n : goal.returns-then-k-n
returns-then-k-n c =
    let a = c.args in
    sym (tested-right a.table.now a.columns.now c.head_line-head.ensures c.field_count-n.ensures
    c.first_differing-k.ensures c.field_count.ensures c.if-k-n.true)

pub returns : goal.returns
returns c =
    let a = c.args in
    sym (tested-wrong a.table.now a.columns.now c.head_line-head.ensures c.field_count-n.ensures
    c.first_differing-k.ensures c.field_count.ensures c.if-k-n.false)
