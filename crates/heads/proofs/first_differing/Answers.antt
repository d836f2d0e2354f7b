-- `first_differing`: field by field, till one differs or one of the two ends.
use Rattle.heads.proofs.ColumnLaws.{names_reach, differing_later, differing_here, differing_end}
use Rattle.text.specs.Lines.{fields}
use Rattle.text.proofs.LinesLaws.{fields-some}
use native.Mathlib.Omega.{arith}
use mathlib.Core.Path.{sym, ◌∙◌}
use Rattle.heads.proofs.first_differing.Goals as goal

pub loop-k-init : goal.loop-k-init
unfolding fields
loop-k-init c = let l = fields-some 9 c.args.head.now in (omega (arith, c.field_count-n.ensures), omega arith)

pub returns-then-name-find_field : goal.returns-then-name-find_field
returns-then-name-find_field c =
    let loop = c.loop-k in
    let a = c.args in
    sym (loop.invariant.1
    ∙ differing_here (fields a.head.now) (fields a.line.now) loop.k c.field_count-n.ensures c.field_count-m.ensures
    c.loop-k-test.true c.field.ensures c.find_field.ensures c.if-name-find_field.true)

pub loop-k-preserved : goal.loop-k-preserved
loop-k-preserved c =
    let loop = c.loop-k in
    let a = c.args in (
      names_reach _ _ _ c.loop-k-test.true,
      loop.invariant.1
          ∙ differing_later (fields a.head.now) (fields a.line.now) loop.k c.field_count-n.ensures c.field_count-m.ensures
          c.loop-k-test.true c.field.ensures c.find_field.ensures c.if-name-find_field.false,
    )

pub returns : goal.returns
returns c =
    let loop = c.loop-k in
    let a = c.args in
    sym (loop.invariant.1
    ∙ differing_end (fields a.head.now) (fields a.line.now) loop.k c.field_count-n.ensures c.field_count-m.ensures
    c.loop-k-test.false)
