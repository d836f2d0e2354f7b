-- `find_field`: the field found from k on is the field found from j on.
use Rattle.std.proofs.Common.{sym, ◌∙◌, ◌≡◌, arith}
use Rattle.text.proofs.LinesLaws.{find_field_here, find_field_goes_on, find_field_end}
use Rattle.text.proofs.lines.find_field.Goals as goal

pub returns-then-same : goal.returns-then-same
returns-then-same c =
    sym
    (c.loop-j.invariant.1
    ∙ find_field_here _ c.loop-j.j _ (omega arith) (rw c.field.ensures at (sym c.same.ensures) ∙ c.if-same.true))

pub loop-j-preserved : goal.loop-j-preserved
loop-j-preserved c = (
  omega arith,
  c.loop-j.invariant.1
      ∙ find_field_goes_on _ c.loop-j.j _ (omega arith) (rw c.field.ensures at (sym c.same.ensures) ∙ c.if-same.false),
)

pub returns : goal.returns
returns c =
    let end : c.max.result ≡ c.loop-j.j = omega arith in
    end ∙ sym (c.loop-j.invariant.1 ∙ find_field_end _ c.loop-j.j _ (omega arith))
