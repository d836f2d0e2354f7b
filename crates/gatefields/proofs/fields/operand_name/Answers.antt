-- `operand_name`: a field with `!` has a byte to leave out.
use native.Mathlib.Omega.{arith}
use mathlib.Core.Path.{sym, ◌∙◌}
use Rattle.gates.specs.Kinds.{operand_name}
use Rattle.gates.proofs.FieldLaws.{complement-some}
use Rattle.text.proofs.BytesLaws.{part-rest}
use Rattle.gatefields.proofs.fields.operand_name.Goals as goal

pub slice_bounds-result-count : goal.slice_bounds-result-count
slice_bounds-result-count c = omega (arith, complement-some _ (sym c.is_complement.ensures ∙ c.if-is_complement.true))

pub slice_bounds-result-start : goal.slice_bounds-result-start
slice_bounds-result-start c = omega (arith, complement-some _ (sym c.is_complement.ensures ∙ c.if-is_complement.true))

pub returns-then-is_complement : goal.returns-then-is_complement
unfolding operand_name
returns-then-is_complement c =
    rw (← c.is_complement.ensures, c.if-is_complement.true) (part-rest 1 c.args.x.now)

pub returns : goal.returns
unfolding operand_name
returns c = rw (← c.is_complement.ensures, c.if-is_complement.false)
