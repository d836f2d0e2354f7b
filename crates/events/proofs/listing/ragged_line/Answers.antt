-- `ragged_line`: each answer by the law of its case.
use mathlib.Core.Path.{◌∙◌}
use native.Mathlib.Omega.{arith}
use Rattle.events.proofs.AnswerLaws.{line-none, line_open, line-behind, line-nowhere, line_fits}
use Rattle.events.proofs.listing.ragged_line.Goals as goal

pub returns-in_err-line : goal.returns-in_err-line
returns-in_err-line c =
    let a = c.args in
    c.from_residual.ensures ∙ line-none a.several a.headed a.n a.input.now c.split-parted.ensures.parted c.in_err-line.was

pub returns-in_default : goal.returns-in_default
returns-in_default c =
    let a = c.args in
    line_open a.several a.headed a.n a.input.now c.split-parted.ensures.parted c.in_ok-line.was c.in_default.is

pub returns-in_err-bad : goal.returns-in_err-bad
returns-in_err-bad c =
    let a = c.args in
    c.from_residual-in_err-bad.ensures
    ∙ line-nowhere a.several a.headed a.n a.input.now c.split-parted.ensures.parted c.in_ok-line.was c.in-Some.is c.rest_from.ensures c.bad_line.ensures
    c.in_err-bad.was

pub overflow_add-result : goal.overflow_add-result
overflow_add-result c =
    let a = c.args in
    omega (
      arith,
      line_fits a.several a.headed a.n a.input.now c.split-parted.ensures.parted c.in_ok-line.was c.in-Some.is c.rest_from.ensures c.bad_line.ensures
          c.in_ok-bad.was,
    )

pub returns : goal.returns
returns c =
    let a = c.args in
    line-behind a.several a.headed a.n a.input.now c.split-parted.ensures.parted c.in_ok-line.was c.in-Some.is c.rest_from.ensures c.bad_line.ensures
    c.in_ok-bad.was
