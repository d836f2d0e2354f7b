-- `line_refusal`: the first test that fails gives the refusal, and those before it have passed.
use borrow.Author.Tests.{not-true, not-false}
use Rattle.std.proofs.lemmas.Result.{err_from_is_err_and}
use Rattle.gates.specs.Refusal.{kind_refusal, line_refusal}
use Rattle.gatelines.proofs.LineLaws.{refused}
use Rattle.gatelines.proofs.refusal.line_refusal.Goals as goal

pub returns-then-is_unknown : goal.returns-then-is_unknown
unfolding kind_refusal line_refusal
returns-then-is_unknown c =
    rw (
      ← c.kind_of-kind.ensures,
      ← c.is_unknown.ensures,
      c.if-is_unknown.true,
    )

pub returns-then-not-shape_good : goal.returns-then-not-shape_good
unfolding kind_refusal line_refusal
returns-then-not-shape_good c =
    rw (
      ← c.kind_of-kind.ensures,
      ← c.is_unknown.ensures,
      c.if-is_unknown.false,
      ← c.field_count.ensures,
      ← c.saturating_sub.ensures,
      ← c.shape_good.ensures,
      not-true c.shape_good.result c.if-not-shape_good.true-raw,
    )

pub returns-in_err-fields_refusal : goal.returns-in_err-fields_refusal
unfolding kind_refusal line_refusal
returns-in_err-fields_refusal c =
    let p = err_from_is_err_and c.from_residual.result c.from_residual.ensures.1 in
    rw (
      p.1,
      p.2,
      ← c.kind_of-kind.ensures,
      ← c.is_unknown.ensures,
      c.if-is_unknown.false,
      ← c.field_count.ensures,
      ← c.saturating_sub.ensures,
      ← c.shape_good.ensures,
      not-false c.shape_good.result c.if-not-shape_good.false-raw,
      ← c.in_err-fields_refusal.ensures,
    ) (refused _ _)

pub returns-then-not-matrix_passes : goal.returns-then-not-matrix_passes
unfolding kind_refusal line_refusal
returns-then-not-matrix_passes c =
    rw (
      ← c.kind_of-kind.ensures,
      ← c.is_unknown.ensures,
      c.if-is_unknown.false,
      ← c.field_count.ensures,
      ← c.saturating_sub.ensures,
      ← c.shape_good.ensures,
      not-false c.shape_good.result c.if-not-shape_good.false-raw,
      ← c.in_ok-fields_refusal.ensures,
      ← c.matrix_passes.ensures,
      not-true c.matrix_passes.result c.if-not-matrix_passes.true-raw,
    )

pub returns-then-not-tiling_passes : goal.returns-then-not-tiling_passes
unfolding kind_refusal line_refusal
returns-then-not-tiling_passes c =
    rw (
      ← c.kind_of-kind.ensures,
      ← c.is_unknown.ensures,
      c.if-is_unknown.false,
      ← c.field_count.ensures,
      ← c.saturating_sub.ensures,
      ← c.shape_good.ensures,
      not-false c.shape_good.result c.if-not-shape_good.false-raw,
      ← c.in_ok-fields_refusal.ensures,
      ← c.matrix_passes.ensures,
      not-false c.matrix_passes.result c.if-not-matrix_passes.false-raw,
      ← c.tiling_passes.ensures,
      not-true c.tiling_passes.result c.if-not-tiling_passes.true-raw,
    )

pub returns : goal.returns
unfolding kind_refusal line_refusal
returns c =
    rw (
      ← c.kind_of-kind.ensures,
      ← c.is_unknown.ensures,
      c.if-is_unknown.false,
      ← c.field_count.ensures,
      ← c.saturating_sub.ensures,
      ← c.shape_good.ensures,
      not-false c.shape_good.result c.if-not-shape_good.false-raw,
      ← c.in_ok-fields_refusal.ensures,
      ← c.matrix_passes.ensures,
      not-false c.matrix_passes.result c.if-not-matrix_passes.false-raw,
      ← c.tiling_passes.ensures,
      not-false c.tiling_passes.result c.if-not-tiling_passes.false-raw,
    )
