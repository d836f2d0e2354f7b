-- `ellipsoid_run`: as `ellipsoid_run`, of an ellipsoid.
use mathlib.Core.Path.{◌≡◌, sym, ◌∙◌}
use native.Mathlib.Omega.{arith}
use native.Mathlib.Nat.{sub-zero}
use lib.ListN.{length}
use borrow.Author.Tests.{not-true, not-false}
use Rattle.plans.specs.Inner.Reader.{ellipsoid_run}
use Rattle.plans.proofs.IndexLaws.{first_more, first_stop, first_end}
use Rattle.plans.proofs.form.ellipsoid_run.Goals as goal

pub loop-i-init : goal.loop-i-init
unfolding ellipsoid_run
loop-i-init c = rw sub-zero

pub returns-then-not-ellipsoid_word : goal.returns-then-not-ellipsoid_word
returns-then-not-ellipsoid_word c =
    let loop = c.loop-i in
    sym (loop.invariant ∙ first_stop _ _ loop.i c.loop-i-test.true (sym c.ellipsoid_word.ensures ∙ not-true _ c.if-not-ellipsoid_word.true-raw))

pub loop-i-preserved : goal.loop-i-preserved
loop-i-preserved c =
    let loop = c.loop-i in
    loop.invariant ∙ first_more _ _ loop.i c.loop-i-test.true (sym c.ellipsoid_word.ensures ∙ not-false _ c.if-not-ellipsoid_word.false-raw)

pub returns : goal.returns
returns c =
    let i = c.loop-i.i in
    let e : i ≡ length c.args.body.now = omega arith in
    sym (c.loop-i.invariant ∙ first_end _ _ i (omega arith) ∙ e)
