-- `head_run`: the words from the j-th on begin with as many good ones.
use mathlib.Core.Path.{◌≡◌, refl, sym, ◌∙◌}
use native.Mathlib.Omega.{arith}
use borrow.Author.Tests.{not-true, not-false}
use Rattle.plans.specs.Inner.Reader.{head_run}
use Rattle.plans.proofs.IndexLaws.{first_more, first_stop, first_end}
use Rattle.plans.proofs.form.head_run.Goals as goal

pub loop-j-init : goal.loop-j-init
unfolding head_run
loop-j-init c = refl

pub returns-then-not-head_word : goal.returns-then-not-head_word
returns-then-not-head_word c =
    let loop = c.loop-j in
    sym (loop.invariant ∙ first_stop _ 4 loop.j c.loop-j-test.true (sym c.head_word.ensures ∙ not-true _ c.if-not-head_word.true-raw))

pub loop-j-preserved : goal.loop-j-preserved
loop-j-preserved c =
    let loop = c.loop-j in
    loop.invariant ∙ first_more _ 4 loop.j c.loop-j-test.true (sym c.head_word.ensures ∙ not-false _ c.if-not-head_word.false-raw)

pub returns : goal.returns
returns c =
    let j = c.loop-j.j in
    let e : j ≡ 4 = omega arith in
    sym (c.loop-j.invariant ∙ first_end _ 4 j (omega arith) ∙ e)
