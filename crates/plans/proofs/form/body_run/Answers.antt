-- `body_run`: the words from the i-th on begin with as many good ones.
use mathlib.Core.Path.{◌≡◌, sym, ◌∙◌}
use native.Mathlib.Omega.{arith}
use native.Mathlib.Nat.{sub-zero}
use mathlib.Core.Bool.{true}
use lib.Dec.{eqb}
use lib.ListN.{length}
use borrow.Author.Rules.{rules}
use Rattle.plans.specs.Kinds.{kind_number}
use borrow.Author.Tests.{not-true, not-false}
use Rattle.plans.specs.Inner.Reader.{body_run}
use Rattle.plans.proofs.KindLaws.{ellipsoid-run-is}
use Rattle.plans.proofs.IndexLaws.{first_more, first_stop, first_end}
use Rattle.plans.proofs.form.body_run.Goals as goal

pub returns-then-eq : goal.returns-then-eq
returns-then-eq c =
    let e : eqb (kind_number c.args.kind) 8 ≡ true = search rules in
    c.ellipsoid_run.ensures ∙ ellipsoid-run-is _ _ _ _ c.args.kind e

pub loop-i-init : goal.loop-i-init
unfolding body_run
loop-i-init c = rw sub-zero

pub returns-then-not-body_word : goal.returns-then-not-body_word
returns-then-not-body_word c =
    let loop = c.loop-i in
    sym (loop.invariant ∙ first_stop _ _ loop.i c.loop-i-test.true (sym c.body_word.ensures ∙ not-true _ c.if-not-body_word.true-raw))

pub loop-i-preserved : goal.loop-i-preserved
loop-i-preserved c =
    let loop = c.loop-i in
    loop.invariant ∙ first_more _ _ loop.i c.loop-i-test.true (sym c.body_word.ensures ∙ not-false _ c.if-not-body_word.false-raw)

pub returns : goal.returns
returns c =
    let i = c.loop-i.i in
    let e : i ≡ length c.args.body.now = omega arith in
    sym (c.loop-i.invariant ∙ first_end _ _ i (omega arith) ∙ e)
