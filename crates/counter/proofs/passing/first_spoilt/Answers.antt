-- `first_spoilt`: the values before the i-th are on the scale.
use mathlib.Core.Path.{sym, ◌∙◌}
use native.Mathlib.Nat.{sub-zero}
use Rattle.plans.proofs.IndexLaws.{first_more, first_stop, first_end}
use Rattle.counter.specs.Judging.{first_spoilt}
use Rattle.counter.proofs.ReadLaws.{value_off, value_on}
use borrow.Author.Rules.{rules}
use Rattle.counter.proofs.passing.first_spoilt.Goals as goal

pub loop-i-init : goal.loop-i-init
unfolding first_spoilt
loop-i-init c = (search rules, rw sub-zero)

pub returns-then-v : goal.returns-then-v
returns-then-v c =
    let loop = c.loop-i in
    sym (loop.invariant.1
    ∙ first_stop _ _ loop.i c.loop-i-test.true
    (value_off c.args.event.now loop.i c.loop-i-test.true c.v-1.given c.if-v.true))

pub loop-i-preserved : goal.loop-i-preserved
loop-i-preserved c =
    let loop = c.loop-i in (
      search rules,
      loop.invariant.1
          ∙ first_more _ _ loop.i c.loop-i-test.true
          (value_on c.args.event.now loop.i c.loop-i-test.true c.v-1.given c.if-v.false),
    )

pub returns : goal.returns
returns c = sym (c.loop-i.invariant.1 ∙ first_end _ _ c.loop-i.i c.loop-i-test.false)
