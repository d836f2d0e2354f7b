-- `on_scale`: good says whether the values before the one at hand are on the scale.
use mathlib.Core.Path.{◌≡◌, refl, ◌∙◌}
use native.Mathlib.Omega.{arith}
use native.Mathlib.Numerals.{add-one}
use lib.ListN.{length}
use Rattle.plans.specs.Indices.{all}
use Rattle.counter.specs.Judging.{taken}
use Rattle.counter.proofs.ReadLaws.{value-more}
use Rattle.counter.proofs.groups.on_scale.Goals as goal

pub loop-v-init : goal.loop-v-init
unfolding all
loop-v-init c = refl

pub loop-v-preserved : goal.loop-v-preserved
unfolding all
loop-v-preserved c =
    let loop = c.loop-v in
    value-more c.args.values.now loop.v-index c.loop-v-test.true c.v-1.given loop.good ∙ rw (loop.invariant, add-one loop.v-index)

pub returns : goal.returns
unfolding taken
returns c =
    let e : c.loop-v.v-index ≡ length c.args.values.now = omega arith in
    rw e at c.loop-v.invariant
