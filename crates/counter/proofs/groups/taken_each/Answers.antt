-- `taken_each`: all has the events taken of those before the e-th.
use mathlib.Core.Path.{◌≡◌}
use native.Mathlib.Omega.{arith}
use lib.ListN.{length}
use Rattle.counter.specs.Counting.{taken_at}
use Rattle.counter.proofs.TallyLaws.{event-inside}
use Rattle.counter.proofs.GroupLaws.{first_next}
use Rattle.counter.proofs.groups.taken_each.Goals as goal

pub loop-e-init : goal.loop-e-init
loop-e-init c = c.requires.3

pub event_of-requires : goal.event_of-requires
event_of-requires c = event-inside c.args.n c.loop-e.e c.args.to (length c.args.group.now) c.loop-e-test.true c.requires.2

pub loop-e-preserved : goal.loop-e-preserved
unfolding taken_at
loop-e-preserved c =
    let loop = c.loop-e in
    let h = c.loop-e-test.true in
    let p = c.requires.1 in
    let flag = rw c.event_of.ensures.0 at c.on_scale-whole.ensures in
    first_next _ loop.e (omega arith) flag loop.invariant c.settle-all.ensures

pub returns : goal.returns
returns c =
    let loop = c.loop-e in
    let q : loop.e ≡ c.args.to = omega arith in
    rw q at loop.invariant
