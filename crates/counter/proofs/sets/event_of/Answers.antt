-- `event_of`: it lies in the group.
use mathlib.Core.Path.{refl}
use Rattle.counter.proofs.GroupLaws.{event-part, event-long}
use Rattle.counter.proofs.sets.event_of.Goals as goal

pub returns : goal.returns
returns c =
    let n = c.args.n in
    let group = c.args.group.now in
    let e = c.args.e in
    rw (event-part n group e c.requires) (refl, event-long n group e c.requires)
