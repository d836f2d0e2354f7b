-- `triples_of`: rest has the events that are in the triples before the t-th.
use native.Mathlib.Numerals.{add-one}
use Rattle.counter.proofs.GroupLaws.{triples_none, triples_next}
use Rattle.counter.proofs.sets.triples_of.Goals as goal

pub loop-t-init : goal.loop-t-init
loop-t-init c =
    let args = c.args in
    triples_none args.n args.group.now args.body.now args.among

pub loop-t-preserved : goal.loop-t-preserved
loop-t-preserved c =
    let loop = c.loop-t in
    let args = c.args in
    rw (add-one loop.t) (triples_next args.n args.group.now args.body.now loop.t c.requires.0 loop.invariant c.triple_of-rest.ensures)
