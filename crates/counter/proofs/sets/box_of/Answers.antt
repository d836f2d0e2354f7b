-- `box_of`: one by one or triple by triple, the same events are found.
use Rattle.counter.proofs.GroupLaws.{triples_all}
use Rattle.counter.proofs.sets.box_of.Goals as goal

pub returns : goal.returns
returns c =
    let args = c.args in
    triples_all args.n args.group.now args.body.now c.triples_of.ensures
