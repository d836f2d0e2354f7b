-- `in_triple`: the words that are read are those of the triple.
use native.Mathlib.Omega.{arith}
use Rattle.counter.proofs.ReadLaws.{triple_is}
use Rattle.counter.proofs.shapes.in_triple.Goals as goal

pub returns : goal.returns
returns c =
    let args = c.args in
    let pre = c.requires in
    triple_is args.event.now args.body.now args.i pre.0 pre.1 c.number_in-d.ensures
    (let e = c.number_in-d.ensures in let h = pre.2 in omega arith) c.v-1.given c.result-1.given c.result-2-1.given
