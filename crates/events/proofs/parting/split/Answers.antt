-- `split`: the answer is made of what the search found.
use Rattle.std.proofs.Common.{◌≡◌, ◌+◌, arith, eqb, get_or}
use Rattle.std.proofs.lemmas.Grind.{common_steps}
use Rattle.events.proofs.PartingLaws.{parted-is}
use Rattle.events.proofs.parting.split.Goals as goal

pub overflow_add-at : goal.overflow_add-at
overflow_add-at c = omega (arith, c.find_events-at.ensures.within)

pub overflow_add-at-2 : goal.overflow_add-at-2
overflow_add-at-2 c = omega (arith, c.find_events-at.ensures.within)

pub returns-clause-parted : goal.returns-clause-parted
returns-clause-parted c =
    let s = c.args.input.now in
    let o = c.find_events-at.result in
    let ended : c.eq-ended.result ≡ eqb (get_or s (o.at + 6) 0) 10 = grind (arith, common_steps) in
    rw c.then_some.ensures (parted-is s o c.eq-ended.result c.find_events-at.ensures.opening ended)
