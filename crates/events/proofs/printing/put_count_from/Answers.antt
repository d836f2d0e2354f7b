-- `put_count_from`: what the call writes from a on.
use Rattle.std.proofs.Common.{rules}
use Rattle.events.specs.Printing.{count_line}
use Rattle.events.proofs.PrintingLaws.{from-call}
use Rattle.events.proofs.printing.put_count_from.Goals as goal

pub returns : goal.returns
returns c = let a = c.args in from-call _ a.a (count_line a.name.now a.count) a.rest.now _ _ (λ y z k h. search rules) c.put_from.ensures
