-- `put_field_from`: what the call writes from a on.
use Rattle.std.proofs.Common.{rules}
use Rattle.events.specs.Printing.{number_field}
use Rattle.events.proofs.PrintingLaws.{from-call}
use Rattle.events.proofs.printing.put_field_from.Goals as goal

pub returns : goal.returns
returns c = let a = c.args in from-call _ a.a (number_field a.x) a.rest.now _ _ (λ y z k h. search rules) c.put_from.ensures
