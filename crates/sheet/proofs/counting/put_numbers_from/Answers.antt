-- `put_numbers_from`: what the call writes from a on.
use Rattle.std.proofs.Common.{rules}
use Rattle.events.proofs.PrintingLaws.{from-call}
use Rattle.sheet.specs.Inner.Columns.{numbers_of}
use Rattle.sheet.proofs.counting.put_numbers_from.Goals as goal

pub returns : goal.returns
returns c = let a = c.args in from-call _ a.a (numbers_of a.tally) a.columns.now _ _ (λ y z k h. search rules) c.put_from.ensures
