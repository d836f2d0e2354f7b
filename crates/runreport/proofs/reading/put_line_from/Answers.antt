-- `put_line_from`: what the call writes from a on.
use Rattle.std.proofs.Common.{rules}
use Rattle.events.proofs.PrintingLaws.{from-call}
use Rattle.runreport.specs.PlanReading.{line_words}
use Rattle.runreport.proofs.reading.put_line_from.Goals as goal

pub returns : goal.returns
returns c = let a = c.args in from-call _ a.a (line_words a.line.now) a.words.now _ _ (λ y z k h. search rules) c.put_from.ensures
