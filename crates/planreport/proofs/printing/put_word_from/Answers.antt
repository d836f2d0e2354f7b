-- `put_word_from`: what the call writes from a on.
use Rattle.std.proofs.Common.{rules}
use Rattle.events.proofs.PrintingLaws.{from-call}
use Rattle.planreport.specs.PlanText.{word_text}
use Rattle.planreport.proofs.printing.put_word_from.Goals as goal

pub returns : goal.returns
returns c = let a = c.args in from-call _ a.a (word_text a.w) a.rest.now _ _ (λ y z k h. search rules) c.put_from.ensures
