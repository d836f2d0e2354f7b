-- `put_line_from`: what the call writes from a on.
use Rattle.std.proofs.Common.{rules}
use mathlib.Core.List.{◌++◌, [], ◌∷◌}
use Rattle.events.proofs.PrintingLaws.{from-call}
use Rattle.planreport.specs.PlanText.{words_line}
use Rattle.planreport.proofs.printing.put_line_from.Goals as goal

pub returns-clause-writes_from : goal.returns-clause-writes_from
returns-clause-writes_from c =
    let a = c.args in
    from-call _ a.a (words_line a.words.now ++ (10 ∷ [])) a.rest.now _ _ (λ y z k h. search rules) c.put_from.ensures
