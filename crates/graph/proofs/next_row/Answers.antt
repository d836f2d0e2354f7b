-- `next_row` meets its contract.
use Rattle.std.proofs.Common.{◌∙◌, rules}
use borrow.Author.Tests.{tests}
use Rattle.graph.proofs.RangeLaws.{first_found}
use Rattle.graph.specs.Inner.Rows.{held}
use Rattle.graph.proofs.next_row.Goals as goal

pub returns : goal.returns
unfolding held
returns c = c.unwrap_or.ensures ∙ first_found (held c.args.rows.now.bits c.args.set) _ _ _ c.find.result c.find.ensures.ran (λ x b q k. search (rules, tests))
