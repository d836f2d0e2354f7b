-- `first_repeated` meets its contract: the first gate whose line gives a name again.
use Rattle.std.proofs.Common.{◌∙◌, ap, ℕ, not, rules}
use borrow.Author.Tests.{tests}
use Rattle.tablecheck.specs.Inner.Names.{below, repeats_at}
use Rattle.tablecheck.proofs.FoundLaws.{found_below}
use Rattle.tablecheck.proofs.RepeatLaws.{repeated-first}
use Rattle.tablecheck.proofs.names.first_repeated.Goals as goal

pub returns : goal.returns
returns c =
    let table = c.args.table.now in
    found_below (λ i. not (repeats_at table.text.now table.starts i)) _ _ _ c.find.result c.find.ensures.ran (λ x b q k. search (rules, tests))
    ∙ ap (λ (k : ℕ). below table.gates k) (repeated-first table.text.now table.starts table.gates)
