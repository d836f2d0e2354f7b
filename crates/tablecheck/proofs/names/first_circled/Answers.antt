-- `first_circled` meets its contract: the first row with its own bit.
use Rattle.std.proofs.Common.{◌∙◌, ap, ℕ, rules}
use borrow.Author.Tests.{tests}
use Rattle.tablecheck.specs.Inner.Names.{below}
use Rattle.tablecheck.proofs.CircleLaws.{unlooped, circles_are}
use Rattle.tablecheck.proofs.FoundLaws.{found_below}
use Rattle.tablecheck.proofs.names.first_circled.Goals as goal

pub returns : goal.returns
returns c =
    let table = c.args.table.now in
    found_below (unlooped c.reach-rows.result.bits) _ _ _ c.find.result c.find.ensures.ran (λ x b q k. search (rules, tests))
    ∙ ap (λ (k : ℕ). below table.gates k)
    (circles_are table.text.now table.starts table.gates c.gate_rows.result.bits c.reach-rows.result.bits c.gate_rows.ensures c.reach-rows.ensures)
