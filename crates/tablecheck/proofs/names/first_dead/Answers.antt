-- `first_dead` meets its contract: the first gate with a reference that names no region.
use Rattle.std.proofs.Common.{rules}
use borrow.Author.Tests.{tests}
use Rattle.tables.specs.Refusals.{living}
use Rattle.resolve.specs.Inner.Reading.{gates_at}
use Rattle.tablecheck.proofs.FoundLaws.{found_below, not_back}
use Rattle.tablecheck.proofs.names.first_dead.Goals as goal

pub returns : goal.returns
returns c =
    let table = c.args.table.now in
    found_below (living (gates_at table.text.now table.starts table.gates)) _ _ _ c.find.result c.find.ensures.ran (λ x b q k. search (rules, tests, not_back))
