-- `parent_at` meets its contract: a region that there is stands at one of the gates.
use Rattle.std.proofs.Common.{refl, sym, ◌∙◌}
use Rattle.tableregions.specs.Inner.Located.{located_at}
use Rattle.tableregions.proofs.PlaceLaws.{place_found, place_missed}
use Rattle.stepwriter.proofs.ParentLaws.{parent_located, no_parent}
use Rattle.stepwriter.proofs.parent_at.Goals as goal

pub returns-in-Some : goal.returns-in-Some
returns-in-Some c =
    let table = c.args.table.now in
    let t = table.text.now in
    let s = table.starts in
    let n = table.gates in
    let found = place_found n c.in-Some.place (located_at t s n c.args.r) (sym c.in-Some.is ∙ c.locate.ensures) in
    parent_located t s n c.args.r found.0 found.1 c.line.ensures c.parent_number.ensures

pub returns-in-None : goal.returns-in-None
returns-in-None c =
    let table = c.args.table.now in
    let t = table.text.now in
    let s = table.starts in
    let n = table.gates in
    let past = place_missed n (located_at t s n c.args.r) (sym c.in-None.is ∙ c.locate.ensures) in
    no_parent t s n c.args.r {x = located_at t s n c.args.r} refl past
