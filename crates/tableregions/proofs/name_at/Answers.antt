-- `name_at` meets its contract: a region that there is stands at one of the gates.
use Rattle.std.proofs.Common.{◌≡◌, refl, sym, ap, ◌∙◌}
use Rattle.gates.specs.Gate.{Region}
use Rattle.tableregions.specs.Inner.Located.{located_at}
use Rattle.tableregions.proofs.PlaceLaws.{place_found, place_missed, named-at, no_region_lem}
use Rattle.tableregions.proofs.name_at.Goals as goal

pub returns : goal.returns
returns c =
    let table = c.args.table.now in
    let t = table.text.now in
    let s = table.starts in
    let n = table.gates in
    let found = place_found n c.in-Some.place (located_at t s n c.args.r) (sym c.in-Some.is ∙ c.locate.ensures) in
    named-at t s n c.args.r found.0 found.1 c.line.ensures c.region_name.ensures

pub returns-in_default : goal.returns-in_default
returns-in_default c =
    let table = c.args.table.now in
    let t = table.text.now in
    let s = table.starts in
    let n = table.gates in
    let past = place_missed n (located_at t s n c.args.r) (sym c.in_default.is ∙ c.locate.ensures) in
    sym (ap (λ (x : Region). x.name) (no_region_lem t s n c.args.r {x = located_at t s n c.args.r} refl past))
