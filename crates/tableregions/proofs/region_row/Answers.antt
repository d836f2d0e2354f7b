-- `region_row` meets its contract: the numbers of the references in the fields before k are gathered.
use Rattle.std.proofs.Common.{◌≡◌, refl, sym, ap, ◌∙◌, arith}
use Rattle.text.specs.Lines.{fields}
use Rattle.gates.specs.Gate.{Region}
use Rattle.tables.specs.Table.{references}
use Rattle.resolve.specs.Inner.Reading.{regions_at}
use Rattle.tableregions.specs.Inner.Located.{located_at, with_numbers, row_of}
use Rattle.tableregions.proofs.PlaceLaws.{place_found, place_missed, no_region_lem}
use Rattle.tableregions.proofs.ReferenceLaws.{gathered-more, gathered-all}
use Rattle.tableregions.proofs.region_row.Goals as goal

pub returns-in_default : goal.returns-in_default
unfolding row_of
returns-in_default c =
    let table = c.args.table.now in
    let t = table.text.now in
    let s = table.starts in
    let n = table.gates in
    let past = place_missed n (located_at t s n c.args.r) (sym c.in_default.is ∙ c.locate.ensures) in
    let none = no_region_lem t s n c.args.r {x = located_at t s n c.args.r} refl past in
    sym (ap (λ (x : Region). with_numbers (regions_at t s n) 0 (references x)) none)

pub loop-k-init : goal.loop-k-init
loop-k-init c = refl

pub loop-k-preserved : goal.loop-k-preserved
loop-k-preserved c =
    let table = c.args.table.now in
    let head = c.loop-k in
    gathered-more (regions_at table.text.now table.starts table.gates) (fields c.line-line.result.now) head.k head.row head.auto.k head.invariant
    c.reference.ensures c.number_of-number.ensures c.has_reference.ensures c.settle-row.ensures

pub returns : goal.returns
returns c =
    let table = c.args.table.now in
    let t = table.text.now in
    let s = table.starts in
    let n = table.gates in
    let head = c.loop-k in
    let found = place_found n c.in-Some.place (located_at t s n c.args.r) (sym c.in-Some.is ∙ c.locate.ensures) in
    let whole = c.loop-k-test.false in
    gathered-all t s n c.args.r found.0 found.1 c.line-line.ensures c.reference_end-k-end.ensures head.k head.row (omega arith) head.invariant
