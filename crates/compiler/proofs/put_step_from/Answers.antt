-- `put_step_from` meets its contract: the rest from `at` on is lent, and what is written of a settled table is the step.
use mathlib.Core.Path.{◌≡◌, ◌∙◌}
use Rattle.text.proofs.WritingLaws.{over-lent}
use Rattle.tableregions.specs.Inner.Located.{located_at}
use Rattle.tableregions.proofs.PlaceLaws.{gate_inside, quadrant-inside, place_is}
use Rattle.stepwriter.proofs.StepLaws.{step_is}
use Rattle.compiler.proofs.StepsLaws.{located}
use Rattle.compiler.proofs.put_step_from.Goals as goal

pub returns-in-Some : goal.returns-in-Some
returns-in-Some c =
    let text = c.args.table.now.text.now in
    let starts = c.args.table.now.starts in
    let n = c.args.table.now.gates in
    let r = c.args.r in
    let place = c.in-Some.place in
    let found = c.in-Some.ensures ∙ located text starts n r c.requires.region in
    let e : place ≡ located_at text starts n r = cc in
    let inside = gate_inside text starts n r e c.requires.region in
    let below = quadrant-inside text starts n r e inside in
    let words = step_is text starts n place.gate place.quadrant r c.requires.settled inside below (place_is text starts n r e) in
    let written = rw words at c.put_step.ensures in
    (written.0, over-lent _ _ c.min-b.result c.min-b.ensures _ _ written.1)

pub returns-in-None : goal.returns-in-None
returns-in-None c =
    let t = c.args.table.now in
    let none = c.in-None.ensures ∙ located t.text.now t.starts t.gates c.args.r c.requires.region in
    absurd (cc)
