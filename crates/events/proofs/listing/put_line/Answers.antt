-- `put_line`: the values of the first k fields are written over the beginning.
use Rattle.std.proofs.Common.{◌≡◌, refl, arith, set, ◌∙◌}
use Rattle.std.proofs.lemmas.Int.{to_z-of_z}
use lib.Seq.{take_all}
use Rattle.text.specs.Output.{over}
use Rattle.events.specs.Inner.Answers.{line_kept}
use Rattle.events.proofs.ListingLaws.{line-more, line_kept-length}
use Rattle.events.proofs.listing.put_line.Goals as goal

pub loop-k-init : goal.loop-k-init
unfolding over
loop-k-init c = refl

pub loop-k-preserved : goal.loop-k-preserved
loop-k-preserved c =
    let loop = c.loop-k in
    let a = c.args in
    let put : c.put.new.s ≡ set loop.rest loop.k c.unwrap_or.result = grind (arith, to_z-of_z) in
    put ∙ rw (loop.invariant, c.unwrap_or.ensures, c.read_number.ensures, c.field.ensures) (line-more a.line.now a.rest.now loop.k (omega arith))

pub returns : goal.returns
returns c =
    let s = c.args.line.now in
    let e = line_kept-length s in
    (omega arith, rw (c.loop-k.invariant, take_all c.loop-k.k (line_kept s) (omega arith)))
