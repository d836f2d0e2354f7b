-- `put_line`: the words of the first k fields are written over the beginning.
use Rattle.std.proofs.Common.{◌≡◌, refl, arith, set, ◌∙◌}
use Rattle.std.proofs.lemmas.Int.{to_z-of_z}
use lib.Seq.{take_all}
use Rattle.text.specs.Output.{over}
use Rattle.runreport.specs.PlanReading.{line_words}
use Rattle.runreport.proofs.LineLaws.{line-more, line_words-length}
use Rattle.runreport.proofs.reading.put_line.Goals as goal

pub loop-k-init : goal.loop-k-init
unfolding over
loop-k-init c = refl

pub loop-k-preserved : goal.loop-k-preserved
loop-k-preserved c =
    let loop = c.loop-k in
    let a = c.args in
    let put : c.put.new.s ≡ set loop.rest loop.k c.read_word.result = grind (arith, to_z-of_z) in
    put ∙ rw (loop.invariant, c.read_word.ensures, c.field.ensures) (line-more a.line.now a.rest.now loop.k (omega arith))

pub returns : goal.returns
returns c =
    let s = c.args.line.now in
    let e = line_words-length s in
    (omega arith, rw (c.loop-k.invariant, take_all c.loop-k.k (line_words s) (omega arith)))
