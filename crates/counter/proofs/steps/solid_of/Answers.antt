-- `solid_of`: the words are there.
use native.Mathlib.Omega.{arith}
use Rattle.counter.specs.Inner.Steps.{solid_of}
use Rattle.counter.proofs.ReadLaws.{read_word}
use Rattle.counter.proofs.steps.solid_of.Goals as goal

pub returns : goal.returns
unfolding solid_of
returns c =
    let h = c.requires in
    let b = c.args.body.now in
    rw (
      read_word b 3 (omega arith) c.result-1.given,
      read_word b 4 (omega arith) c.result-2-1.given,
      read_word b 5 (omega arith) c.result-3-1.given,
      read_word b 6 (omega arith) c.result-4-1.given,
      read_word b 7 (omega arith) c.result-5-1.given,
      read_word b 8 (omega arith) c.result-6-1.given,
      read_word b 9 (omega arith) c.result-7-1.given,
      read_word b 10 (omega arith) c.result-8-1.given,
      read_word b 11 (omega arith) c.result-9-1.given,
      read_word b 12 (omega arith) c.result-10-1.given,
    )
