-- `oval_of`: the words are there.
use native.Mathlib.Omega.{arith}
use Rattle.counter.specs.Inner.Steps.{oval_of}
use Rattle.counter.proofs.ReadLaws.{read_word}
use Rattle.counter.proofs.steps.oval_of.Goals as goal

pub returns : goal.returns
unfolding oval_of
returns c =
    let h = c.requires in
    let b = c.args.body.now in
    rw (
      read_word b 2 (omega arith) c.result-1.given,
      read_word b 3 (omega arith) c.result-2-1.given,
      read_word b 4 (omega arith) c.result-3-1.given,
      read_word b 5 (omega arith) c.result-4-1.given,
      read_word b 6 (omega arith) c.result-5-1.given,
      read_word b 7 (omega arith) c.result-6-1.given,
    )
