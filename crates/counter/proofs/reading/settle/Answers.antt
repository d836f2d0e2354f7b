-- `settle`: the bit of the answer, shifted by r, is 2^r or 0.
use Rattle.counter.proofs.StepLaws.{with_answer}
use Rattle.counter.proofs.reading.settle.Goals as goal

pub returns : goal.returns
returns c = with_answer c.args.bits c.args.r c.args.member c.requires
