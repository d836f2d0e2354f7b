-- `number_in`: a word whose number is below 4,097 is not negative.
use Rattle.counter.proofs.ReadLaws.{read-cast, read_number_lem}
use Rattle.counter.proofs.reading.number_in.Goals as goal

pub overflow_cast-result : goal.overflow_cast-result
overflow_cast-result c = read-cast c.args.s.now c.args.i c.requires.0 c.requires.1 c.result-1.given

pub returns : goal.returns
returns c = read_number_lem c.args.s.now c.args.i c.requires.0 c.requires.1 c.result-1.given
