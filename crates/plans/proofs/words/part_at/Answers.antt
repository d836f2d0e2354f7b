-- `part_at`: as many words as there are from the place on, and of these as many as are asked for.
use Rattle.plans.proofs.WordLaws.{part-least}
use Rattle.plans.proofs.words.part_at.Goals as goal

pub returns : goal.returns
returns c = part-least c.args.s.now c.args.start c.args.m c.min.ensures c.min-2.ensures
