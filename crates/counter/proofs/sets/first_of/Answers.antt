-- `first_of`: as many zeros stand below the lowest bit.
use Rattle.counter.proofs.SetLaws.{first-is}
use borrow.Author.Rules.{rules}
use Rattle.counter.proofs.sets.first_of.Goals as goal

pub returns : goal.returns
returns c = first-is 64 c.args.set c.requires (search rules)
