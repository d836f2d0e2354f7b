-- `complement`: all bits less those of the set.
use Rattle.counter.specs.Inner.Groups.{outside}
use Rattle.counter.proofs.SetLaws.{has_complement}
use borrow.Author.Rules.{rules}
use Rattle.counter.proofs.sets.complement.Goals as goal

pub returns : goal.returns
unfolding outside
returns c = record { each = λ e h. has_complement 64 c.args.set e (search rules) h }
