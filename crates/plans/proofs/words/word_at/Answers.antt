-- `word_at`: the element, or what stands for a missing one.
use borrow.Author.Rules.{rules}
use Rattle.plans.specs.Words.{word}
use Rattle.plans.proofs.WordLaws.{back}
use Rattle.plans.proofs.words.word_at.Goals as goal

pub returns : goal.returns
unfolding word
returns c = rw (back _ c.unwrap_or.type_inv) (search rules)
