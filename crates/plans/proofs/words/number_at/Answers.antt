-- `number_at` is `number_of` of the word.
use Rattle.plans.proofs.WordLaws.{back}
use Rattle.plans.proofs.words.number_at.Goals as goal

pub returns : goal.returns
returns c = rw (c.number_of.ensures, back _ c.word_at.type_inv, c.word_at.ensures)
