-- `less_at` compares the words.
use Rattle.plans.proofs.WordLaws.{back}
use Rattle.plans.proofs.words.less_at.Goals as goal

pub returns : goal.returns
returns c = rw (back _ c.word_at.type_inv, back _ c.word_at-2.type_inv, c.word_at.ensures, c.word_at-2.ensures)
