-- `optional_refusal`: `*` passes; any other field is held to the bounds.
use Rattle.gates.specs.Rules.{optional_refusal}
use borrow.Author.Rules.{rules}
use Rattle.gaterules.proofs.optional_refusal.Goals as goal

pub returns-then-is_star : goal.returns-then-is_star
unfolding optional_refusal
returns-then-is_star c = rw (← c.is_star.ensures, c.if-is_star.true)

pub returns : goal.returns
unfolding optional_refusal
returns c = rw (c.number_refusal.ensures, ← c.is_star.ensures, c.if-is_star.false) (search rules)
