-- `ellipsoid_of`: the test that is handed on tells whether the event is in the shape.
use borrow.Author.Rules.{rules}
use Rattle.counter.specs.Inner.Groups.{drawn_at}
use Rattle.counter.proofs.sets.ellipsoid_of.Goals as goal

pub returns : goal.returns
unfolding drawn_at
returns c =
    let args = c.args in
    c.passing_of.ensures (drawn_at args.shape args.n args.group.now args.body.now) (λ e r p. rw (← p.shows) (search rules))
