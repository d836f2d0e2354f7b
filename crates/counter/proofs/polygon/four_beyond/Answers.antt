-- `four_beyond`: the four heights that are read, all on the side that is asked.
use Prim.Native.Nat.{ℕ, ◌+◌}
use lib.IntN.{pos}
use lib.ListN.{get_or}
use mir.Syntax.{w32}
use mir.Val.{SFits}
use mir.Facts.{to_z-of_z}
use Rattle.counter.specs.Inner.Walks.{beyond, four_beyond}
use Rattle.counter.proofs.PolygonLaws.{scale_fits}
use Rattle.counter.proofs.polygon.four_beyond.Goals as goal
use Rattle.counter.proofs.polygon.four_beyond.Goals.{Start}

-- a height that is read fits
height : (entry : Start) (k : ℕ) → SFits w32 (get_or entry.args.v.now k (pos 0))
height entry k = scale_fits (get_or entry.args.v.now k (pos 0)) (entry.requires.0.on_scale k)

pub returns-then-above : goal.returns-then-above
unfolding four_beyond beyond
returns-then-above c =
    let entry = (goal.at.returns-then-above c).Start in
    let i = c.args.i in
    simp (to_z-of_z, c.ranges.y, height entry (i + 1), height entry (i + 3), height entry (i + 5), height entry (i + 7)) (rw c.if-above.true)

pub returns-else-above : goal.returns-else-above
unfolding four_beyond beyond
returns-else-above c =
    let entry = (goal.at.returns-else-above c).Start in
    let i = c.args.i in
    simp (to_z-of_z, c.ranges.y, height entry (i + 1), height entry (i + 3), height entry (i + 5), height entry (i + 7)) (rw c.if-above.false)
