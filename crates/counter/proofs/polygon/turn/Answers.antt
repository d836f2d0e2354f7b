-- `turn`: the tests, each 1 or 0, are compared and subtracted as numbers.
use mathlib.Core.Path.{◌≡◌, refl, ◌∙◌}
use mathlib.Core.Bool.{Bool, true, false, not, beq}
use lib.IntN.{pos, ◌-ℤ◌}
use lib.Signed.{lt_z}
use mir.Syntax.{w64}
use mir.Val.{SFits, to_z, bool_byte}
use mir.Facts.{to_z-of_z}
use Rattle.integers.proofs.Bounds.{fit, in_sub}
use Rattle.counter.specs.Inner.Walks.{one_of}
use Rattle.counter.proofs.PolygonLaws.{one_bit, one_in}
use borrow.Author.Rules.{rules}
use Rattle.counter.proofs.polygon.turn.Goals as goal
use Rattle.counter.proofs.polygon.turn.Goals.{Start}

-- the difference of two tests
difference-fits : (s t : Bool) → SFits w64 (to_z w64 (bool_byte s) -ℤ to_z w64 (bool_byte t))
difference-fits s t = rw (one_bit s, one_bit t) (fit tt (in_sub (one_in s) (one_in t)))

-- 'one of the two' as the code asks it
one-of : (s t : Bool) → one_of s t ≡ not (beq s t)
one-of true true = refl
one-of true false = refl
one-of false true = refl
one-of false false = refl

-- the numbers that are handed over fit
module _ (entry : Start) where
  from-fits : SFits w64 entry.args.a.up
  from-fits = search rules

  to-fits : SFits w64 entry.args.b.up
  to-fits = search rules

pub returns-then-a-b : goal.returns-then-a-b
returns-then-a-b c =
    let entry = (goal.at.returns-then-a-b c).Start in
    let args = c.args in
    let above = lt_z args.b.up (pos 0) in
    let negative = lt_z args.s (pos 0) in
    let crossed : one_of (lt_z args.a.up (pos 0)) above ≡ true =
    one-of (lt_z args.a.up (pos 0)) above ∙ simp (to_z-of_z, from-fits entry, to-fits entry) at c.if-a-b.true in
    simp (to_z-of_z, to-fits entry, c.ranges.s, difference-fits above negative) (rw (crossed, one_bit above, one_bit negative))
