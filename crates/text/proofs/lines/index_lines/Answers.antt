-- `index_lines`: the first n places are put, and the others are those of the lines from `at` on.
use mathlib.Core.Path.{refl, sym, ◌∙◌, ap}
use Prim.Native.Nat.{◌≤◌}
use native.Mathlib.Omega.{arith}
use borrow.Author.Rules.{rules}
use lib.ListN.{length, set, take, length-drop}
use lib.Seq.{take_all}
use Rattle.text.specs.Inner.Places.{starts_from, line_starts}
use Rattle.text.specs.Output.{over}
use Rattle.text.proofs.BytesLaws.{rest-inside, rest-next, rest-first}
use Rattle.text.proofs.OutputLaws.{over-length, over-take}
use Rattle.text.proofs.LinesLaws.{find_from_lem, found_inside, lines_end, starts-cut, line_starts-length}
use Rattle.text.proofs.lines.index_lines.Goals as goal
use Rattle.text.proofs.lines.index_lines.Goals.{After-find-at}

pub loop-at-init : goal.loop-at-init
unfolding line_starts over
loop-at-init c = (search rules, search rules, refl, refl)

inside : (c : After-find-at)
    → c.find-at.result ≤ length c.args.text.now
inside c = found_inside _ _ 10 c.find-at.ensures (omega arith)

from : (c : After-find-at) → c.loop-at.at ≤ c.find-at.result
from c =
    omega (arith, find_from_lem c.args.text.now c.loop-at.at 10)

pub overflow_add-at : goal.overflow_add-at
overflow_add-at c = let h = inside c in search rules

pub loop-at-smaller : goal.loop-at-smaller
loop-at-smaller c = let h = from c in omega arith

pub loop-at-preserved : goal.loop-at-preserved
loop-at-preserved c =
    let loop = c.loop-at in
    let n = loop.n in
    let a = c.args in
    let s = line_starts a.text.now in
    let h = from c in
    let e = loop.invariant.2 ∙ starts-cut a.text.now loop.at c.loop-at-test.true in
    let i = rest-inside s _ n loop.at e in (
      omega arith,
      omega arith,
      rw c.find-at.ensures (rest-next s _ n loop.at e),
      rw (c.put.ensures, loop.invariant.3)
          (ap (set (over (take n s) a.starts.now) n) (sym (rest-first s _ n loop.at e 0)) ∙ over-take s a.starts.now n 0 i),
    )

pub shape_of-starts : goal.shape_of-starts
shape_of-starts c = ap length c.loop-at.invariant.3 ∙ over-length _ _

pub returns : goal.returns
returns c =
    let loop = c.loop-at in
    let a = c.args in
    let text = a.text.now in
    let s = line_starts text in
    let e = ap length (loop.invariant.2 ∙ ap (starts_from loop.at) (lines_end text loop.at c.loop-at-test.false)) in
    (omega (arith, length-drop loop.n s, line_starts-length text), rw (loop.invariant.3, take_all loop.n s (omega (arith, length-drop loop.n s))))
