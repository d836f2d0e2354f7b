-- `put_number`: the digits of x / 10, and the last digit.
use mathlib.Core.Path.{refl, sym, ◌∙◌}
use mathlib.Core.List.{[]}
use Prim.Native.Nat.{◌/◌}
use native.Mathlib.Omega.{arith}
use lib.ListN.{length-append}
use Rattle.text.specs.Output.{over}
use Rattle.text.proofs.OutputLaws.{decimal-low, decimal-high, decimal-length, over-more-at}
use Rattle.text.proofs.output.+put_number.Goals as goal

pub returns-then-x-lt10 : goal.returns-then-x-lt10
unfolding over
returns-then-x-lt10 t c =
    let a = c.args in
    rw (decimal-low a.x c.if-x-lt10.true)
    (refl, c.put.ensures ∙ over-more-at [] a.rest.now 0 _ refl)

pub overflow_add-result : goal.overflow_add-result
overflow_add-result t c = omega (arith, decimal-length (c.args.x / 10))

pub returns : goal.returns
returns t c =
    let put-number = c.put_number-at in
    let a = c.args in
    rw (decimal-high a.x (omega arith) (omega arith)) (
      simp length-append (omega arith),
      rw (c.put-2.ensures, put-number.ensures.1) (over-more-at _ a.rest.now put-number.result _ (sym put-number.ensures.0)),
    )
