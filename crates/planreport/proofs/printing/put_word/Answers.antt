-- `put_word`: a `-` and the digits of a negative word, the digits of another.
use mathlib.Core.Path.{◌≡◌}
use mathlib.Core.Bool.{true, false}
use native.Mathlib.Omega.{arith}
use lib.IntN.{pos, nat_abs}
use lib.Signed.{lt_z}
use mir.Syntax.{w32}
use mir.ValLaws.{to_z-of_z}
use Rattle.text.proofs.OutputLaws.{decimal-length}
use Rattle.planreport.proofs.TextLaws.{word-positive, word-negative}
use Rattle.planreport.proofs.printing.put_word.Goals as goal

pub overflow_add-result : goal.overflow_add-result
overflow_add-result c = omega (arith, c.put_bytes-a.ensures.0, c.put_number_from.ensures.0, decimal-length c.unsigned_abs-m.result)

pub returns-then-w-lt0 : goal.returns-then-w-lt0
returns-then-w-lt0 c =
    let w = c.args.w in
    let e = to_z-of_z w32 _ c.ranges.w in
    let h : lt_z w (pos 0) ≡ true = rw e at c.if-w-lt0.true in
    let m : c.unsigned_abs-m.result ≡ nat_abs w = rw e at c.unsigned_abs-m.ensures.value in
    word-negative w h c.args.rest.now c.put_bytes-a.ensures (rw m at c.put_number_from.ensures)

pub returns : goal.returns
returns c =
    let w = c.args.w in
    let e = to_z-of_z w32 _ c.ranges.w in
    let h : lt_z w (pos 0) ≡ false = rw e at c.if-w-lt0.false in
    let m : c.unsigned_abs-m.result ≡ nat_abs w = rw e at c.unsigned_abs-m.ensures.value in
    rw (m, ← word-positive w h) at c.put_number.ensures
