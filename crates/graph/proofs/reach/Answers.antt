-- `reach` meets its contract: the rows are those of round s.
use Rattle.std.proofs.Common.{◌≡◌, sym, ◌∙◌, length, min, rules, arith}
use Rattle.graph.proofs.RowLaws.{round-first, round-next, round-length, rounds-past}
use Rattle.graph.proofs.reach.Goals as goal

pub loop-s-init : goal.loop-s-init
loop-s-init c = let long : length c.args.rows.bits ≡ 64 = search rules in (long, long, round-first _)

pub loop-s-preserved : goal.loop-s-preserved
loop-s-preserved c =
    let head = c.loop-s in (
      head.invariant.0,
      rw c.round.ensures (round-length head.r.bits head.s ∙ head.invariant.1),
      rw c.round.ensures
          (round-next c.args.rows.bits head.r.bits head.s (head.invariant.1 ∙ sym head.invariant.0) head.invariant.2),
    )

pub returns : goal.returns
returns c =
    let head = c.loop-s in
    let h = c.loop-s-test.false in
    let e : head.s ≡ min c.args.n 64 = omega (arith, c.min-s-end.ensures) in
    λ a b. head.invariant.2 a b ∙ rw e (rounds-past c.args.rows.bits 64 c.args.n a b (omega (arith, head.invariant.0)))
