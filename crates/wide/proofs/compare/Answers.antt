-- `compare`: by the high words with the sign bit turned, then by the low words.
use Rattle.std.proofs.Common.{rules}
use Rattle.wide.proofs.ValueLaws.{Sized}
use Rattle.wide.proofs.OrderLaws.{order_less, order_equal, order_greater}
use Rattle.wide.proofs.compare.Goals as goal
use Rattle.wide.proofs.compare.Goals.{Start}

sizes : (c : Start) → Sized c.args.a × Sized c.args.b
sizes c = search rules

pub returns-then-less : goal.returns-then-less
returns-then-less c =
    let x = c.sign_turned-x in
    let y = c.sign_turned-y in
    let s = sizes c.before.before.before.before.before.before.before in
    order_less c.args.a c.args.b x.result y.result s.0 s.1 x.ensures y.ensures c.if-less.true

pub returns-then-same : goal.returns-then-same
returns-then-same c =
    let x = c.sign_turned-x in
    let y = c.sign_turned-y in
    let s = sizes c.before.before.before.before.before.before.before.before in
    order_equal c.args.a c.args.b x.result y.result s.0 s.1 x.ensures y.ensures c.if-same.true

pub returns : goal.returns
returns c =
    let x = c.sign_turned-x in
    let y = c.sign_turned-y in
    let s = sizes c.before.before.before.before.before.before.before.before in
    order_greater c.args.a c.args.b x.result y.result s.0 s.1 x.ensures y.ensures c.if-less.false c.if-same.false
