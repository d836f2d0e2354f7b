-- `between` meets its contract.
use mir.Facts.{to_z-of_z}
use Rattle.counter.proofs.PolygonLaws.{between-below, between-above, between-at}
use Rattle.counter.proofs.polygon.between.Goals as goal

pub returns-then-x-a : goal.returns-then-x-a
returns-then-x-a c =
    let a = c.args in
    let f = c.ranges in
    simp (to_z-of_z, f.b, f.x) (between-below a.a a.b a.x (simp (to_z-of_z, f.a, f.x) at c.if-x-a.true))

pub returns-then-a-x : goal.returns-then-a-x
returns-then-a-x c =
    let a = c.args in
    let f = c.ranges in
    simp (to_z-of_z, f.b, f.x) (between-above a.a a.b a.x (simp (to_z-of_z, f.a, f.x) at c.if-a-x.true))

pub returns : goal.returns
returns c =
    let a = c.args in
    let f = c.ranges in
    between-at a.a a.b a.x (simp (to_z-of_z, f.a, f.x) at c.if-x-a.false) (simp (to_z-of_z, f.a, f.x) at c.if-a-x.false)
