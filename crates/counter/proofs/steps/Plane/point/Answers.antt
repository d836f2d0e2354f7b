-- `Plane::point`: the values are there and on the scale.
use mathlib.Core.Path.{refl}
use Rattle.counter.proofs.ReadLaws.{read_word}
use Rattle.counter.proofs.steps.Plane.point.Goals as goal

pub returns : goal.returns
returns c =
    let e = c.args.event.now in
    let d = c.args.self in
    let w = c.requires.1 in
    let on = c.requires.0.on_scale in
    rw (read_word e d.x w.x_within c.result-1.given, read_word e d.y w.y_within c.result-2-1.given) (refl, (on d.x w.x_within, on d.y w.y_within))
