-- `measured`: the words of the plan, against 4,096 and the room that there is.
use native.Mathlib.Omega.{arith}
use Rattle.compiler.proofs.SettledLaws.{settled, words-read}
use Rattle.compiler.proofs.VerdictLaws.{both, refused_17, refused_18, accepted}
use Rattle.compiler.proofs.measured.Goals as goal

pub put_plan-words-requires : goal.put_plan-words-requires
put_plan-words-requires c =
    let t = c.new.ensures in
    settled _ c.requires t.text t.starts t.gates

pub returns-then-words-gt4096 : goal.returns-then-words-gt4096
returns-then-words-gt4096 c =
    let t = c.new.ensures in
    let w = words-read _ c.requires t.text t.starts t.gates c.put_plan-words.ensures.0 in
    both (refused_17 c.args.table.now c.args.room c.requires (omega (arith, w)))

pub returns-then-room-words : goal.returns-then-room-words
returns-then-room-words c =
    let t = c.new.ensures in
    let w = words-read _ c.requires t.text t.starts t.gates c.put_plan-words.ensures.0 in
    both (refused_18 c.args.table.now c.args.room c.requires (omega (arith, w)) (omega (arith, w)))

pub returns : goal.returns
returns c =
    let t = c.new.ensures in
    let w = words-read _ c.requires t.text t.starts t.gates c.put_plan-words.ensures.0 in
    both (accepted c.args.table.now c.args.room c.requires (omega (arith, w)) (omega (arith, w)))
