-- `triple_of`: found has those of the events before the e-th that the triple holds.
use mathlib.Core.Path.{◌≡◌, ap, ◌∙◌}
use mathlib.Core.List.{List}
use Prim.Native.Nat.{◌+◌, ◌*◌, ◌<◌}
use native.Mathlib.Omega.{arith}
use lib.IntN.{ℤ}
use lib.ListN.{length}
use Rattle.plans.specs.Words.{word}
use Rattle.counter.proofs.ReadLaws.{read_word}
use Rattle.counter.proofs.TallyLaws.{event-inside}
use Rattle.counter.proofs.GroupLaws.{first-none, first_next, span_triple}
use Rattle.counter.proofs.sets.triple_of.Goals as goal
use Rattle.counter.proofs.sets.triple_of.Goals.{In-loop-e}

pub number_in-d-requires : goal.number_in-d-requires
number_in-d-requires c =
    let l = c.requires.3.dimension (3 * c.args.t) (omega arith) (omega arith) in
    let n = c.requires.4 in
    (omega arith, omega arith)

pub span_of-span-requires : goal.span_of-span-requires
span_of-span-requires c =
    let body = c.args.body.now in
    let i = 3 * c.args.t in
    let m = read_word body (i + 1) (omega arith) c.min-1.given in
    let x = read_word body (i + 2) (omega arith) c.span_of-arg-1.given in
    rw (m, x) (c.requires.3.rising i (omega arith) (omega arith))

pub loop-e-init : goal.loop-e-init
loop-e-init c = first-none _

-- in the loop: the dimension that the triple names is one of the event's
module _ (in-loop : In-loop-e) where
  named : in-loop.number_in-d.result < in-loop.args.n
  named =
      let q = in-loop.number_in-d.ensures in
      let l = in-loop.requires.3.dimension (3 * in-loop.args.t) (omega arith) (omega arith) in
      omega arith

pub event_of-event-requires : goal.event_of-event-requires
event_of-event-requires c = event-inside c.args.n c.loop-e.e c.args.g (length c.args.group.now) c.loop-e-test.true c.requires.1

pub offset_bounds-event-d : goal.offset_bounds-event-d
offset_bounds-event-d c = let d = named (goal.at.offset_bounds-event-d c).In-loop-e in let n = c.requires.4 in omega arith

pub bounds-event-d : goal.bounds-event-d
bounds-event-d c = rw c.event_of-event.ensures.1 (named (goal.at.bounds-event-d c).In-loop-e)

pub settle-found-requires : goal.settle-found-requires
settle-found-requires c =
    let h = c.loop-e-test.true in
    let p = c.requires.0 in
    omega arith

pub loop-e-preserved : goal.loop-e-preserved
loop-e-preserved c =
    let loop = c.loop-e in
    let p = c.requires.0 in
    let body = c.args.body.now in
    let i = 3 * c.args.t in
    let h = c.loop-e-test.true in
    let event = c.event_of-event.ensures in
    let min-is = read_word body (i + 1) (omega arith) c.min-1.given in
    let max-is = read_word body (i + 2) (omega arith) c.span_of-arg-1.given in
    let value-is =
    read_word c.event_of-event.result.now c.number_in-d.result (rw event.1 (named (goal.at.loop-e-preserved c).In-loop-e)) c.in_span-arg-1.given in
    let holds =
    c.in_span-member.ensures
    ∙ span_triple c.args.n c.args.group.now body c.args.t c.number_in-d.ensures loop.e
    (value-is ∙ ap (λ (l : List ℤ). word l c.number_in-d.result) event.0)
    min-is
    max-is
    c.span_of-span.ensures in
    first_next _ loop.e (omega arith) holds loop.invariant c.settle-found.ensures

pub returns : goal.returns
returns c =
    let loop = c.loop-e in
    let q : loop.e ≡ c.args.g = omega arith in
    rw q at loop.invariant
