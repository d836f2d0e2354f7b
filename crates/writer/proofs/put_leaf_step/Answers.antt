-- `put_leaf_step` meets its contract: the rest behind the header is lent for the body, where there is one.
use native.Mathlib.Omega.{arith}
use lib.ListN.{drop}
use Rattle.text.specs.Lines.{fields}
use Rattle.text.proofs.BoundedLaws.{length-tab}
use Rattle.gates.specs.Inner.Regions.{body_length, body_word_of}
use Rattle.writer.proofs.WordLaws.{body-length_le, step-length, step_cut, step-joined}
use Rattle.writer.proofs.put_leaf_step.Goals as goal

pub overflow_add-result : goal.overflow_add-result
overflow_add-result c =
    omega (arith, body-length_le c.args.line.now)

pub returns-then-rest-lt4 : goal.returns-then-rest-lt4
returns-then-rest-lt4 c =
    let w = rw (c.step_number.ensures, c.body_length.ensures) at c.put_header.ensures.1 in
    let a = c.args in
    let fs = fields a.line.now in
    let word = body_word_of (drop 1 (fields a.head.now)) fs a.q in
    (omega (arith, step-length fs a.region a.parent word), step_cut _ _ _ _ _ _ _ w (omega arith))

pub overflow_add-result-2 : goal.overflow_add-result-2
overflow_add-result-2 c =
    let a = c.args in
    let fs = fields a.line.now in
    let word = body_word_of (drop 1 (fields a.head.now)) fs a.q in
    omega (arith, body-length_le a.line.now, length-tab word (body_length fs))

pub returns : goal.returns
returns c =
    let a = c.args in
    let w = rw (c.step_number.ensures, c.body_length.ensures) at c.put_header.ensures.1 in
    let fs = fields a.line.now in
    let word = body_word_of (drop 1 (fields a.head.now)) fs a.q in (
      omega (arith, step-length fs a.region a.parent word, length-tab word (body_length fs)),
      step-joined _ _ _ _ _ _ _ w _ (omega arith) c.put_leaf.ensures.1,
    )
