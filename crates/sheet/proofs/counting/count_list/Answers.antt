-- `count_list`: the values put are those that are counted.
use mathlib.Core.Path.{sym, ◌∙◌, ap}
use native.Mathlib.Omega.{arith}
use lib.Seq.{length-take-le}
use Rattle.counter.specs.Counting.{Counting}
use Rattle.sheet.proofs.CountLaws.{kept-few, list_counted, list-most}
use Rattle.sheet.proofs.counting.count_list.Goals as goal

pub slice_bounds-count-end : goal.slice_bounds-count-end
slice_bounds-count-end c =
    let good = c.requires.2 in
    omega (arith, c.put_lines-m.ensures.0, kept-few good.0 c.args.part.now c.requires.0 good.1, c.put_lines-m.auto, c.requires.1)

pub slice_bounds-count-end-2 : goal.slice_bounds-count-end-2
slice_bounds-count-end-2 c =
    let good = c.requires.2 in
    let few = kept-few good.0 c.args.part.now c.requires.0 good.1 in
    sym (length-take-le c.put_lines-m.result c.put_lines-m.new.list
    (omega (arith, c.put_lines-m.ensures.0, few, c.put_lines-m.auto, c.requires.1)))

pub returns-in-Ok : goal.returns-in-Ok
returns-in-Ok c =
    let good = c.requires.2 in
    let args = c.args in
    let p = args.plan.now in
    let t = ap (λ (k : Counting). k.tally)
    (c.in-Ok.ensures
    ∙ list_counted good.0 args.part.now c.requires.0 good.1 p args.list.now _ c.requires.1
    c.put_lines-m.ensures.1 c.put_lines-m.result c.put_lines-m.ensures.0) in
    (t, rw t (list-most good.0 args.part.now c.requires.0 good.1 p), omega (arith, c.put_lines-m.auto, c.requires.1))

pub returns-in-Err : goal.returns-in-Err
returns-in-Err c =
    let good = c.requires.2 in
    let args = c.args in
    let p = args.plan.now in
    let t = c.no_tally.ensures ∙ ap (λ (k : Counting). k.tally)
    (c.in-Err.ensures
    ∙ list_counted good.0 args.part.now c.requires.0 good.1 p args.list.now _ c.requires.1
    c.put_lines-m.ensures.1 c.put_lines-m.result c.put_lines-m.ensures.0) in
    (t, rw t (list-most good.0 args.part.now c.requires.0 good.1 p), omega (arith, c.put_lines-m.auto, c.requires.1))
