-- `gate_count_row69` writes the tally's row.
use mathlib.Core.Path.{◌≡◌, ◌∙◌, ap}
use mathlib.Core.List.{[]}
use lib.ListN.{length}
use borrow.Author.Rules.{rules}
use Rattle.std.proofs.Math.Seq.{set-append_seam}
use Rattle.counter.specs.Counting.{Counting, no_tally}
use Rattle.gatec.specs.Answers.{count_row}
use Rattle.gatec.proofs.RowTheorems.{count_long, count-whole}
use Rattle.gatec.proofs.gate_count_row69.Goals as goal

pub returns-in-Ok : goal.returns-in-Ok
returns-in-Ok c =
    let args = c.args in
    let t = c.in-Ok.t in
    let whole : length args.out.now ≡ 69 = search rules in
    let long = ap (λ (k : Counting). length k.tally.counts) c.in-Ok.ensures ∙ count_long args.plan.now args.events.now in
    let last = rw long at (set-append_seam t.counts 0 [] t.unclaimed) in
    rw (count-whole args.plan.now args.events.now args.out.now whole, c.copy_from_slice.ensures.after, last) (ap count_row c.in-Ok.ensures)

pub returns-in-Err : goal.returns-in-Err
unfolding no_tally
returns-in-Err c =
    let args = c.args in
    let whole : length args.out.now ≡ 69 = search rules in
    rw (count-whole args.plan.now args.events.now args.out.now whole, c.number.ensures, c.place.ensures) (ap count_row c.in-Err.ensures)
