-- `put_line`: the first i words, each with what stands behind it, are written.
use mathlib.Core.Path.{refl, ◌∙◌}
use mathlib.Core.List.{[], ◌∷◌}
use Prim.Native.Nat.{◌+◌}
use native.Mathlib.Omega.{arith}
use lib.IntN.{pos}
use lib.ListN.{get_or, drop}
use Rattle.std.proofs.lemmas.Int.{to_z-of_z}
use Rattle.text.specs.Inner.Writing.{WritesFrom}
use Rattle.planreport.specs.PlanText.{word_text}
use Rattle.planreport.specs.Inner.Compiling.{ended_words}
use Rattle.planreport.proofs.ProgressLaws.{progress_none, progress_more, progress_all, byte_put}
use Rattle.planreport.proofs.TextLaws.{line-ended, ended-more, ended-none, word-short}
use Rattle.planreport.proofs.printing.put_line.Goals as goal
use Rattle.planreport.proofs.printing.put_line.Goals.{After-put_word_from-at}

pub loop-i-init : goal.loop-i-init
loop-i-init c = (omega arith, progress_none _ _)

-- word i is written
written : (c : After-put_word_from-at)
    → WritesFrom c.loop-i.at (word_text (get_or c.args.words.now c.loop-i.i (pos 0))) c.loop-i.rest c.put_word_from-at.new.rest c.put_word_from-at.result
written c = grind (arith, to_z-of_z)

pub overflow_add-at : goal.overflow_add-at
overflow_add-at c =
    omega (arith, c.requires.1, c.loop-i.invariant.0, word-short _ (written (goal.at.overflow_add-at c).After-put_word_from-at).0)

pub overflow_add-at-in-loop-i : goal.overflow_add-at-in-loop-i
overflow_add-at-in-loop-i c =
    omega (arith, c.requires.1, c.loop-i.invariant.0, word-short _ (written (goal.at.overflow_add-at-in-loop-i c).After-put_word_from-at).0)

pub loop-i-preserved : goal.loop-i-preserved
loop-i-preserved c =
    let words = c.args.words.now in
    let word = written (goal.at.loop-i-preserved c).After-put_word_from-at in
    let first = progress_more _ _ (word_text (get_or words c.loop-i.i (pos 0))) _ c.loop-i.invariant.1 (ended-more words c.loop-i.i c.loop-i-test.true) word in
    let end = rw c.word_end.ensures at c.put.ensures in (
      omega (arith, c.loop-i.invariant.0, word-short _ word.0),
      progress_more _ _ (_ ∷ []) (ended_words (drop (c.loop-i.i + 1) words)) first refl (refl, end ∙ byte_put _ _ _),
    )

pub returns : goal.returns
returns c =
    let words = c.args.words.now in
    let done = rw (ended-none words c.loop-i.i c.loop-i-test.false) at c.loop-i.invariant.1 in
    record {
      writes = rw (line-ended words c.requires.0) (progress_all _ _ done);
      upper_bound = omega (arith, c.loop-i.invariant.0);
    }
