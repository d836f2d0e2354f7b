-- `put_words`: the m words of the lines before `at` are written over the beginning.
use Prim.Native.Nat.{◌-◌}
use lib.ListN.{length}
use Rattle.text.proofs.FilledLaws.{Filled}
use Rattle.runreport.specs.PlanReading.{line_words, words_of}
use Rattle.runreport.proofs.reading.put_words.Given as goal

abbrev pub invariant-loop-at : goal.invariant-loop-at
invariant-loop-at l = Filled line_words (words_of l.part) l.part l.initial.plan l.at l.m l.plan

abbrev pub decreases-loop-at : goal.decreases-loop-at
decreases-loop-at l = length l.part - l.at
