-- `put_leaf` meets its contract: the first i words of the body are written over the beginning.
use Rattle.std.proofs.Common.{◌≡◌, drop}
use Rattle.text.specs.Bounded.{tab}
use Rattle.text.specs.Lines.{fields}
use Rattle.text.specs.Output.{over}
use Rattle.gates.specs.Inner.Regions.{body_word_of}
use Rattle.writer.proofs.put_leaf.Given as goal

abbrev pub invariant-loop-i : goal.invariant-loop-i
invariant-loop-i l = l.rest ≡ over (tab (body_word_of (drop 1 (fields l.head)) (fields l.line) l.q) l.i) l.initial.rest
