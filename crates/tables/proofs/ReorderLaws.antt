-- An accepted text with its gate lines in another order is accepted.
use mathlib.Core.Path.{◌≡◌, sym, ap, ◌∙◌}
use mathlib.Core.Bool.{true}
use mathlib.Core.List.Permᴰ
use mathlib.Core.List.{List, [], Permᴰ}
use Prim.Native.Nat.{ℕ}
use lib.ListN.{get_or}
use Rattle.text.specs.Bytes.{every}
use Rattle.text.specs.Inner.Counts.{without}
use Rattle.text.specs.Lines.{lines, unlines}
use Rattle.text.proofs.TextTheorems.{unlines-lines}
use Rattle.text.proofs.TestLaws.{and_right}
use Rattle.tables.specs.Head.{dimensions, gate_lines, line_gate, gates, LineOrder, reordered}
use Rattle.tables.proofs.ListLaws.{every-at, every_of}
use Rattle.tables.proofs.SumLaws.{sum_moved}
use Rattle.tables.proofs.GateLaws.{moved, moved-map, moved_sum, moved-rules}
use Rattle.tables.proofs.Acceptance.{Accepted}
use Rattle.tables.proofs.RewrittenLaws as W

module _ (slice : ℕ) (text : List ℕ) (a : Accepted slice text) (ks : List (List ℕ)) (p : LineOrder text ks) where
  abbrev again : List ℕ
  again = reordered text ks

  -- the text is its own lines in their own order
  pub own-order : reordered text (gate_lines text) ≡ text
  unfolding reordered
  own-order = ap unlines (sym (W.lines_are text a.ends)) ∙ unlines-lines text a.ends

  clean : every (without 10) ks ≡ true
  clean =
      let own = and_right (without 10 (get_or (lines text) 0 [])) (every (without 10) (gate_lines text)) (W.lines-clean text a.ends) in
      every_of (without 10) ks (λ l m. every-at (without 10) (moved (Permᴰ.symm p) m) own)

  pub same-dimensions : dimensions again ≡ dimensions text
  same-dimensions = W.same-dimensions text a.ends ks clean

  -- the reordered text's gates are the text's, in the order of the lines
  pub gates-moved : Permᴰ (gates text) (gates again)
  unfolding gates
  gates-moved = rw (same-dimensions, W.rewritten_lines text a.ends ks clean) (moved-map (line_gate (dimensions text)) p)

  pub reordered-accepted : Accepted slice again
  reordered-accepted =
      W.rewritten_accepted text a.ends ks clean slice a (sym (sum_moved W.line_bytes p)) (λ k m. a.lines_good k (moved (Permᴰ.symm p) m))
      (moved-rules (gates text) (gates again) gates-moved a.rules) (moved_sum (gates text) (gates again) gates-moved W.step_size)
