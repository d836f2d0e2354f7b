-- What an accepted text has: 1 to 8 dimensions, good gates, a plan that passes; and what compiling it leaves in the slice.
use mathlib.Core.Path.{◌≡◌, refl, ◌∙◌}
use mathlib.Core.Bool.{Bool, true, false, cond, ◌&&◌}
use mathlib.Core.List.{List, []}
use Prim.Native.Nat.{ℕ, ◌≤◌}
use native.Mathlib.Omega.{arith}
use lib.Dec.{leb, eqb}
use lib.IntN.{ℤ}
use lib.ListN.{length, get_or, take, drop}
use lib.Seq.{take-append_seam}
use borrow.Author.Tests.{leb-true}
use Rattle.plans.specs.Refusals.{passed}
use Rattle.plans.specs.Form.{check_of}
use Rattle.plans.specs.Kinds.{spans}
use Rattle.plans.proofs.ReaderLaws.{check_reads}
use Rattle.text.specs.Lines.{fields}
use Rattle.text.specs.Output.{over}
use Rattle.text.proofs.OutputLaws.{over-fits}
use Rattle.text.proofs.TestLaws.{and_left, and_right}
use Rattle.gates.specs.Gate.{Gate, regions}
use Rattle.gates.proofs.GoodGate.{GoodBody}
use Rattle.gates.proofs.GateLaws.{good_gate}
use Rattle.tables.specs.Table.{◌∈◌}
use Rattle.tables.specs.Head.{head_fields, dimensions, is_dims, head_good, gate_lines, line_gate, gates}
use Rattle.tables.specs.Steps.{plan_words}
use Rattle.tables.specs.Refusals.{table_verdict}
use Rattle.tables.specs.Compile.{plan_of, compiled, uncompiled, compile_of}
use Rattle.tables.proofs.ListLaws.{map-from}
use Rattle.tables.proofs.GateLaws.{orderly}
use Rattle.tables.proofs.PlanPasses.{plan_reads}
use Rattle.tables.proofs.Acceptance.{Accepted}
use Rattle.tables.proofs.CountLaws.{good-regions}

-- ---- the slice afterwards

take-over : (p d : List ℤ) → length p ≤ length d → take (length p) (over p d) ≡ p
take-over p d h = rw (over-fits p d h) (take-append_seam p (drop (length p) d))

module _ (text : List ℕ) (slice : List ℤ) where
  pub compiled-verdict : (compile_of text slice).verdict ≡ table_verdict (length slice) text
  unfolding compile_of
  compiled-verdict = go (eqb (table_verdict (length slice) text).number 0)
    where
      go : (b : Bool)
          → (cond b (compiled text slice (table_verdict (length slice) text)) (uncompiled slice (table_verdict (length slice) text))).verdict
          ≡ table_verdict (length slice) text
      go true = refl
      go false = refl

  -- a compile that reports no words is refused
  pub compiled-words : (table_verdict (length slice) text).number ≡ 0 → 2 ≤ (compile_of text slice).words
  unfolding compile_of plan_of plan_words
  compiled-words e = rw e (omega arith)

module _ (text : List ℕ) (slice : List ℤ) (e : table_verdict (length slice) text ≡ passed) where
  pub compiled-regions : (compile_of text slice).regions ≡ length (regions (gates text))
  unfolding compile_of
  compiled-regions = rw e

  -- the words reported are the plan
  pub compiled-plan : length (plan_of text) ≤ length slice → take (compile_of text slice).words (compile_of text slice).slice ≡ plan_of text
  unfolding compile_of
  compiled-plan h = rw e (take-over (plan_of text) slice h)

-- ---- the head

pub head-width : (text : List ℕ) → head_good text ≡ true → (1 ≤ length (dimensions text)) × (length (dimensions text) ≤ 8)
unfolding head_good spans
head-width text h =
    let k = length (dimensions text) in
    let s : (leb 1 k && leb k 8) ≡ true = and_left (leb 1 k && leb k 8) _ (and_right (is_dims (get_or (head_fields text) 0 [])) _ h) in
    (leb-true 1 k (and_left (leb 1 k) (leb k 8) s), leb-true k 8 (and_right (leb 1 k) (leb k 8) s))

-- ---- gates and plan

module _ (slice : ℕ) (text : List ℕ) (a : Accepted slice text) where
  pub gates-good : (g : Gate) → g ∈ gates text → GoodBody (length (dimensions text)) g.body
  unfolding gates line_gate
  gates-good g m =
      let l = map-from (line_gate (dimensions text)) (gate_lines text) m in
      rw l.2 (good_gate (dimensions text) (fields l.0) (a.lines_good l.0 l.1))

  pub plan-passes : check_of (plan_of text) ≡ passed
  unfolding plan_of
  plan-passes =
      let n = length (dimensions text) in
      let d = head-width text a.head in
      check_reads (plan_words n (regions (gates text)))
      ∙ plan_reads (regions (gates text)) (orderly (gates text) a.rules) n (good-regions n (gates text) gates-good) d.0 d.1 a.plan_fits
