-- A text with other lines in the place of its gate lines: its lines, its head, and when it is accepted.
use mathlib.Core.Path.{◌≡◌, refl, sym, ap, ◌∙◌}
use mathlib.Core.Bool.{true}
use mathlib.Core.List.{List, [], ◌∷◌}
use Prim.Native.Nat.{ℕ, suc, ◌+◌}
use native.Mathlib.Omega.{arith}
use lib.ListN.{length, get_or, drop, length-append, length-map}
use Rattle.text.specs.Bytes.{every}
use Rattle.text.specs.Inner.Counts.{without}
use Rattle.text.specs.Lines.{lines, fields, unlines, ends_in_lf}
use Rattle.text.proofs.TextTheorems.{unlines-lines, lines-without, lines-unlines}
use Rattle.text.proofs.TestLaws.{true≢false, and_left}
use Rattle.gates.specs.Rules.{no_refusal}
use Rattle.gates.specs.Refusal.{line_refusal}
use Rattle.gates.specs.Gate.{Name, Shape, leaf, and_of, or_of, not_of, Region, regions}
use Rattle.gates.specs.Encoding.{leaf_words}
use Rattle.tables.specs.Table.{◌∈◌, no_region, nth_region, sum_of}
use Rattle.tables.specs.Head.{head_fields, dimensions, head_good, gate_lines, gates, reordered}
use Rattle.tables.specs.Steps.{body_words, step_words, steps_words, order, plan_words}
use Rattle.tables.specs.Further.Rules.{Rules}
use Rattle.tables.specs.Compile.{plan_of}
use Rattle.tables.proofs.SumLaws.{sum_below_lem}
use Rattle.tables.proofs.OrderLaws.{Orderly, order-sum}
use Rattle.tables.proofs.GateLaws.{orderly}
use Rattle.tables.proofs.TextLaws.{unlines-length, unlines-ends}
use Rattle.tables.proofs.Acceptance.{Accepted}

-- ---- the length of a plan does not rest on the order of its steps

abbrev pub body_size : Shape → ℕ
body_size (leaf l) = length (leaf_words l)
body_size (and_of os) = length os
body_size (or_of os) = length os
body_size (not_of o) = 1

abbrev pub step_size : Region → ℕ
step_size r = 4 + body_size r.shape

body-size : (rs : List Region) (s : Shape) → length (body_words rs s) ≡ body_size s
body-size rs (leaf l) = refl
body-size rs (and_of os) = length-map os _
body-size rs (or_of os) = length-map os _
body-size rs (not_of o) = refl

step-size : (rs : List Region) (r : ℕ) → length (step_words rs r) ≡ step_size (nth_region rs r)
unfolding step_words
step-size rs r = omega (arith, body-size rs (nth_region rs r).shape)

steps-size : (rs : List Region) (o : List ℕ) → length (steps_words rs o) ≡ sum_of (λ r. step_size (nth_region rs r)) o
steps-size rs [] = refl
steps-size rs (r ∷ o) = simp length-append (omega (arith, steps-size rs o, step-size rs r))

pub plan-size : (rs : List Region) → Orderly rs → (n : ℕ) → length (plan_words n rs) ≡ 2 + sum_of step_size rs
unfolding plan_words nth_region
plan-size rs ok n =
    omega (arith, steps-size rs (order rs), order-sum rs ok (λ r. step_size (nth_region rs r)), sum_below_lem step_size no_region rs)

-- ---- the lines of a text that ends in LF

-- the bytes of a line with its LF
abbrev pub line_bytes : List ℕ → ℕ
line_bytes l = suc (length l)

module _ (text : List ℕ) (ends : ends_in_lf text ≡ true) where
  -- line 1, then the gate lines
  pub lines_are : lines text ≡ get_or (lines text) 0 [] ∷ gate_lines text
  unfolding gate_lines ends_in_lf
  lines_are = go (lines text) (unlines-lines text ends)
    where
      go : (ls : List (List ℕ)) → unlines ls ≡ text → ls ≡ get_or ls 0 [] ∷ drop 1 ls
      go [] e = absurd (true≢false (sym ends ∙ ap ends_in_lf (sym e)))
      go (l ∷ ls) e = refl

  pub lines-clean : every (without 10) (get_or (lines text) 0 [] ∷ gate_lines text) ≡ true
  lines-clean = ap (every (without 10)) (sym lines_are) ∙ lines-without text

  -- ---- with other lines, none of which has an LF in it

  module _ (ks : List (List ℕ)) (clean : every (without 10) ks ≡ true) where
    abbrev again : List ℕ
    again = reordered text ks

    same_lines : lines again ≡ get_or (lines text) 0 [] ∷ ks
    unfolding reordered
    same_lines =
        let first = get_or (lines text) 0 [] in
        lines-unlines (first ∷ ks) (rw (and_left (without 10 first) (every (without 10) (gate_lines text)) lines-clean, clean))

    same_head : head_fields again ≡ head_fields text
    unfolding head_fields
    same_head = ap (λ (x : List (List ℕ)). fields (get_or x 0 [])) same_lines

    pub same-dimensions : dimensions again ≡ dimensions text
    unfolding dimensions
    same-dimensions = ap (drop 1) same_head

    pub same_good : head_good again ≡ head_good text
    unfolding head_good
    same_good = rw (same_head, same-dimensions)

    pub rewritten_lines : gate_lines again ≡ ks
    unfolding gate_lines
    rewritten_lines = ap (drop 1) same_lines

    pub same_length : sum_of line_bytes ks ≡ sum_of line_bytes (gate_lines text) → length again ≡ length text
    unfolding reordered
    same_length as_long =
        let first = get_or (lines text) 0 [] in
        let other = unlines-length (first ∷ ks) in
        let own = unlines-length (first ∷ gate_lines text) in
        let t : length (unlines (first ∷ gate_lines text)) ≡ length text =
        ap (λ (x : List (List ℕ)). length (unlines x)) (sym lines_are) ∙ ap length (unlines-lines text ends) in
        omega arith

    -- accepted: lines that are good, gates that keep the rules, as many bytes and as many words
    pub rewritten_accepted : (slice : ℕ) → Accepted slice text → sum_of line_bytes ks ≡ sum_of line_bytes (gate_lines text)
        → ((k : List ℕ) → k ∈ ks → line_refusal (dimensions text) (fields k) ≡ no_refusal) → Rules (gates again)
        → sum_of step_size (regions (gates again)) ≡ sum_of step_size (regions (gates text)) → Accepted slice again
    unfolding reordered plan_of
    rewritten_accepted slice a as_long good rules as_many =
        let short = a.short in
        let fits = a.plan_fits in
        let lent = a.slice_fits in
        let bytes = same_length as_long in
        let own = plan-size (regions (gates text)) (orderly (gates text) a.rules) (length (dimensions text)) in
        let other = plan-size (regions (gates again)) (orderly (gates again) rules) (length (dimensions again)) in
        record {
          short = omega arith;
          ends = unlines-ends (get_or (lines text) 0 []) ks;
          head = same_good ∙ a.head;
          lines_good = λ k m. ap (λ (h : List Name). line_refusal h (fields k)) same-dimensions ∙ good k (rw rewritten_lines at m);
          rules = rules;
          plan_fits = omega arith;
          slice_fits = omega arith;
        }
