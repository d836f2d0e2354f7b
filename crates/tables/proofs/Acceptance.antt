-- A table is accepted exactly when it keeps the limits, the rules of its lines and the rules of its gates together.
use mathlib.Core.Path.{◌≡◌, refl, sym, ap, ◌∙◌}
use mathlib.Core.Bool.{Bool, true, false, not, cond}
use mathlib.Core.Logic.{◌⊎◌, inl, inr}
use mathlib.Core.List.{List, []}
use Prim.Native.Nat.{ℕ, ◌+◌, ◌<◌, ◌≤◌}
use native.Mathlib.Omega.{arith}
use lib.Dec.{ltb}
use lib.ListN.{length, get_or}
use borrow.Author.Tests.{ltb-false, le-ltb, eq-eqb, eqb-true}
use Rattle.plans.specs.Indices.{first_bad}
use Rattle.plans.specs.Refusals.{Verdict, passed, refused}
use Rattle.plans.proofs.IndexLaws.{first-before, first-none}
use Rattle.text.specs.Lines.{fields, ends_in_lf}
use Rattle.text.proofs.TestLaws.{passed_or_failed}
use Rattle.gates.specs.Rules.{no_refusal}
use Rattle.gates.specs.Refusal.{line_refusal}
use Rattle.gates.specs.Gate.{Gate, regions}
use Rattle.tables.specs.Table.{◌∈◌}
use Rattle.tables.specs.Head.{dimensions, head_good, gate_lines, gates}
use Rattle.tables.specs.Further.Rules.{Rules}
use Rattle.tables.specs.Steps.{plan_words}
use Rattle.tables.specs.Refusals.{unless_line, refusal_at, line_good, uncrowded, unrepeated, living, uncircled, always, size_verdict, gates_verdict, table_verdict}
use Rattle.tables.specs.Compile.{plan_of}
use Rattle.tables.proofs.ListLaws.{not-not, at_in, index_of}
use Rattle.tables.proofs.RuleLaws.{Unrefused, rules_hold, hold_rules}

-- what it is to be accepted, with a slice of that many words
pub record Accepted (slice : ℕ) (text : List ℕ) : Type 0 where
  -- 1, 2, 3
  pub short : length text ≤ 32768
  pub ends : ends_in_lf text ≡ true
  pub head : head_good text ≡ true
  -- 4 to 12
  pub lines_good : (l : List ℕ) → l ∈ gate_lines text → line_refusal (dimensions text) (fields l) ≡ no_refusal
  -- 13 to 16
  pub rules : Rules (gates text)
  -- 17, 18
  pub plan_fits : length (plan_of text) ≤ 4096
  pub slice_fits : length (plan_of text) ≤ slice

-- ---- one refusal after the other

place_of : {v w : Verdict} → v ≡ w → v.place ≡ w.place
place_of e = ap (λ (v : Verdict). v.place) e

number_of : {v w : Verdict} → v ≡ w → v.number ≡ w.number
number_of e = ap (λ (v : Verdict). v.number) e

-- a verdict with a number of its own is none that passes
pub not-refused : (c : Bool) (k place : ℕ) (v : Verdict) → 1 ≤ k → cond c (refused k place) v ≡ passed → (c ≡ false) × (v ≡ passed)
not-refused true k place v h e = let z : k ≡ 0 = number_of e in absurd (omega arith)
not-refused false k place v h e = (refl, e)

module _ (number : ℕ → ℕ) (good : ℕ → Bool) (k : ℕ) (v : Verdict) where
  -- no line is refused: each is good
  pub unless-passed : unless_line number good k v ≡ passed → ((i : ℕ) → i < k → good i ≡ true) × (v ≡ passed)
  unfolding unless_line
  unless-passed e = go (passed_or_failed (ltb (first_bad good 0 k) k))
    where
      go : (ltb (first_bad good 0 k) k ≡ true) ⊎ (ltb (first_bad good 0 k) k ≡ false) → ((i : ℕ) → i < k → good i ≡ true) × (v ≡ passed)
      go (inl t) = let z : first_bad good 0 k + 2 ≡ 0 = place_of (rw t at e) in absurd (omega arith)
      go (inr t) = let l = ltb-false (first_bad good 0 k) k t in ((λ i h. first-before good 0 k i (omega arith) (omega arith)), rw t at e)

  pub passed-unless : ((i : ℕ) → i < k → good i ≡ true) → unless_line number good k v ≡ v
  unfolding unless_line
  passed-unless h =
      let z : first_bad good 0 k ≡ 0 + k = first-none good 0 k (λ i _ l. h i (omega arith)) in
      rw (le-ltb (first_bad good 0 k) k (omega arith))

size-passed : (slice words : ℕ) → size_verdict slice words ≡ passed → (words ≤ 4096) × (words ≤ slice)
unfolding size_verdict
size-passed slice words e =
    let a = not-refused (ltb 4096 words) 17 0 _ (omega arith) e in
    let b = not-refused (ltb slice words) 18 0 _ (omega arith) a.1 in
    (ltb-false 4096 words a.0, ltb-false slice words b.0)

passed-size : (slice words : ℕ) → words ≤ 4096 → words ≤ slice → size_verdict slice words ≡ passed
unfolding size_verdict
passed-size slice words a b = rw (le-ltb 4096 words a, le-ltb slice words b)

module _ (slice n : ℕ) (t : List Gate) where
  gates-passed : gates_verdict slice n t ≡ passed → Unrefused t × (size_verdict slice (length (plan_words n (regions t))) ≡ passed)
  unfolding gates_verdict
  gates-passed e =
      let a = unless-passed (always 13) (uncrowded t) (length t) _ e in
      let b = unless-passed (always 14) (unrepeated t) (length t) _ a.1 in
      let c = unless-passed (always 15) (living t) (length t) _ b.1 in
      let d = unless-passed (always 16) (uncircled t) (length t) _ c.1 in
      (record { not_13 = a.0; not_14 = b.0; not_15 = c.0; not_16 = d.0 }, d.1)

  passed-gates : Unrefused t → size_verdict slice (length (plan_words n (regions t))) ≡ passed → gates_verdict slice n t ≡ passed
  unfolding gates_verdict
  passed-gates u e =
      passed-unless (always 13) (uncrowded t) (length t) _ u.not_13
      ∙ passed-unless (always 14) (unrepeated t) (length t) _ u.not_14
      ∙ passed-unless (always 15) (living t) (length t) _ u.not_15
      ∙ passed-unless (always 16) (uncircled t) (length t) _ u.not_16 ∙ e

module _ (slice : ℕ) (text : List ℕ) where
  pub line-good : ((i : ℕ) → i < length (gate_lines text) → line_good (dimensions text) (gate_lines text) i ≡ true)
      → (l : List ℕ) → l ∈ gate_lines text → line_refusal (dimensions text) (fields l) ≡ no_refusal
  unfolding line_good refusal_at
  line-good h l m =
      let i = index_of [] (gate_lines text) m in
      ap (λ (x : List ℕ). line_refusal (dimensions text) (fields x)) (sym i.2) ∙ eqb-true _ no_refusal (h i.0 i.1)

  good-line : ((l : List ℕ) → l ∈ gate_lines text → line_refusal (dimensions text) (fields l) ≡ no_refusal)
      → (i : ℕ) → i < length (gate_lines text) → line_good (dimensions text) (gate_lines text) i ≡ true
  unfolding line_good refusal_at
  good-line h i l = eq-eqb _ no_refusal (h (get_or (gate_lines text) i []) (at_in [] (gate_lines text) i l))

  -- ---- both directions

  pub passed-accepted : table_verdict slice text ≡ passed → Accepted slice text
  unfolding table_verdict plan_of
  passed-accepted e =
      let a = not-refused (ltb 32768 (length text)) 1 0 _ (omega arith) e in
      let b = not-refused (not (ends_in_lf text)) 2 0 _ (omega arith) a.1 in
      let c = not-refused (not (head_good text)) 3 1 _ (omega arith) b.1 in
      let d = unless-passed (refusal_at (dimensions text) (gate_lines text)) (line_good (dimensions text) (gate_lines text)) (length (gate_lines text)) _ c.1 in
      let g = gates-passed slice (length (dimensions text)) (gates text) d.1 in
      let s = size-passed slice (length (plan_words (length (dimensions text)) (regions (gates text)))) g.1 in
      record {
        short = ltb-false 32768 (length text) a.0;
        ends = not-not (ends_in_lf text) b.0;
        head = not-not (head_good text) c.0;
        lines_good = line-good d.0;
        rules = rules_hold (gates text) g.0;
        plan_fits = s.0;
        slice_fits = s.1;
      }

  pub accepted-passed : Accepted slice text → table_verdict slice text ≡ passed
  unfolding table_verdict plan_of
  accepted-passed a =
      let e = a.ends in
      let h = a.head in
      rw (le-ltb 32768 (length text) a.short, e, h)
      (passed-unless (refusal_at (dimensions text) (gate_lines text)) (line_good (dimensions text) (gate_lines text)) (length (gate_lines text)) _
      (good-line a.lines_good)
      ∙ passed-gates slice (length (dimensions text)) (gates text) (hold_rules (gates text) a.rules)
      (passed-size slice (length (plan_words (length (dimensions text)) (regions (gates text)))) a.plan_fits a.slice_fits))
