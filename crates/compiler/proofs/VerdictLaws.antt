-- What compiling answers by the table's verdict.
use mathlib.Core.Path.{◌≡◌, refl, sym, ap, ◌∙◌}
use mathlib.Core.Bool.{Bool, true, false, not, cond}
use mathlib.Core.List.{List, []}
use Prim.Native.Nat.{ℕ, ◌+◌, ◌<◌, ◌≤◌}
use native.Mathlib.Omega.{arith}
use lib.Dec.{ltb, eqb}
use lib.IntN.{ℤ}
use lib.ListN.{length, get_or}
use borrow.Author.Tests.{lt-ltb, le-ltb, eqb-true, ne_eqb}
use Rattle.plans.specs.Indices.{first_bad}
use Rattle.plans.specs.Refusals.{Verdict, passed, refused}
use Rattle.text.specs.Lines.{ends_in_lf, fields}
use Rattle.text.specs.Output.{over}
use Rattle.text.proofs.OutputLaws.{over-length}
use Rattle.gates.specs.Gate.{Gate, regions}
use Rattle.tables.specs.Head.{dimensions, head_good, gate_lines, gates}
use Rattle.tables.specs.Steps.{plan_words}
use Rattle.tables.specs.Refusals.{unless_line, refusal_at, line_good, always, uncrowded, unrepeated, living, uncircled, size_verdict, gates_verdict, table_verdict}
use Rattle.tables.proofs.Acceptance.{Accepted, passed-accepted}
use Rattle.tables.specs.Compile.{Compiling, plan_of, compiled, uncompiled, compile_of}
use Rattle.tablecheck.specs.Inner.TextVerdict.{names_verdict, lines_verdict, text_verdict}
use Rattle.tablecheck.proofs.CursorLaws.{table-verdict}
use Rattle.tablecheck.proofs.LineNumberLaws.{line-listed}
use Rattle.compiler.specs.Inner.Unrefused.{Unrefused}

-- the two clauses that tell what a table's verdict is
pub both : {A B : Type 0} → A × B → record { verdict : A; accepted : B }
both p = record { verdict = p.0; accepted = p.1 }

-- ---- the number of a refusal is never 0

named-cond : (b : Bool) (v w : Verdict) → 1 ≤ v.number → 1 ≤ w.number → 1 ≤ (cond b v w).number
named-cond true v w h k = h
named-cond false v w h k = k

unless-line-named : (number : ℕ → ℕ) (good : ℕ → Bool) (k : ℕ) (v : Verdict) → ((i : ℕ) → 1 ≤ number i)
    → 1 ≤ v.number → 1 ≤ (unless_line number good k v).number
unfolding unless_line
unless-line-named number good k v h l =
    named-cond (ltb (first_bad good 0 k) k) (refused (number (first_bad good 0 k)) (first_bad good 0 k + 2)) v (h (first_bad good 0 k)) l

text-named : (text : List ℕ) (v : Verdict) → 1 ≤ v.number → 1 ≤ (text_verdict text v).number
unfolding text_verdict lines_verdict names_verdict refusal_at
text-named text v l =
    let t = gates text in
    named-cond (ltb 32768 (length text)) (refused 1 0) _ (omega arith)
    (named-cond (not (ends_in_lf text)) (refused 2 0) _ (omega arith)
    (named-cond (not (head_good text)) (refused 3 1) _ (omega arith)
    (unless-line-named (refusal_at (dimensions text) (gate_lines text)) (line_good (dimensions text) (gate_lines text)) (length (gate_lines text)) _
    (λ i. omega (arith, (line-listed (dimensions text) (fields (get_or (gate_lines text) i []))).0))
    (unless-line-named (always 13) (uncrowded t) (length t) _ (λ i. omega arith)
    (unless-line-named (always 14) (unrepeated t) (length t) _ (λ i. omega arith)
    (unless-line-named (always 15) (living t) (length t) _ (λ i. omega arith)
    (unless-line-named (always 16) (uncircled t) (length t) v (λ i. omega arith) l)))))))

-- ---- a verdict with number 0 passes

-- number 0 only where it passes
abbrev Numbered : Verdict → Type 0
Numbered v = v.number ≡ 0 → v ≡ passed

cond-numbered : (c : Bool) (k place : ℕ) (v : Verdict) → 1 ≤ k → Numbered v → Numbered (cond c (refused k place) v)
cond-numbered true k place v h f e = absurd (omega arith)
cond-numbered false k place v h f e = f e

line-numbered : (number : ℕ → ℕ) (good : ℕ → Bool) (k : ℕ) (v : Verdict) → ((i : ℕ) → 1 ≤ number i) → Numbered v → Numbered (unless_line number good k v)
unfolding unless_line
line-numbered number good k v h f = cond-numbered (ltb (first_bad good 0 k) k) (number (first_bad good 0 k))
    (first_bad good 0 k + 2) v (h (first_bad good 0 k)) f

size-numbered : (slice words : ℕ) → Numbered (size_verdict slice words)
unfolding size_verdict
size-numbered slice words =
    cond-numbered (ltb 4096 words) 17 0 _ (omega arith) (cond-numbered (ltb slice words) 18 0 passed (omega arith) (λ e. refl))

gates-numbered : (slice n : ℕ) (t : List Gate) → Numbered (gates_verdict slice n t)
unfolding gates_verdict
gates-numbered slice n t =
    line-numbered (always 13) (uncrowded t) (length t) _ (λ i. omega arith)
    (line-numbered (always 14) (unrepeated t) (length t) _ (λ i. omega arith)
    (line-numbered (always 15) (living t) (length t) _ (λ i. omega arith)
    (line-numbered (always 16) (uncircled t) (length t) _ (λ i. omega arith)
    (size-numbered slice (length (plan_words n (regions t)))))))

pub verdict-numbered : (slice : ℕ) (text : List ℕ) → (table_verdict slice text).number ≡ 0 → table_verdict slice text ≡ passed
unfolding table_verdict refusal_at
verdict-numbered slice text =
    cond-numbered (ltb 32768 (length text)) 1 0 _ (omega arith)
    (cond-numbered (not (ends_in_lf text)) 2 0 _ (omega arith)
    (cond-numbered (not (head_good text)) 3 1 _ (omega arith)
    (line-numbered (refusal_at (dimensions text) (gate_lines text)) (line_good (dimensions text) (gate_lines text)) (length (gate_lines text)) _
    (λ i. omega (arith, (line-listed (dimensions text) (fields (get_or (gate_lines text) i []))).0))
    (gates-numbered slice (length (dimensions text)) (gates text)))))

pub number-accepted : (slice : ℕ) (text : List ℕ) → (table_verdict slice text).number ≡ 0 → Accepted slice text
number-accepted slice text e = passed-accepted slice text (verdict-numbered slice text e)

-- ---- refused by 1 to 16

module _ (text : List ℕ) (room : ℕ) where
  -- a verdict of the table that refuses it
  abbrev pub Refuses : Verdict → Type 0
  Refuses v = (v ≡ table_verdict room text) × (false ≡ eqb (table_verdict room text).number 0)

  refuses : (number place : ℕ) → refused number place ≡ table_verdict room text → 1 ≤ number → Refuses (refused number place)
  refuses number place e h = (e, rw (← e) (sym (ne_eqb number 0 (λ z. omega arith))))

  pub refused_16 : {v : Verdict} → ((w : Verdict) → v ≡ text_verdict text w) → Refuses v
  refused_16 {v} h =
      let n : 1 ≤ v.number = rw (← h (refused 1 0)) at (text-named text (refused 1 0) (omega arith)) in
      refuses v.number v.place (h _ ∙ sym (table-verdict room text)) n

  -- ---- 17, 18, and none

  module _ (u : Unrefused text) where
    by_size : table_verdict room text ≡ size_verdict room (length (plan_of text))
    unfolding plan_of
    by_size = table-verdict room text ∙ sym (u _)

    pub refused_17 : 4096 < length (plan_of text) → Refuses (refused 17 0)
    unfolding size_verdict
    refused_17 h = refuses 17 0 (rw (by_size, lt-ltb 4096 (length (plan_of text)) h)) (omega arith)

    module _ (h : length (plan_of text) ≤ 4096) where
      pub refused_18 : room < length (plan_of text) → Refuses (refused 18 0)
      unfolding size_verdict
      refused_18 l = refuses 18 0 (rw (by_size, le-ltb 4096 (length (plan_of text)) h, lt-ltb room (length (plan_of text)) l)) (omega arith)

      pub accepted : length (plan_of text) ≤ room → (passed ≡ table_verdict room text) × (true ≡ eqb (table_verdict room text).number 0)
      unfolding size_verdict
      accepted l =
          let e : passed ≡ table_verdict room text = rw (by_size, le-ltb 4096 (length (plan_of text)) h, le-ltb room (length (plan_of text)) l) in
          (e, rw (← e))

-- ---- what compiling answers by the verdict

module _ (text : List ℕ) (slice : List ℤ) where
  pub compile_refused : {v : Verdict} → Refuses text (length slice) v → uncompiled slice v ≡ compile_of text slice
  unfolding compile_of
  compile_refused r = rw (r.0, ← r.1)

  pub compile_written : table_verdict (length slice) text ≡ passed → {words : ℕ} → words ≡ length (plan_of text) → {number : ℕ}
      → number ≡ length (regions (gates text))
      → {after : List ℤ} → after ≡ over (plan_of text) slice
      → ◌≡◌ {A = Compiling} (record { verdict = passed; words = words; regions = number; slice = after }) (compile_of text slice)
  unfolding compile_of
  compile_written e f g h = rw (e, f, g, h)

-- ---- the words written are words of the slice

module _ (text : List ℕ) (slice : List ℤ) where
  plan_fits : (table_verdict (length slice) text).number ≡ 0 → length (plan_of text) ≤ length slice
  plan_fits e = (number-accepted (length slice) text e).slice_fits

  words_in : (b : Bool) → (b ≡ true → length (plan_of text) ≤ length slice) → (v : Verdict)
      → (cond b (compiled text slice v) (uncompiled slice v)).words ≤ length slice
  words_in true h v = h refl
  words_in false h v = omega arith

  pub words-fit : (compile_of text slice).words ≤ length slice
  unfolding compile_of
  words-fit =
      let v = table_verdict (length slice) text in
      words_in (eqb v.number 0) (λ e. plan_fits (eqb-true v.number 0 e)) v

  length_in : (b : Bool) (v : Verdict) → length (cond b (compiled text slice v) (uncompiled slice v)).slice ≡ length slice
  length_in true v = over-length (plan_of text) slice
  length_in false v = refl

  -- the slice keeps its length
  pub length-kept : length (compile_of text slice).slice ≡ length slice
  unfolding compile_of
  length-kept = length_in (eqb (table_verdict (length slice) text).number 0) (table_verdict (length slice) text)

  some_words : (b : Bool) (v : Verdict) → (cond b (compiled text slice v) (uncompiled slice v)).words ≡ 0 → b ≡ false
  unfolding plan_of plan_words
  some_words true v e = absurd (omega (arith, e))
  some_words false v e = refl

  -- a refusal that compiling answers has a number
  pub refused-number : {v : Verdict} {after : List ℤ} → uncompiled after v ≡ compile_of text slice → eqb v.number 0 ≡ false
  unfolding compile_of
  refused-number {v} e =
      let t = table_verdict (length slice) text in
      let b : eqb t.number 0 ≡ false = some_words (eqb t.number 0) t (sym (ap (λ (c : Compiling). c.words) e)) in
      let k : v ≡ t = ap (λ (c : Compiling). c.verdict) e ∙ rw b in
      rw k b
