-- A table to which none of 1 to 16 applies is settled.
use mathlib.Core.Path.{◌≡◌, sym, ap, ◌∙◌}
use mathlib.Core.Bool.{true, not}
use mathlib.Core.List.Memᴰ.{head as here}
use mathlib.Core.List.Memᴰ.{tail as there}
use mathlib.Core.List.{List, [], ◌∷◌, map}
use mathlib.Core.Path.{refl}
use Prim.Native.Nat.{ℕ, ◌<◌, ◌≤◌}
use native.Mathlib.Omega.{arith}
use lib.Dec.{ltb}
use lib.ListN.{length, get_or, length-append, length-map, length-drop}
use borrow.Author.Tests.{eqb-true}
use Rattle.plans.specs.Refusals.{Verdict, passed}
use Rattle.text.specs.Lines.{lines, fields, ends_in_lf}
use Rattle.gates.specs.Rules.{no_refusal}
use Rattle.gates.specs.Refusal.{line_refusal}
use Rattle.gates.specs.Gate.{Gate, gate_regions, regions}
use Rattle.gates.specs.Meaning.{gate_of}
use Rattle.gates.proofs.GateLaws.{regions-some, region-count}
use Rattle.tables.specs.Table.{◌∈◌}
use Rattle.tables.specs.Head.{dimensions, head_good, gate_lines, line_gate, gates}
use Rattle.tables.specs.Steps.{plan_words}
use Rattle.tables.specs.Refusals.{refusal_at, line_good, always, uncrowded, unrepeated, living, uncircled, table_verdict}
use Rattle.tables.specs.Compile.{plan_of}
use Rattle.tables.proofs.ListLaws.{not-not, index_of}
use Rattle.tables.proofs.RuleLaws.{Unrefused as Held, rules_hold}
use Rattle.tables.proofs.Acceptance.{not-refused, unless-passed, passed-unless}
use Rattle.tables.proofs.CompileLaws.{head-width}
use Rattle.tablecheck.specs.Inner.Names.{GoodLines}
use Rattle.resolve.specs.Inner.Reading.{starts_of, gate_count, fields_at, gates_at}
use Rattle.resolve.proofs.StartLaws.{indexed, gates-read}
use Rattle.tablecheck.specs.Inner.TextVerdict.{names_verdict, lines_verdict, text_verdict}
use Rattle.tablecheck.proofs.CursorLaws.{table-verdict}
use Rattle.tableregions.specs.Inner.Settled.{Settled}
use Rattle.compiler.specs.Inner.Unrefused.{Unrefused}

-- each gate of lines that pass has a region
pub lines-regions : (head : List (List ℕ)) (ls : List (List ℕ)) → ((l : List ℕ) → l ∈ ls → line_refusal head (fields l) ≡ no_refusal)
    → length ls ≤ length (regions (map (line_gate head) ls))
unfolding line_gate
lines-regions head [] h = omega arith
lines-regions head (l ∷ ls) h =
    omega (
      arith,
      length-append (gate_regions (gate_of head (fields l))) (regions (map (line_gate head) ls)),
      region-count head (fields l),
      regions-some head (fields l) (h l (here refl)),
      lines-regions head ls (λ k m. h k (there m)),
    )

-- what the tests of 3 to 16 say of a text that passes them
abbrev Tests : List ℕ → Type 0
Tests text = (head_good text ≡ true) × (GoodLines text) × (Held (gates text))

-- a verdict that passes behind 1 to 16: none of these applies
module _ (text : List ℕ) (v : Verdict) (e : text_verdict text v ≡ passed) where
  passes : Tests text × Unrefused text
  unfolding text_verdict lines_verdict names_verdict
  passes =
      let t = gates text in
      let n = length t in
      let a = not-refused (ltb 32768 (length text)) 1 0 _ (omega arith) e in
      let b = not-refused (not (ends_in_lf text)) 2 0 _ (omega arith) a.1 in
      let c = not-refused (not (head_good text)) 3 1 _ (omega arith) b.1 in
      let d = unless-passed (refusal_at (dimensions text) (gate_lines text)) (line_good (dimensions text) (gate_lines text)) (length (gate_lines text)) _ c.1 in
      let f = unless-passed (always 13) (uncrowded t) n _ d.1 in
      let g = unless-passed (always 14) (unrepeated t) n _ f.1 in
      let h = unless-passed (always 15) (living t) n _ g.1 in
      let k = unless-passed (always 16) (uncircled t) n _ h.1 in
      let w : (x : Verdict) → text_verdict text x ≡ x = λ x. rw (a.0, b.0, c.0)
      (passed-unless (refusal_at (dimensions text) (gate_lines text)) (line_good (dimensions text) (gate_lines text)) (length (gate_lines text)) _ d.0
      ∙ passed-unless (always 13) (uncrowded t) n _ f.0 ∙ passed-unless (always 14) (unrepeated t) n _ g.0
      ∙ passed-unless (always 15) (living t) n _ h.0 ∙ passed-unless (always 16) (uncircled t) n _ k.0) in
      ((not-not (head_good text) c.0, d.0, record { not_13 = f.0; not_14 = g.0; not_15 = h.0; not_16 = k.0 }), λ x. sym (w x))

pub unrefused : (room : ℕ) (text : List ℕ) → table_verdict room text ≡ passed → Unrefused text
unrefused room text e = (passes text _ (sym (table-verdict room text) ∙ e)).1

module _ (text : List ℕ) (u : Unrefused text) where
  tests : Tests text
  tests = (passes text passed (sym (u passed))).0

  line-passes : (i : ℕ) → i < length (gate_lines text) → line_refusal (dimensions text) (fields (get_or (gate_lines text) i [])) ≡ no_refusal
  unfolding line_good refusal_at
  line-passes i h = eqb-true _ no_refusal (tests.1 i h)

  few : length (regions (gates text)) ≤ 64
  few = (rules_hold (gates text) tests.2).few

  pub gate_lines-few : length (gate_lines text) ≤ 64
  unfolding gates
  gate_lines-few =
      omega (
        arith,
        few,
        lines-regions (dimensions text) (gate_lines text)
            (λ l m. let i = index_of [] (gate_lines text) m in
            ap (λ (x : List ℕ). line_refusal (dimensions text) (fields x)) (sym i.2) ∙ line-passes i.0 i.1),
      )

  -- ---- what is read through the places of the lines is the table

  module _ {t starts : List ℕ} {n : ℕ} (a : t ≡ text) (b : starts ≡ starts_of text) (c : n ≡ gate_count text) where
    number_read : n ≡ length (gate_lines text)
    unfolding gate_lines
    number_read = omega (arith, length-drop 1 (lines text))

    read : gates_at t starts n ≡ gates text
    read = rw (a, b, number_read) (gates-read text (starts_of text) (indexed text) (omega (arith, gate_lines-few)))

    pub plan-read : plan_words (length (dimensions t)) (regions (gates_at t starts n)) ≡ plan_of text
    unfolding plan_of
    plan-read = rw (read, a)

    pub words-read : {words : ℕ} → words ≡ length (plan_words (length (dimensions t)) (regions (gates_at t starts n))) → words ≡ length (plan_of text)
    words-read w = w ∙ ap length plan-read

    pub regions-read : {total : ℕ} → total ≡ length (regions (gates_at t starts n)) → total ≡ length (regions (gates text))
    regions-read e = e ∙ ap (λ (g : List Gate). length (regions g)) read

    good-read : (i : ℕ) → i < n → line_refusal (dimensions t) (fields_at t starts i) ≡ no_refusal
    unfolding fields_at
    good-read i h =
        rw (a, b, indexed text i (omega (arith, number_read, gate_lines-few)) (omega (arith, number_read))) (line-passes i (omega (arith, number_read)))

    gates-number : length (gates text) ≡ n
    unfolding gates
    gates-number = length-map (gate_lines text) (line_gate (dimensions text)) ∙ sym number_read

    pub settled : Settled t starts n
    settled =
        let w = head-width text tests.0 in
        record {
          narrow = rw a w.1;
          few = rw read few;
          good = good-read;
          alive = λ i h. rw read (tests.2.not_15 i (rw gates-number h));
        }
