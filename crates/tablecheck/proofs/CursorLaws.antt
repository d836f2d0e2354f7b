-- A cursor over the gate lines, the answers one after the other, and the verdict of a table.
use Rattle.std.proofs.Common.{Result, Ok, Err}
use Rattle.gates.specs.LineRefusals.{line_refusal_number, earned_number}
use Rattle.gates.specs.declared.LineRefusal.{LineRefusal}
use Rattle.gates.specs.declared.LineRefusal.TheVariants.{UnknownKind, WrongShape, BadName, BadNumber, OffScale, BadDimension, CrossedBounds, BadMatrix, NoTiling}
use mathlib.Core.Path.{◌≡◌, refl, sym, ap, ◌∙◌}
use mathlib.Core.Bool.{Bool, true, false}
use mathlib.Core.List.{List, [], ◌∷◌}
use Prim.Native.Nat.{ℕ, ◌+◌, ◌-◌, ◌<◌, ◌≤◌}
use native.Mathlib.Omega.{arith}
use native.Mathlib.Decide.{dec_lt}
use native.Mathlib.Nat.{sub-zero}
use lib.ListN.{length, get_or, drop, length-drop}
use lib.Seq.{get_or-drop, drop-drop}
use borrow.Author.Tests.{lt-ltb, le-ltb, eq-eqb, ne_eqb}
use Rattle.plans.specs.Indices.{first_bad}
use Rattle.plans.specs.Refusals.{Verdict, refused}
use Rattle.plans.proofs.IndexLaws.{first_more, first_stop, first_end, first-before}
use Rattle.text.specs.Lines.{lines, fields, ends_in_lf}
use Rattle.text.specs.Inner.Places.{line_from, find_from}
use Rattle.text.proofs.LinesLaws.{lines_cut, lines_end, find_from_lem, find_inside}
use Rattle.gates.specs.Refusal.{line_refusal}
use Rattle.tables.specs.Head.{head_fields, dimensions, head_good, gate_lines, gates}
use Rattle.gates.specs.Gate.{regions}
use Rattle.tables.specs.Steps.{plan_words}
use Rattle.tables.specs.Refusals.{unless_line, refusal_at, line_good, size_verdict, gates_verdict, table_verdict}
use Rattle.tablecheck.specs.Inner.Names.{GoodLines}
use Rattle.tablecheck.specs.Inner.TextVerdict.{names_verdict, lines_verdict, text_verdict}

-- ---- what a line earns

refusal-listed : (x : LineRefusal) → line_refusal_number x ≡ 99 → ⊥
refusal-listed UnknownKind e = omega arith
refusal-listed WrongShape e = omega arith
refusal-listed BadName e = omega arith
refusal-listed BadNumber e = omega arith
refusal-listed OffScale e = omega arith
refusal-listed BadDimension e = omega arith
refusal-listed CrossedBounds e = omega arith
refusal-listed BadMatrix e = omega arith
refusal-listed NoTiling e = omega arith

none_earned : (r : Result Unit LineRefusal) → ((x : LineRefusal) → r ≡ Err x → ⊥) → earned_number r ≡ 99
none_earned (Ok u) h = refl
none_earned (Err x) h = absurd (h x refl)

-- the first gate line from i on that 4 to 12 refuse, or their number
abbrev first_from : List ℕ → ℕ → ℕ
first_from text i = first_bad (line_good (dimensions text) (gate_lines text)) i (length (gate_lines text) - i)

-- the cursor stands at gate line i, and none before it is refused
pub record Cursor (text : List ℕ) (at i : ℕ) : Type 0 where
  pub rest : lines (drop at text) ≡ drop i (gate_lines text)
  pub behind : i + 1 ≤ at
  pub inside : at ≤ length text + 1
  pub first : first_bad (line_good (dimensions text) (gate_lines text)) 0 (length (gate_lines text)) ≡ first_from text i

module _ (text : List ℕ) where
  after-head : {e : ℕ} → e ≡ find_from text 0 10 → lines (drop (e + 1) text) ≡ gate_lines text
  unfolding gate_lines
  after-head {e} f = go (dec_lt 0 (length text))
    where
      go : Dec (0 < length text) → lines (drop (e + 1) text) ≡ drop 1 (lines text)
      go (yes h) = rw f (sym (ap (drop 1) (lines_cut text 0 h)))
      go (no h) = lines_end text (e + 1) (omega arith) ∙ sym (ap (drop 1) (lines_end text 0 (omega arith)))

  pub cursor_first : {e : ℕ} → e ≡ find_from text 0 10 → Cursor text (e + 1) 0
  cursor_first {e} f =
      record {
        rest = after-head f;
        behind = omega arith;
        inside = omega (arith, f, find_inside text 0 10 (omega arith));
        first = rw sub-zero;
      }

  module _ {at i : ℕ} (c : Cursor text at i) where
    pub cursor_end : length text ≤ at → length (gate_lines text) ≤ i
    cursor_end h =
        let z : length (drop i (gate_lines text)) ≡ 0 = ap length (sym c.rest ∙ lines_end text at h) in
        omega (arith, z, length-drop i (gate_lines text))

    -- at the end no line is refused
    module _ (h : length text ≤ at) where
      none_first : first_bad (line_good (dimensions text) (gate_lines text)) 0 (length (gate_lines text)) ≡ i
      none_first = c.first ∙ first_end (line_good (dimensions text) (gate_lines text)) (length (gate_lines text)) i (cursor_end h)

      pub lines_good : GoodLines text
      lines_good j l =
          first-before (line_good (dimensions text) (gate_lines text)) 0 (length (gate_lines text)) j (omega arith)
          (rw none_first (omega (arith, cursor_end h)))

      pub lines-passed : {r : Verdict} (v : Verdict) → r ≡ names_verdict (gates text) v → r ≡ lines_verdict text v
      unfolding lines_verdict unless_line
      lines-passed v q = q ∙ rw (none_first, le-ltb i (length (gate_lines text)) (cursor_end h))

    module _ (h : at < length text) where
      cut : drop i (gate_lines text) ≡ line_from text at ∷ lines (drop (find_from text at 10 + 1) text)
      cut = sym c.rest ∙ lines_cut text at h

      pub cursor_inside : i < length (gate_lines text)
      cursor_inside = omega (arith, ap length cut, length-drop i (gate_lines text))

      line-here : get_or (gate_lines text) i [] ≡ line_from text at
      line-here =
          let z : i + 0 ≡ i = omega arith in
          sym (sym (ap (λ (ls : List (List ℕ)). get_or ls 0 []) cut) ∙ get_or-drop i (gate_lines text) 0 [] ∙ rw z)

      module _ {head line : List ℕ} (a : head ≡ get_or (lines text) 0 []) (l : line ≡ line_from text at) (r : Result Unit LineRefusal)
          (n : earned_number r ≡ line_refusal (drop 1 (fields head)) (fields line)) where
        refusal-here : earned_number r ≡ refusal_at (dimensions text) (gate_lines text) i
        unfolding refusal_at dimensions head_fields
        refusal-here = n ∙ rw (line-here, a, l)

        bad-here : (earned_number r ≡ 99 → ⊥) → first_bad (line_good (dimensions text) (gate_lines text)) 0 (length (gate_lines text)) ≡ i
        unfolding line_good
        bad-here ne =
            c.first ∙ first_stop (line_good (dimensions text) (gate_lines text)) (length (gate_lines text)) i cursor_inside
            (rw (← refusal-here) (ne_eqb (earned_number r) 99 ne))

        pub line_refused : {x : LineRefusal} → r ≡ Err x → (v : Verdict) → refused (line_refusal_number x) (i + 2) ≡ lines_verdict text v
        unfolding lines_verdict unless_line
        line_refused {x} e v =
            let k : line_refusal_number x ≡ earned_number r = ap earned_number (sym e) in
            rw (bad-here (λ z. refusal-listed x (k ∙ z)), lt-ltb i (length (gate_lines text)) cursor_inside)
            (ap (λ (m : ℕ). refused m (i + 2)) (k ∙ refusal-here))

        pub cursor_next : ((x : LineRefusal) → r ≡ Err x → ⊥) → {e : ℕ} → e ≡ find_from text at 10 → Cursor text (e + 1) (i + 1)
        unfolding line_good
        cursor_next g {e} f =
            record {
              rest = rw f (sym (ap (drop 1) cut)) ∙ drop-drop 1 i (gate_lines text);
              behind = omega (arith, f, find_from_lem text at 10, c.behind);
              inside = omega (arith, f, find_inside text at 10 (omega arith));
              first = c.first ∙ first_more (line_good (dimensions text) (gate_lines text)) (length (gate_lines text)) i cursor_inside
                  (rw (← refusal-here) (eq-eqb (earned_number r) 99 (none_earned r g)));
            }

  -- ---- the answers, one after the other

  pub long-text : 32768 < length text → (v : Verdict) → refused 1 0 ≡ text_verdict text v
  unfolding text_verdict
  long-text h v = rw (lt-ltb 32768 (length text) h)

  module _ (s : length text ≤ 32768) {b : Bool} (e : b ≡ ends_in_lf text) where
    pub unended_text : b ≡ false → (v : Verdict) → refused 2 0 ≡ text_verdict text v
    unfolding text_verdict
    unended_text h v = rw (le-ltb 32768 (length text) s, ← e, h)

    module _ (t : b ≡ true) {g : Bool} (d : g ≡ head_good text) where
      pub bad-head : g ≡ false → (v : Verdict) → refused 3 1 ≡ text_verdict text v
      unfolding text_verdict
      bad-head h v = rw (le-ltb 32768 (length text) s, ← e, t, ← d, h)

      pub lines_next : g ≡ true → {r : Verdict} (v : Verdict) → r ≡ lines_verdict text v → r ≡ text_verdict text v
      unfolding text_verdict
      lines_next u v q = q ∙ rw (le-ltb 32768 (length text) s, ← e, t, ← d, u)

-- the table's verdict is that of its text, then 17 and 18
pub table-verdict : (slice : ℕ) (text : List ℕ)
    → table_verdict slice text ≡ text_verdict text (size_verdict slice (length (plan_words (length (dimensions text)) (regions (gates text)))))
unfolding table_verdict text_verdict lines_verdict gates_verdict names_verdict
table-verdict slice text = refl
