-- Refusals 1 to 16 of a text by number and place.
use Rattle.std.specs.Prelude.{not, cond, List, ℕ, ltb, length, Result, Ok, Err}
use Rattle.plans.specs.Refusals.{Verdict, refused}
use Rattle.text.specs.Lines.{ends_in_lf}
use Rattle.gates.specs.Gate.{Gate}
use Rattle.tables.specs.Head.{dimensions, head_good, gate_lines, gates}
use Rattle.tables.specs.Refusals.{unless_line, refusal_at, line_good, always, uncrowded, unrepeated, living, uncircled}
use Rattle.tablecheck.specs.Answers.{table_refusal}
use Rattle.tablecheck.specs.declared.Refusal.{Refusal}

-- 01's number and place for each refusal; v where none of 1 to 16 applies
abbrev pub answered : Result Unit Refusal → Verdict → Verdict
answered (Err r) v = table_refusal r
answered (Ok _) v = v

-- 13 to 16 in their order, then v
unfoldable pub names_verdict : List Gate → Verdict → Verdict
names_verdict t v =
    unless_line (always 13) (uncrowded t) (length t)
    (unless_line (always 14) (unrepeated t) (length t)
    (unless_line (always 15) (living t) (length t)
    (unless_line (always 16) (uncircled t) (length t) v)))

-- 4 to 16 in their order, then v
unfoldable pub lines_verdict : List ℕ → Verdict → Verdict
lines_verdict text v =
    unless_line (refusal_at (dimensions text) (gate_lines text)) (line_good (dimensions text) (gate_lines text)) (length (gate_lines text))
    (names_verdict (gates text) v)

-- 1 to 16 in their order, then v
unfoldable pub text_verdict : List ℕ → Verdict → Verdict
text_verdict text v =
    cond (ltb 32768 (length text)) (refused 1 0)
    (cond (not (ends_in_lf text)) (refused 2 0)
    (cond (not (head_good text)) (refused 3 1)
    (lines_verdict text v)))
