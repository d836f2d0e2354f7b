-- Refusals 1 to 18 of a table, in their order and with their places.
use Rattle.std.specs.Prelude.{Bool, not, cond, List, [], ℕ, ◌+◌, length, get_or, ltb, leb, eqb}
use Rattle.plans.specs.Indices.{first_bad}
use Rattle.plans.specs.Refusals.{Verdict, passed, refused}
use Rattle.text.specs.Bytes.{every}
use Rattle.text.specs.Lines.{fields, ends_in_lf}
use Rattle.gates.specs.Rules.{no_refusal}
use Rattle.gates.specs.Refusal.{line_refusal}
use Rattle.gates.specs.Gate.{Name, Gate, regions}
use Rattle.tables.specs.Table.{nth_gate, up_to, given, different, gate_references, number_of}
use Rattle.tables.specs.Head.{dimensions, head_good, gate_lines, gates}
use Rattle.tables.specs.Reaching.{reaches_itself}
use Rattle.tables.specs.Steps.{plan_words}

-- what follows, unless one of the k gate lines fails a test: then a refusal at the first such line; gate lines begin at line 2
unfoldable pub unless_line : (ℕ → ℕ) → (ℕ → Bool) → ℕ → Verdict → Verdict
unless_line number good k v = cond (ltb (first_bad good 0 k) k) (refused (number (first_bad good 0 k)) (first_bad good 0 k + 2)) v

-- ---- 4 to 12: gate line i

unfoldable pub refusal_at : List Name → List (List ℕ) → ℕ → ℕ
refusal_at head ls i = line_refusal head (fields (get_or ls i []))

unfoldable pub line_good : List Name → List (List ℕ) → ℕ → Bool
line_good head ls i = eqb (refusal_at head ls i) no_refusal

-- ---- 13 to 16: gate i

-- 13 crowded, "over 64 regions": the lines up to this one make at most 64
unfoldable pub uncrowded : List Gate → ℕ → Bool
uncrowded t i = leb (length (regions (up_to t i))) 64

-- 14 twin name, "gate or quadrant name used before": the names given up to this line are different
unfoldable pub unrepeated : List Gate → ℕ → Bool
unrepeated t i = different (given (up_to t i))

-- 15 dead reference, "names no region (a quadrant gate is none)": each reference names a region
unfoldable pub is_region : List Gate → Name → Bool
is_region t n = ltb (number_of (regions t) n) (length (regions t))

unfoldable pub living : List Gate → ℕ → Bool
living t i = every (is_region t) (gate_references (nth_gate t i))

-- 16 circle, "a gate reaches itself": it does not
unfoldable pub uncircled : List Gate → ℕ → Bool
uncircled t i = not (reaches_itself t i)

-- ---- in their order

abbrev pub always : ℕ → ℕ → ℕ
always k i = k

-- 17 and 18, for a slice of that many words
unfoldable pub size_verdict : ℕ → ℕ → Verdict
size_verdict slice words = cond (ltb 4096 words) (refused 17 0) (cond (ltb slice words) (refused 18 0) passed)

-- 13 to 18, for gates over n dimensions
unfoldable pub gates_verdict : ℕ → ℕ → List Gate → Verdict
gates_verdict slice n t =
    unless_line (always 13) (uncrowded t) (length t)
    (unless_line (always 14) (unrepeated t) (length t)
    (unless_line (always 15) (living t) (length t)
    (unless_line (always 16) (uncircled t) (length t)
    (size_verdict slice (length (plan_words n (regions t)))))))

-- 1 to 18
unfoldable pub table_verdict : ℕ → List ℕ → Verdict
table_verdict slice text =
    cond (ltb 32768 (length text)) (refused 1 0)
    (cond (not (ends_in_lf text)) (refused 2 0)
    (cond (not (head_good text)) (refused 3 1)
    (unless_line (refusal_at (dimensions text) (gate_lines text)) (line_good (dimensions text) (gate_lines text)) (length (gate_lines text))
    (gates_verdict slice (length (dimensions text)) (gates text)))))
