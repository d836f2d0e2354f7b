-- A text with polygon lines redrawn is accepted or refused as the first is, with the same number at the same line. The text ends in LF: one that does not
-- is refused by 2, and `reordered`, which ends each line, would mend it.
use mathlib.Core.Path.{◌≡◌, refl, ap, ◌∙◌}
use mathlib.Core.Bool.{Bool, true, cond}
use mathlib.Core.List.Memᴰ.{head as here}
use mathlib.Core.List.Memᴰ.{tail as there}
use mathlib.Core.List.{List, [], map}
use Prim.Native.Nat.{ℕ, zero, suc, ◌+◌, ◌<◌}
use native.Mathlib.Omega.{arith}
use native.Mathlib.Decide.{dec_lt}
use lib.Dec.{ltb}
use borrow.Author.Tests.{lt-ltb, le-ltb}
use lib.ListN.{length, get_or}
use Rattle.plans.specs.Indices.{first_bad}
use Rattle.plans.specs.Refusals.{Verdict, refused}
use Rattle.plans.proofs.IndexLaws.{first-before}
use Rattle.text.specs.Bytes.{every}
use Rattle.text.specs.Inner.Counts.{without}
use Rattle.text.specs.Lines.{lines, fields, ends_in_lf}
use Rattle.text.proofs.TestLaws.{and_left, and_right}
use Rattle.gates.specs.Rules.{no_refusal}
use Rattle.gates.specs.Refusal.{line_refusal}
use Rattle.gates.specs.Gate.{Name, Gate}
use Rattle.tables.specs.Table.{◌∈◌, sum_of, no_gate, nth_gate, up_to}
use Rattle.tables.specs.Head.{dimensions, gate_lines, line_gate, gates, reordered}
use Rattle.tables.specs.Refusals.{unless_line, refusal_at, line_good, uncrowded, unrepeated, is_region, living, uncircled, gates_verdict, table_verdict}
use Rattle.tables.proofs.Acceptance.{line-good}
use Rattle.tables.proofs.TextLaws.{unlines-ends}
use Rattle.tables.proofs.RewrittenLaws.{line_bytes, lines-clean, same-dimensions, same_good, same_length, rewritten_lines}
use Rattle.redrawntables.specs.Lines.{LineRedrawn, kept, drawn, LinesRedrawn, Along, done, more}
use Rattle.redrawntables.proofs.FieldLaws.{fields-line, bytes-line, without-line}
use Rattle.redrawntables.proofs.AlikeLaws.{everywhere, GateAlike, gate_itself, along-length, along-at, along-take, regions-alike, given-alike, itself-alike}
use Rattle.redrawntables.proofs.LineLaws.{line-refusal-redrawn, line-alike}
use Rattle.redrawntables.proofs.CompiledLaws.{number_same, plan-length}

-- ---- lines

bytes_same : {l m : List ℕ} → LineRedrawn l m → line_bytes m ≡ line_bytes l
bytes_same kept = refl
bytes_same (drawn {l = l} k back e) = bytes-line k back l

line_clean : {l m : List ℕ} → LineRedrawn l m → without 10 l ≡ true → without 10 m ≡ true
line_clean kept h = h
line_clean (drawn {l = l} k back e) h = without-line k back l h

refusal-same : (head : List Name) {l m : List ℕ} → LineRedrawn l m → line_refusal head (fields m) ≡ line_refusal head (fields l)
refusal-same head kept = refl
refusal-same head (drawn {l = l} k back e) = ap (line_refusal head) (fields-line k back l) ∙ line-refusal-redrawn head k back (fields l) e

gate_alike : (head : List Name) {l m : List ℕ} → LineRedrawn l m → line_refusal head (fields l) ≡ no_refusal → GateAlike (line_gate head l) (line_gate head m)
unfolding line_gate
gate_alike head {l} kept h = gate_itself (line_gate head l)
gate_alike head (drawn {l = l} k back e) h = rw (fields-line k back l) (line-alike head k back (fields l) e h)

-- ---- all gate lines

pub sizes-same : {ls ms : List (List ℕ)} → LinesRedrawn ls ms → sum_of line_bytes ms ≡ sum_of line_bytes ls
sizes-same done = refl
sizes-same (more r rs) = let h = bytes_same r in let t = sizes-same rs in omega arith

pub all-clean : {ls ms : List (List ℕ)} → LinesRedrawn ls ms → every (without 10) ls ≡ true → every (without 10) ms ≡ true
all-clean done h = refl
all-clean (more {x = l} {l = ls} r rs) h =
    rw (line_clean r (and_left (without 10 l) (every (without 10) ls) h), all-clean rs (and_right (without 10 l) (every (without 10) ls) h))

refusals_same : (head : List Name) {ls ms : List (List ℕ)} → LinesRedrawn ls ms → (i : ℕ) → refusal_at head ms i ≡ refusal_at head ls i
unfolding refusal_at
refusals_same head done i = refl
refusals_same head (more r rs) zero = refusal-same head r
refusals_same head (more r rs) (suc i) = refusals_same head rs i

goods_same : (head : List Name) {ls ms : List (List ℕ)} → LinesRedrawn ls ms → (i : ℕ) → line_good head ms i ≡ line_good head ls i
unfolding line_good
goods_same head rs i = rw (refusals_same head rs i)

gates-alike : (head : List Name) {ls ms : List (List ℕ)} → LinesRedrawn ls ms → ((l : List ℕ) → l ∈ ls → line_refusal head (fields l) ≡ no_refusal)
    → Along GateAlike (map (line_gate head) ls) (map (line_gate head) ms)
gates-alike head done good = done
gates-alike head (more r rs) good = more (gate_alike head r (good _ (here refl))) (gates-alike head rs (λ l i. good l (there i)))

-- ---- refusals 13 to 18

module _ {t u : List Gate} (a : Along GateAlike t u) where
  uncrowded-same : uncrowded u ≡ uncrowded t
  unfolding uncrowded up_to
  uncrowded-same = everywhere (λ i. rw (along-length (regions-alike (along-take (suc i) a))))

  unrepeated-same : unrepeated u ≡ unrepeated t
  unfolding unrepeated up_to
  unrepeated-same = everywhere (λ i. rw (given-alike (along-take (suc i) a)))

  region-same : is_region u ≡ is_region t
  unfolding is_region
  region-same = everywhere (λ n. rw (number_same (regions-alike a) n, along-length (regions-alike a)))

  living-same : living u ≡ living t
  unfolding living nth_gate
  living-same = everywhere (λ i. rw ((along-at a no_gate (gate_itself no_gate) i).refers, region-same))

  uncircled-same : uncircled u ≡ uncircled t
  unfolding uncircled
  uncircled-same = everywhere (λ i. rw (itself-alike a i))

  gates-verdict-same : (slice n : ℕ) → gates_verdict slice n u ≡ gates_verdict slice n t
  unfolding gates_verdict
  gates-verdict-same slice n =
      rw (uncrowded-same, unrepeated-same, living-same, uncircled-same, along-length a, plan-length (regions-alike a) n)

-- ---- the whole text

unless-same : (number other : ℕ → ℕ) (good fine : ℕ → Bool) (k : ℕ) (v w : Verdict) → other ≡ number → fine ≡ good
    → (((i : ℕ) → i < k → good i ≡ true) → w ≡ v) → unless_line other fine k w ≡ unless_line number good k v
unfolding unless_line
unless-same number other good fine k v w en eg later = rw (en, eg) (go (dec_lt (first_bad good 0 k) k))
  where
    go : Dec (first_bad good 0 k < k)
        → cond (ltb (first_bad good 0 k) k) (refused (number (first_bad good 0 k)) (first_bad good 0 k + 2)) w
        ≡ cond (ltb (first_bad good 0 k) k) (refused (number (first_bad good 0 k)) (first_bad good 0 k + 2)) v
    go (yes l) = rw (lt-ltb (first_bad good 0 k) k l)
    go (no l) = rw (le-ltb (first_bad good 0 k) k (omega arith)) (later (λ i h. first-before good 0 k i (omega arith) (omega arith)))

module _ (text : List ℕ) (ends : ends_in_lf text ≡ true) (ks : List (List ℕ)) (r : LinesRedrawn (gate_lines text) ks) where
  abbrev again : List ℕ
  again = reordered text ks

  clean : every (without 10) ks ≡ true
  clean = all-clean r (and_right (without 10 (get_or (lines text) 0 [])) (every (without 10) (gate_lines text)) (lines-clean text ends))

  pub dimensions-redrawn : dimensions again ≡ dimensions text
  dimensions-redrawn = same-dimensions text ends ks clean

  pub gate_lines_lem : gate_lines again ≡ ks
  gate_lines_lem = rewritten_lines text ends ks clean

  -- the gates, where every line is good
  pub gates-redrawn : ((l : List ℕ) → l ∈ gate_lines text → line_refusal (dimensions text) (fields l) ≡ no_refusal) → Along GateAlike (gates text) (gates again)
  unfolding gates
  gates-redrawn good = rw (dimensions-redrawn, gate_lines_lem) (gates-alike (dimensions text) r good)

  lines-verdict : (slice : ℕ) →
      unless_line (refusal_at (dimensions text) ks) (line_good (dimensions text) ks) (length ks) (gates_verdict slice (length (dimensions text)) (gates again))
      ≡ unless_line (refusal_at (dimensions text) (gate_lines text)) (line_good (dimensions text) (gate_lines text)) (length (gate_lines text))
      (gates_verdict slice (length (dimensions text)) (gates text))
  lines-verdict slice =
      let head = dimensions text in
      rw (along-length r)
      (unless-same (refusal_at head (gate_lines text)) (refusal_at head ks) (line_good head (gate_lines text)) (line_good head ks) (length (gate_lines text))
      (gates_verdict slice (length head) (gates text)) (gates_verdict slice (length head) (gates again))
      (everywhere (refusals_same head r)) (everywhere (goods_same head r))
      (λ good. gates-verdict-same (gates-redrawn (line-good slice text good)) slice (length head)))

  ends-again : ends_in_lf again ≡ true
  unfolding reordered
  ends-again = unlines-ends (get_or (lines text) 0 []) ks

  -- accepted or refused as the first, the number and the line included
  pub verdict-redrawn : (slice : ℕ) → table_verdict slice again ≡ table_verdict slice text
  unfolding table_verdict
  verdict-redrawn slice =
      rw
      (same_length text ends ks clean (sizes-same r), same_good text ends ks clean, dimensions-redrawn, gate_lines_lem, ends-again, ends, lines-verdict slice)
