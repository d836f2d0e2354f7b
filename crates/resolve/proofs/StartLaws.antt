-- The places of lines give the lines, and the gates that are read are the table's.
use mathlib.Core.Path.{◌≡◌, refl, sym, ap, ◌∙◌}
use mathlib.Core.List.{List, [], ◌∷◌, map}
use Prim.Native.Nat.{ℕ, zero, suc, ◌+◌, ◌<◌, ◌≤◌, min}
use native.Mathlib.Omega.{arith}
use lib.ListN.{length, get_or, replicate, take, length-drop, length-take, length-map}
use lib.Seq.{get_or-drop, take_all, get_or-take, ext_get_or}
use Rattle.text.specs.Bounded.{tab}
use Rattle.text.specs.Lines.{lines}
use Rattle.text.specs.Inner.Places.{line_starts}
use Rattle.text.proofs.BoundedLaws.{length-tab, get_or-tab}
use Rattle.text.proofs.LinesLaws.{line_starts-length, line-at_start}
use Rattle.text.proofs.OutputLaws.{get_d_over}
use Rattle.gates.specs.Gate.{Gate}
use Rattle.tables.specs.Head.{dimensions, gate_lines, line_gate, gates}
use Rattle.resolve.specs.Inner.Reading.{starts_of, line_at, gates_at}

-- the places of the lines lead to the gate lines
abbrev pub Indexed : List ℕ → List ℕ → Type 0
Indexed text starts = (i : ℕ) → i < 65 → i < length (gate_lines text) → line_at text starts i ≡ get_or (gate_lines text) i []

-- the places of the lines are right up to the 65th gate line
pub indexed : (text : List ℕ) → Indexed text (starts_of text)
unfolding starts_of line_at gate_lines
indexed text i h l =
    let k : i + 1 < length (lines text) = omega (arith, length-drop 1 (lines text)) in
    let z : 1 + i ≡ i + 1 = omega arith in
    rw (get_d_over (line_starts text) (replicate 66 0) (i + 1) 0 (rw (line_starts-length text) k) (omega arith), line-at_start text (i + 1) k)
    (sym (get_or-drop 1 (lines text) i [] ∙ ap (λ (u : ℕ). get_or (lines text) u []) z))

pub places : (text : List ℕ) {starts : List ℕ} → starts ≡ starts_of text → Indexed text starts
places text e = rw e (indexed text)

-- ---- the gates that are read are the table's

module _ (text starts : List ℕ) (x : Indexed text starts) where
  lines-read : (n : ℕ) → n ≤ 65 → n ≤ length (gate_lines text) → tab (line_at text starts) n ≡ take n (gate_lines text)
  lines-read n h l =
      let k : length (take n (gate_lines text)) ≡ n = length-take n (gate_lines text) ∙ (let e : min n (length (gate_lines text)) ≡ n = omega arith in e) in
      ext_get_or [] (tab (line_at text starts) n) (take n (gate_lines text)) (length-tab (line_at text starts) n ∙ sym k)
      (λ i u. let b : i < n = rw (length-tab (line_at text starts) n) at u in
      get_or-tab (line_at text starts) [] n i b ∙ x i (omega arith) (omega arith) ∙ sym (get_or-take n (gate_lines text) i [] b))

  -- the first n of them
  pub gates-first : (n : ℕ) → n ≤ 65 → n ≤ length (gate_lines text) → gates_at text starts n ≡ take n (gates text)
  unfolding gates_at gates
  gates-first n h l = ap (map (line_gate (dimensions text))) (lines-read n h l) ∙ take-map n (gate_lines text)
    where
      take-map : (m : ℕ) (ls : List (List ℕ)) → map (line_gate (dimensions text)) (take m ls) ≡ take m (map (line_gate (dimensions text)) ls)
      take-map zero ls = refl
      take-map (suc m) [] = refl
      take-map (suc m) (a ∷ ls) = ap (λ (k : List Gate). line_gate (dimensions text) a ∷ k) (take-map m ls)

  pub gates-count : length (gates text) ≡ length (gate_lines text)
  unfolding gates
  gates-count = length-map (gate_lines text) (line_gate (dimensions text))

  pub gates-read : length (gate_lines text) ≤ 65 → gates_at text starts (length (gate_lines text)) ≡ gates text
  gates-read h =
      gates-first (length (gate_lines text)) h (omega arith) ∙ take_all (length (gate_lines text)) (gates text) (omega (arith, gates-count))
