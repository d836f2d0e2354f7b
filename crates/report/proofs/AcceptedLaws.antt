-- The gates of an accepted table are read through the places of its lines, and its regions have short names.
use mathlib.Core.Path.{◌≡◌, sym, ap, ◌∙◌}
use mathlib.Core.List.{List}
use Prim.Native.Nat.{ℕ, ◌<◌, ◌≤◌}
use native.Mathlib.Omega.{arith}
use lib.ListN.{length, get_or, length-drop}
use Rattle.text.specs.Lines.{fields, lines}
use Rattle.text.proofs.NamesLaws.{name-length}
use Rattle.gates.specs.Gate.{Region, gate_regions, regions}
use Rattle.gates.specs.Meaning.{gate_of}
use Rattle.gates.specs.Inner.Regions.{region_count, region_name}
use Rattle.gates.proofs.GateLaws.{region-count, region-at, region-name}
use Rattle.tables.specs.Table.{◌∈◌, no_region, nth_region}
use Rattle.tables.specs.Head.{dimensions, gate_lines, line_gate, gates}
use Rattle.tables.proofs.ListLaws.{map-from, at_in, index_of}
use Rattle.tables.proofs.GateLaws.{gate_of-region}
use Rattle.tables.proofs.Acceptance.{Accepted}
use Rattle.resolve.specs.Inner.Reading.{starts_of, gate_count, gates_at}
use Rattle.resolve.proofs.StartLaws.{indexed, gates-read}
use Rattle.compiler.proofs.SettledLaws.{lines-regions}

-- ---- the regions of an accepted table

module _ (slice : ℕ) (text : List ℕ) (a : Accepted slice text) where
  region-short : (r : Region) → r ∈ regions (gates text) → length r.name ≤ 16
  unfolding gates line_gate
  region-short r m =
      let g = gate_of-region (gates text) r m in
      let l = map-from (line_gate (dimensions text)) (gate_lines text) g.1 in
      let fs = fields l.0 in
      let k : r ∈ gate_regions (gate_of (dimensions text) fs) = rw l.2 at g.2 in
      let i = index_of no_region (gate_regions (gate_of (dimensions text) fs)) k in
      let q : i.0 < region_count fs = rw (region-count (dimensions text) fs) at i.1 in
      let e : r.name ≡ region_name fs i.0 = ap (λ (x : Region). x.name) (sym i.2 ∙ region-at (dimensions text) fs i.0 no_region q) in
      rw e (name-length (region_name fs i.0) (region-name (dimensions text) fs (a.lines_good l.0 l.1) i.0 q)).1

  pub names-short : (k : ℕ) → k < length (regions (gates text)) → length (nth_region (regions (gates text)) k).name ≤ 16
  unfolding nth_region
  names-short k h = region-short (get_or (regions (gates text)) k no_region) (at_in no_region (regions (gates text)) k h)

  -- ---- its gates, read through the places of its lines

  gates-few : length (gate_lines text) ≤ length (regions (gates text))
  unfolding gates
  gates-few = lines-regions (dimensions text) (gate_lines text) a.lines_good

  gates-number : length (gate_lines text) ≡ gate_count text
  unfolding gate_lines
  gates-number = length-drop 1 (lines text)

  -- of a table that is read of the text
  pub gates_are : {t starts : List ℕ} {n : ℕ} → t ≡ text → starts ≡ starts_of text → n ≡ gate_count text → gates_at t starts n ≡ gates text
  gates_are e f g =
      let z : gate_count text ≡ length (gate_lines text) = sym gates-number in
      rw (e, f, g, z) (gates-read text (starts_of text) (indexed text) (omega (arith, gates-few, a.rules.few)))
