-- The parent of a region by the region's number: that of the gate line where the region stands.
use mathlib.Core.Path.{◌≡◌, refl, sym, ap, ◌∙◌}
use mathlib.Core.Bool.{Bool, true, false, cond}
use mathlib.Core.Option.{none, some}
use mathlib.Core.List.{List}
use Prim.Native.Nat.{ℕ, ◌≤◌, ◌<◌, min}
use Rattle.text.specs.Lines.{fields}
use Rattle.gates.specs.Gate.{Region}
use Rattle.gates.specs.Kinds.{field_at, is_none}
use Rattle.gates.specs.Meaning.{parent_of}
use Rattle.tables.specs.Table.{nth_region, number_of}
use Rattle.resolve.specs.Inner.Reading.{line_at, fields_at, regions_at}
use Rattle.resolve.proofs.ReadLaws.{region-read}
use Rattle.writer.specs.Inner.Words.{parent_number}
use Rattle.tableregions.specs.Inner.Located.{located_at}
use Rattle.tableregions.specs.declared.Located.{Located}
use Rattle.tableregions.proofs.PlaceLaws.{quadrant-inside, place_is, no_region_lem}
use Rattle.stepwriter.specs.Inner.Parents.{number_of_parent}

-- the number that a line's parent has is that of the parent which the line names
pub parent-of-line : (rs : List Region) (fs : List (List ℕ)) → parent_number rs fs ≡ number_of_parent rs (parent_of (field_at fs 2))
unfolding parent_number parent_of
parent-of-line rs fs = go (is_none (field_at fs 2))
  where
    go : (b : Bool) → cond b 64 (min 64 (number_of rs (field_at fs 2))) ≡ number_of_parent rs (cond b none (some (field_at fs 2)))
    go true = refl
    go false = refl

module _ (text starts : List ℕ) (n r : ℕ) {x : Located} (e : x ≡ located_at text starts n r) where
  -- a region has the parent of the line where it stands
  located_parent : x.gate < n → (nth_region (regions_at text starts n) r).parent ≡ parent_of (field_at (fields_at text starts x.gate) 2)
  located_parent h =
      ap (λ (k : ℕ). (nth_region (regions_at text starts n) k).parent) (place_is text starts n r e)
      ∙ ap (λ (y : Region). y.parent) (region-read text starts n x.gate h x.quadrant (quadrant-inside text starts n r e h))

  pub parent_located : x.gate < n → {line : List ℕ} → line ≡ line_at text starts x.gate
      → {number : ℕ} → number ≡ parent_number (regions_at text starts n) (fields line)
      → number ≡ number_of_parent (regions_at text starts n) (nth_region (regions_at text starts n) r).parent
  unfolding fields_at
  parent_located h l p =
      p ∙ rw l (parent-of-line (regions_at text starts n) (fields_at text starts x.gate))
      ∙ ap (number_of_parent (regions_at text starts n)) (sym (located_parent h))

  -- where there is no such region
  pub no_parent : n ≤ x.gate → 64 ≡ number_of_parent (regions_at text starts n) (nth_region (regions_at text starts n) r).parent
  no_parent h = rw (no_region_lem text starts n r e h)
