-- The count of a region's parent in an accepted table, by the parent's number.
use mathlib.Core.Path.{◌≡◌, refl}
use mathlib.Core.Bool.{cond}
use mathlib.Core.Option.{Option, none, some}
use mathlib.Core.List.Memᴰ
use mathlib.Core.List.Memᴰ.{head as here}
use mathlib.Core.List.{List}
use Prim.Native.Nat.{ℕ, ◌<◌, min}
use native.Mathlib.Omega.{arith}
use borrow.Author.Tests.{lt-ltb}
use lib.Dec.{ltb}
use lib.ListN.{length, get_or}
use Rattle.counter.specs.declared.Tally.{Tally}
use Rattle.gates.specs.Gate.{Name, regions}
use Rattle.tables.specs.Table.{◌∈◌, nth_region, names, number_of, parent_names, operand_names}
use Rattle.tables.specs.Head.{gates}
use Rattle.tables.specs.Demand.{count_of_parent}
use Rattle.tables.proofs.NameLaws.{region_in_lem, in_number}
use Rattle.tables.proofs.GateLaws.{orderly}
use Rattle.tables.proofs.Acceptance.{Accepted}
use Rattle.resolve.specs.Inner.Reading.{starts_of, gate_count, regions_at}
use Rattle.stepwriter.specs.Inner.Parents.{number_of_parent}
use Rattle.report.proofs.AcceptedLaws.{gates_are}

module _ (slice : ℕ) (text : List ℕ) (a : Accepted slice text) where
  -- a parent that is named is a region, whose number is below 64
  count-of-parent : (t : Tally) (parent : Option Name) → ((x : Name) → x ∈ parent_names parent → x ∈ names (regions (gates text)))
      → cond (ltb (number_of_parent (regions (gates text)) parent) 64) (get_or t.counts (number_of_parent (regions (gates text)) parent) 0) t.taken
      ≡ count_of_parent text t parent
  count-of-parent t none there = refl
  count-of-parent t (some x) there =
      let number = number_of (regions (gates text)) x in
      let few = a.rules.few in
      let below : number < 64 = omega (arith, few, in_number (regions (gates text)) x (there x (here refl))) in
      let same : min 64 number ≡ number = omega arith in
      rw (same, lt-ltb number 64 below)

  pub parent-count : (t : Tally) (r : ℕ) → r < length (regions (gates text))
      → cond (ltb (number_of_parent (regions (gates text)) (nth_region (regions (gates text)) r).parent) 64)
      (get_or t.counts (number_of_parent (regions (gates text)) (nth_region (regions (gates text)) r).parent) 0) t.taken
      ≡ count_of_parent text t (nth_region (regions (gates text)) r).parent
  parent-count t r h =
      let region = nth_region (regions (gates text)) r in
      count-of-parent t region.parent
      (λ x m. (orderly (gates text) a.rules).live region (region_in_lem (regions (gates text)) r h) x (Memᴰ.append_left (operand_names region.shape) m))

  -- the same by the number that `parent_at` answers of a table that is read of the text
  pub parent-count-read : {t starts : List ℕ} {n : ℕ} → t ≡ text → starts ≡ starts_of text → n ≡ gate_count text → (tally : Tally) (r : ℕ)
      → r < length (regions (gates text))
      → {number : ℕ} → number ≡ number_of_parent (regions_at t starts n) (nth_region (regions_at t starts n) r).parent
      → cond (ltb number 64) (get_or tally.counts number 0) tally.taken ≡ count_of_parent text tally (nth_region (regions (gates text)) r).parent
  parent-count-read e f g tally r h number = rw (number, gates_are slice text a e f g) (parent-count tally r h)
