-- How many regions the gates have that are read.
use mathlib.Core.Path.{◌≡◌, refl}
use mathlib.Core.Bool.{true, false}
use mathlib.Core.List.{List}
use Prim.Native.Nat.{ℕ, suc, ◌+◌, ◌-◌, ◌<◌, ◌≤◌, min}
use native.Mathlib.Omega.{arith}
use native.Mathlib.Numerals.{add-one}
use lib.ListN.{length}
use borrow.Author.Tests.{le-leb, lt-leb}
use Rattle.text.specs.Lines.{fields}
use Rattle.gates.specs.Inner.Regions.{region_count}
use Rattle.tables.specs.Refusals.{uncrowded}
use Rattle.resolve.specs.Inner.Reading.{line_at, fields_at, gates_at, regions_at}
use Rattle.resolve.proofs.ReadLaws.{gates-up-to, count-more, count_fits}

module _ (text starts : List ℕ) where
  pub total-none : 0 ≡ length (regions_at text starts 0)
  unfolding gates_at
  total-none = refl

  module _ (n i : ℕ) (h : i < n) {line : List ℕ} (l : line ≡ line_at text starts i) {m : ℕ} (c : m ≡ region_count (fields line)) {total : ℕ}
      (t : total ≡ length (regions_at text starts i)) where
    count-read : m ≡ region_count (fields_at text starts i)
    unfolding fields_at
    count-read = rw (← l) c

    pub total-next : total + m ≡ length (regions_at text starts (i + 1))
    total-next = rw (add-one, count-more text starts i, t, count-read)

    up_to : length (regions_at text starts (suc i)) ≡ total + m
    up_to = rw (count-more text starts i, t, count-read)

    pub crowded_here : total ≤ 64 → 64 - total < m → uncrowded (gates_at text starts n) i ≡ false
    unfolding uncrowded
    crowded_here b o = rw (gates-up-to text starts n i h, up_to) (lt-leb (total + m) 64 (omega arith))

    pub crowded_not : total ≤ 64 → m ≤ 64 - total → uncrowded (gates_at text starts n) i ≡ true
    unfolding uncrowded
    crowded_not b o = rw (gates-up-to text starts n i h, up_to) (le-leb (total + m) 64 (omega arith))

    pub total_full : 64 - total ≤ m → 64 ≡ min 64 (length (regions_at text starts n))
    total_full o = omega (arith, count-read, t, count_fits text starts n i h)
