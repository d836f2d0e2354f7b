-- Each reference of a gate names a region exactly where each of its line's fields passes a test.
use Rattle.std.proofs.Common.{◌≡◌, refl, sym, ap, ◌∙◌, ℕ, ◌+◌, ◌-◌, ◌<◌, ◌≤◌, min, length, Bool, true, false, not, ◌||◌, ltb, List, ◌⊎◌, arith}
use mathlib.Core.Logic.{inl, inr}
use Rattle.std.specs.List.{range_with_len, list_all}
use Rattle.text.specs.Lines.{fields}
use Rattle.text.proofs.TestLaws.{true≢false, passed_or_failed}
use Rattle.heads.proofs.HeadLaws.{every_in, one_in}
use Rattle.tables.specs.Table.{number_of}
use Rattle.tables.specs.Refusals.{is_region, living}
use Rattle.linenames.specs.Inner.LineNames.{reference_end, has_reference, reference_at}
use Rattle.resolve.specs.Inner.Reading.{line_at, fields_at, gates_at, regions_at}
use Rattle.resolve.proofs.LivingLaws.{dead_here, living-all}
use Rattle.resolve.proofs.NumberLaws.{total_is, number_is}

module _ (text starts : List ℕ) (n i : ℕ) (few : length (regions_at text starts n) ≤ 64) (h : i < n) {line : List ℕ} (l : line ≡ line_at text starts i)
    {total : ℕ} (t : total ≡ min 64 (length (regions_at text starts n))) where
  -- field k has no reference, or one to a region
  abbrev pub passes : ℕ → Bool
  passes k = not (has_reference (fields line) k) || ltb (min 64 (number_of (regions_at text starts n) (reference_at (fields line) k))) total

  passes-is : (k : ℕ) → passes k
      ≡ (not (has_reference (fields_at text starts i) k) || is_region (gates_at text starts n) (reference_at (fields_at text starts i) k))
  unfolding fields_at is_region
  passes-is k = rw (l, total_is text starts n few t, number_is text starts n few (reference_at (fields (line_at text starts i)) k) refl)

  second : (x y : Bool) → (not x || y) ≡ true → x ≡ true → y ≡ true
  second true y e p = e
  second false y e p = absurd (true≢false (sym p))

  neither : (x y : Bool) → (not x || y) ≡ false → (x ≡ true) × (y ≡ false)
  neither true y e = (refl, e)
  neither false y e = absurd (true≢false e)

  pub living_in : {end : ℕ} → end ≡ reference_end (fields line) → 2 ≤ end → list_all passes (range_with_len 2 (end - 2)) ≡ living (gates_at text starts n) i
  unfolding fields_at
  living_in {end} e low = go (passed_or_failed (list_all passes (range_with_len 2 (end - 2))))
    where
      ends : 2 + (end - 2) ≡ reference_end (fields_at text starts i)
      ends = let z : 2 + (end - 2) ≡ end = omega arith in z ∙ e ∙ rw l

      go : (list_all passes (range_with_len 2 (end - 2)) ≡ true) ⊎ (list_all passes (range_with_len 2 (end - 2)) ≡ false)
          → list_all passes (range_with_len 2 (end - 2)) ≡ living (gates_at text starts n) i
      go (inl a) = a ∙ sym (living-all text starts n i h (λ k u v has.
          second (has_reference (fields_at text starts i) k) (is_region (gates_at text starts n) (reference_at (fields_at text starts i) k))
          (sym (passes-is k) ∙ every_in passes 2 (end - 2) a k u (rw (← ends) at v)) has))
      go (inr f) =
          let w = one_in passes 2 (end - 2) f in
          let d = neither (has_reference (fields_at text starts i) w.0) (is_region (gates_at text starts n) (reference_at (fields_at text starts i) w.0))
          (sym (passes-is w.0) ∙ w.3) in
          f ∙ sym (dead_here text starts n i h w.0 w.1 (rw ends at w.2) d.0 d.1)
