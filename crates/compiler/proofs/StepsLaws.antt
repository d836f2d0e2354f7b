-- The steps in their order, written one behind the other.
use mathlib.Core.Path.{◌≡◌, refl, sym, ap, ◌∙◌}
use mathlib.Core.List.{List, [], ◌++◌}
use Prim.Native.Nat.{ℕ, suc, ◌+◌, ◌-◌, ◌*◌, ◌<◌, ◌≤◌}
use native.Mathlib.Omega.{arith}
use native.Mathlib.Nat.{sub-zero}
use lib.IntN.{ℤ}
use borrow.Author.Tests.{lt-ltb}
use Rattle.std.specs.Prelude.{Some}
use lib.ListN.{length, take, drop, length-append, length-drop}
use lib.Seq.{take_all, length-take-le}
use Rattle.plans.specs.Indices.{first_bad}
use Rattle.plans.specs.Bits.{with_bit}
use Rattle.text.specs.Output.{over}
use Rattle.text.specs.Inner.Writing.{over_from}
use Rattle.text.proofs.WritingLaws.{over-from, take_more, drop_more}
use Rattle.gates.specs.Gate.{Region}
use Rattle.tables.specs.Steps.{next_region, order_from, order, step_words, steps_words}
use Rattle.tables.proofs.LoopLaws.{order-next, order_end}
use Rattle.graph.specs.Inner.Rows.{held, Referring}
use Rattle.graph.proofs.RowLaws.{next-region}
use Rattle.resolve.specs.Inner.Reading.{regions_at}
use Rattle.tableregions.specs.Inner.Located.{located_at, in_table}
use Rattle.tableregions.proofs.PlaceLaws.{gate_inside}

order-none : (rs : List Region) (written : ℕ) → steps_words rs (order_from 0 rs written) ≡ []
unfolding order_from
order-none rs written = refl

module _ (rs : List Region) (d : List ℤ) where
  abbrev pub steps : List ℤ
  steps = steps_words rs (order rs)

  -- k steps are written, which have `at` words: `rest` was d
  pub record Filling (written k at : ℕ) (rest : List ℤ) : Type 0 where
    pub few : k ≤ length rs
    pub bound : at ≤ k * 65539
    pub inside : at ≤ length steps
    pub ahead : drop at steps ≡ steps_words rs (order_from (length rs - k) rs written)
    pub filled : rest ≡ over (take at steps) d

  pub filling_none : Filling 0 0 0 d
  unfolding order over
  filling_none = record { few = omega arith; bound = omega arith; inside = omega arith; ahead = rw sub-zero; filled = refl }

  module _ {written k at : ℕ} {rest : List ℤ} (f : Filling written k at rest) where
    -- nothing is ahead
    all_filled : drop at steps ≡ [] → (at ≡ length steps) × (rest ≡ over steps d)
    all_filled e =
        let z : length steps - at ≡ 0 = sym (length-drop at steps) ∙ ap length e in
        let i = f.inside in
        let k : at ≡ length steps = omega arith in
        (k, f.filled ∙ ap (λ (l : List ℤ). over l d) (take_all at steps (omega arith)))

    pub filling_end : length rs ≤ k → (at ≡ length steps) × (rest ≡ over steps d)
    filling_end h = let z : length rs - k ≡ 0 = omega arith in
        all_filled (f.ahead ∙ ap (λ (j : ℕ). steps_words rs (order_from j rs written)) z ∙ order-none rs written)

    module _ (l : k < length rs) where
      one_more : length rs - k ≡ suc (length rs - (k + 1))
      one_more = omega arith

      pub filling_stuck : length rs ≤ next_region rs written → (at ≡ length steps) × (rest ≡ over steps d)
      filling_stuck h =
          all_filled (f.ahead ∙ ap (λ (j : ℕ). steps_words rs (order_from j rs written)) one_more
          ∙ ap (steps_words rs) (order_end rs (length rs - (k + 1)) written h))

      module _ (r : ℕ) (e : r ≡ next_region rs written) (below : r < length rs) {c : ℕ} (g : c ≡ length (step_words rs r)) where
        next : drop at steps ≡ step_words rs r ++ steps_words rs (order_from (length rs - (k + 1)) rs (with_bit written r))
        next =
            f.ahead ∙ ap (λ (j : ℕ). steps_words rs (order_from j rs written)) one_more
            ∙ ap (steps_words rs) (order-next rs (length rs - (k + 1)) written (omega arith))
            ∙ ap (λ (j : ℕ). step_words rs j ++ steps_words rs (order_from (length rs - (k + 1)) rs (with_bit written j))) (sym e)

        long : at + c ≤ length steps
        long =
            let i = f.inside in
            let q : length (drop at steps) ≡ length (step_words rs r) + length (steps_words rs (order_from (length rs - (k + 1)) rs (with_bit written r))) =
            ap length next ∙ length-append (step_words rs r) _ in
            omega (arith, length-drop at steps)

        pub filling_more : c ≤ 65539 → {x : List ℤ} → x ≡ over_from at (step_words rs r) rest → {set : ℕ} → set ≡ with_bit written r
            → Filling set (k + 1) (at + c) x
        filling_more small {x} w {set} s =
            let b = f.bound in
            let i = f.inside in
            record {
              few = omega arith;
              bound = omega arith;
              inside = long;
              ahead = drop_more steps (step_words rs r) (steps_words rs (order_from (length rs - (k + 1)) rs (with_bit written r))) at c g next
                  ∙ ap (λ (u : ℕ). steps_words rs (order_from (length rs - (k + 1)) rs u)) (sym s);
              filled = over-from (take at steps) d rest x (step_words rs r) at (length-take-le at steps i) f.filled w
                  ∙ ap (λ (u : List ℤ). over u d)
                  (sym (take_more steps (step_words rs r) (steps_words rs (order_from (length rs - (k + 1)) rs (with_bit written r))) at c g next));
            }

-- the next row is the next region
pub next-is : (rs : List Region) (rows : List ℕ) → Referring rs rows → {total : ℕ} → total ≡ length rs → (written : ℕ) → {r : ℕ}
    → r ≡ first_bad (held rows written) 0 total
    → r ≡ next_region rs written
next-is rs rows f {total} e written {r} g = g ∙ ap (λ (k : ℕ). first_bad (held rows written) 0 k) e ∙ next-region rs rows f written

-- a region that there is stands at a gate
pub located : (text starts : List ℕ) (n r : ℕ) → r < length (regions_at text starts n)
    → in_table n (located_at text starts n r) ≡ Some (located_at text starts n r)
located text starts n r h =
    rw (lt-ltb (located_at text starts n r).gate n (gate_inside text starts n r {x = located_at text starts n r} refl h))
