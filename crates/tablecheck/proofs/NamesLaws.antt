-- The first refusal that is found is the verdict's.
use mathlib.Core.Path.{◌≡◌, sym, ap, ◌∙◌}
use mathlib.Core.Bool.{Bool, true}
use mathlib.Core.List.{List, []}
use Prim.Native.Nat.{ℕ, zero, suc, ◌+◌, ◌-◌, ◌<◌, ◌≤◌, min}
use native.Mathlib.Omega.{arith}
use native.Mathlib.Decide.{dec_lt}
use native.Mathlib.Nat.{zero-add}
use lib.Dec.{leb}
use lib.ListN.{length, get_or, take, length-drop}
use lib.Seq.{take-take, take_all}
use borrow.Author.Tests.{lt-ltb, le-ltb, leb-true, eqb-true}
use Rattle.plans.specs.Indices.{first_bad}
use Rattle.plans.specs.Refusals.{Verdict, refused}
use Rattle.plans.proofs.IndexLaws.{first-at, first-before, first-is}
use Rattle.text.specs.Lines.{lines, fields}
use Rattle.gates.specs.Gate.{Gate, regions}
use Rattle.gates.specs.Inner.Regions.{region_count}
use Rattle.gates.specs.Rules.{no_refusal}
use Rattle.gates.specs.Refusal.{line_refusal}
use Rattle.gates.proofs.GateLaws.{regions-some}
use Rattle.tables.specs.Table.{up_to}
use Rattle.tables.specs.Head.{dimensions, gate_lines, gates}
use Rattle.tables.specs.Refusals.{unless_line, refusal_at, line_good, always, uncrowded, unrepeated, living, uncircled}
use Rattle.resolve.specs.Inner.Reading.{gate_count, fields_at, gates_at}
use Rattle.tablecheck.specs.Inner.Names.{GoodLines}
use Rattle.tablecheck.specs.Inner.TextVerdict.{names_verdict}
use Rattle.resolve.proofs.ReadLaws.{gates-up-to, count-more}
use Rattle.resolve.proofs.StartLaws.{Indexed, gates-first, gates-count}
use Rattle.resolve.proofs.CrowdLaws.{total-none}

-- ---- one refusal

module _ (number : ℕ → ℕ) (good : ℕ → Bool) (k : ℕ) (v : Verdict) {f : ℕ} (e : f ≡ first_bad good 0 k) where
  unless-here : f < k → unless_line number good k v ≡ refused (number f) (f + 2)
  unfolding unless_line
  unless-here h = rw (← e, lt-ltb f k h)

  unless-past : k ≤ f → unless_line number good k v ≡ v
  unfolding unless_line
  unless-past h = rw (← e, le-ltb f k h)

-- ---- the gates that are read, and their number

module _ (text starts : List ℕ) (x : Indexed text starts) where
  module _ (good : GoodLines text) where
    some_read : (i : ℕ) → i < 65 → i < length (gate_lines text) → 1 ≤ region_count (fields_at text starts i)
    unfolding fields_at line_good refusal_at
    some_read i h l =
        rw (x i h l) (regions-some (dimensions text) (fields (get_or (gate_lines text) i []))
        (eqb-true (line_refusal (dimensions text) (fields (get_or (gate_lines text) i []))) no_refusal (good i l)))

    regions-least : (n : ℕ) → n ≤ 65 → n ≤ length (gate_lines text) → n ≤ length (regions (gates_at text starts n))
    regions-least zero h l = omega arith
    regions-least (suc n) h l = omega (arith, count-more text starts n, regions-least n (omega arith) (omega arith), some_read n (omega arith) (omega arith))

    module _ {n : ℕ} (e : n ≡ min (length (gate_lines text)) 65) {f : ℕ} (c : f ≡ first_bad (uncrowded (gates_at text starts n)) 0 n) where
      same_crowd : (i : ℕ) → i < n → uncrowded (gates_at text starts n) i ≡ uncrowded (gates text) i
      unfolding uncrowded up_to
      same_crowd i h =
          let g : take (suc i) (gates_at text starts n) ≡ take (suc i) (gates text) =
          ap (take (suc i)) (gates-first text starts x n (omega arith) (omega arith)) ∙ take-take (suc i) n (gates text) (omega arith) in
          rw g

      pub crowded_refused : f < n → (v : Verdict) → refused 13 (f + 2) ≡ names_verdict (gates text) v
      unfolding names_verdict
      crowded_refused h v =
          let good = uncrowded (gates_at text starts n) in
          let k : first_bad (uncrowded (gates text)) 0 (length (gates text)) ≡ f =
          first-is (uncrowded (gates text)) 0 (length (gates text)) f (omega arith) (omega (arith, gates-count text starts x))
          (λ j _ l. sym (same_crowd j (omega arith)) ∙ first-before good 0 n j (omega arith) (rw c at l))
          (sym (same_crowd f h) ∙ rw c (first-at good 0 n (rw (zero-add, ← c) h))) in
          sym (unless-here (always 13) (uncrowded (gates text)) (length (gates text)) _ (sym k) (omega (arith, gates-count text starts x)))

      -- no gate crowds: they are all read, and have at most 64 regions
      module _ (h : n ≤ f) where
        pub few : length (regions (gates_at text starts n)) ≤ 64
        unfolding uncrowded
        few = go (dec_lt 0 n)
          where
            go : Dec (0 < n) → length (regions (gates_at text starts n)) ≤ 64
            go (yes u) =
                let z : suc (n - 1) ≡ n = omega arith in
                let b : uncrowded (gates_at text starts n) (n - 1) ≡ true =
                first-before (uncrowded (gates_at text starts n)) 0 n (n - 1) (omega arith) (rw (← c) (omega arith)) in
                leb-true (length (regions (gates_at text starts n))) 64
                (ap (λ (k : ℕ). leb (length (regions (gates_at text starts k))) 64) (sym z)
                ∙ sym (ap (λ (t : List Gate). leb (length (regions t)) 64) (gates-up-to text starts n (n - 1) (omega arith))) ∙ b)
            go (no u) = let z : n ≡ 0 = omega arith in rw z (none)
              where
                none : length (regions (gates_at text starts 0)) ≤ 64
                none = omega (arith, total-none text starts)

        pub most : n ≤ 64
        most = omega (arith, few, regions-least n (omega arith) (omega arith))

        pub number : length (gates text) ≡ n
        number = omega (arith, most, gates-count text starts x)

        pub read : gates_at text starts n ≡ gates text
        read = gates-first text starts x n (omega arith) (omega (arith, number, gates-count text starts x)) ∙ take_all n (gates text) (omega (arith, number))

        uncrowding : (v : Verdict) → unless_line (always 13) (uncrowded (gates text)) (length (gates text)) v ≡ v
        uncrowding v = unless-past (always 13) (uncrowded (gates text)) (length (gates text)) v (c ∙ rw (read, number)) (omega (arith, number))

        module _ {a : ℕ} (ae : a ≡ first_bad (unrepeated (gates_at text starts n)) 0 n) where
          unrepeated-read : a ≡ first_bad (unrepeated (gates text)) 0 (length (gates text))
          unrepeated-read = ae ∙ rw (read, number)

          pub repeated-refused : a < n → (v : Verdict) → refused 14 (a + 2) ≡ names_verdict (gates text) v
          unfolding names_verdict
          repeated-refused l v =
              sym (uncrowding _ ∙ unless-here (always 14) (unrepeated (gates text)) (length (gates text)) _ unrepeated-read (omega (arith, number)))

          module _ (al : n ≤ a) {b : ℕ} (be : b ≡ first_bad (living (gates_at text starts n)) 0 n) where
            living-read : b ≡ first_bad (living (gates text)) 0 (length (gates text))
            living-read = be ∙ rw (read, number)

            pub dead_refused : b < n → (v : Verdict) → refused 15 (b + 2) ≡ names_verdict (gates text) v
            unfolding names_verdict
            dead_refused l v =
                sym (uncrowding _ ∙ unless-past (always 14) (unrepeated (gates text)) (length (gates text)) _ unrepeated-read (omega (arith, number))
                ∙ unless-here (always 15) (living (gates text)) (length (gates text)) _ living-read (omega (arith, number)))

            module _ (bl : n ≤ b) {d : ℕ} (de : d ≡ first_bad (uncircled (gates_at text starts n)) 0 n) where
              uncircled-read : d ≡ first_bad (uncircled (gates text)) 0 (length (gates text))
              uncircled-read = de ∙ rw (read, number)

              pub circled_refused : d < n → (v : Verdict) → refused 16 (d + 2) ≡ names_verdict (gates text) v
              unfolding names_verdict
              circled_refused l v =
                  sym (uncrowding _ ∙ unless-past (always 14) (unrepeated (gates text)) (length (gates text)) _ unrepeated-read (omega (arith, number))
                  ∙ unless-past (always 15) (living (gates text)) (length (gates text)) _ living-read (omega (arith, number))
                  ∙ unless-here (always 16) (uncircled (gates text)) (length (gates text)) v uncircled-read (omega (arith, number)))

              pub none-refused : n ≤ d → (v : Verdict) → v ≡ names_verdict (gates text) v
              unfolding names_verdict
              none-refused l v =
                  sym (uncrowding _ ∙ unless-past (always 14) (unrepeated (gates text)) (length (gates text)) _ unrepeated-read (omega (arith, number))
                  ∙ unless-past (always 15) (living (gates text)) (length (gates text)) _ living-read (omega (arith, number))
                  ∙ unless-past (always 16) (uncircled (gates text)) (length (gates text)) v uncircled-read (omega (arith, number)))

-- the number of gates that are looked at
pub count-read : (text : List ℕ) {n : ℕ} → n ≡ min (gate_count text) 65 → n ≡ min (length (gate_lines text)) 65
unfolding gate_lines
count-read text g = rw (length-drop 1 (lines text)) g
