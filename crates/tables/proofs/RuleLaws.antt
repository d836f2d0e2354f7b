-- The rules hold exactly when none of refusals 13 to 16 applies.
use mathlib.Core.Path.{◌≡◌, sym, ap, ◌∙◌}
use mathlib.Core.Bool.{true, not}
use mathlib.Core.List.{List, [], ◌∷◌, ◌++◌}
use Prim.Native.Nat.{ℕ, suc, ◌+◌, ◌<◌, ◌≤◌}
use native.Mathlib.Omega.{arith}
use lib.ListN.{length, take, drop, length-append, take-append-drop}
use lib.Seq.{take-length}
use borrow.Author.Tests.{lt-ltb, ltb-true, le-leb, leb-true}
use Rattle.text.specs.Bytes.{every}
use Rattle.text.proofs.TestLaws.{true≢false}
use Rattle.gates.specs.Gate.{Name, Gate, regions}
use Rattle.tables.specs.Table.{◌∈◌, nth_gate, up_to, given, names, number_of, gate_references}
use Rattle.tables.specs.Reaching.{reaches_itself}
use Rattle.tables.specs.Further.Rules.{Distinct, Rules}
use Rattle.tables.specs.Refusals.{uncrowded, unrepeated, is_region, living, uncircled}
use Rattle.tables.proofs.ListLaws.{unless, not-true, every-at, every_of}
use Rattle.tables.proofs.NameLaws.{split, different-distinct, distinct-different, in_number, number_in}
use Rattle.tables.proofs.RegionLaws.{regions_append, given_append}
use Rattle.tables.proofs.ReachingLaws.{gate_in, gate_index, itself_reaches, reaches_itself_lem}

-- none of the tests fails at any gate
pub record Unrefused (t : List Gate) : Type 0 where
  pub not_13 : (i : ℕ) → i < length t → uncrowded t i ≡ true
  pub not_14 : (i : ℕ) → i < length t → unrepeated t i ≡ true
  pub not_15 : (i : ℕ) → i < length t → living t i ≡ true
  pub not_16 : (i : ℕ) → i < length t → uncircled t i ≡ true

-- ---- the gates up to the last are all of them, and those up to another begin the table

last-all : (g : Gate) (t : List Gate) → up_to (g ∷ t) (length t) ≡ g ∷ t
unfolding up_to
last-all g t = take-length (g ∷ t)

module _ (t : List Gate) (i : ℕ) where
  fewer : length (regions (up_to t i)) ≤ length (regions t)
  unfolding up_to
  fewer =
      let e : regions t ≡ regions (take (suc i) t) ++ regions (drop (suc i) t) =
      ap regions (sym (take-append-drop (suc i) t)) ∙ regions_append (take (suc i) t) (drop (suc i) t) in
      let l : length (regions t) ≡ length (regions (take (suc i) t)) + length (regions (drop (suc i) t)) =
      ap length e ∙ length-append (regions (take (suc i) t)) (regions (drop (suc i) t)) in
      omega arith

  still_distinct : Distinct (given t) → Distinct (given (up_to t i))
  unfolding up_to
  still_distinct d =
      let e : given t ≡ given (take (suc i) t) ++ given (drop (suc i) t) =
      ap given (sym (take-append-drop (suc i) t)) ∙ given_append (take (suc i) t) (drop (suc i) t) in
      (split (given (take (suc i) t)) (given (drop (suc i) t)) (rw e at d)).0

-- ---- each rule is one refusal's absence

few_hold : (t : List Gate) → ((i : ℕ) → i < length t → uncrowded t i ≡ true) → length (regions t) ≤ 64
unfolding uncrowded
few_hold [] h = omega arith
few_hold (g ∷ t) h = leb-true (length (regions (g ∷ t))) 64 (rw (last-all g t) at (h (length t) (omega arith)))

distinct_hold : (t : List Gate) → ((i : ℕ) → i < length t → unrepeated t i ≡ true) → Distinct (given t)
unfolding unrepeated
distinct_hold [] h = tt
distinct_hold (g ∷ t) h = different-distinct (given (g ∷ t)) (rw (last-all g t) at (h (length t) (omega arith)))

module _ (t : List Gate) where
  region-there : (n : Name) → is_region t n ≡ true → n ∈ names (regions t)
  unfolding is_region
  region-there n e = number_in (regions t) n (ltb-true (number_of (regions t) n) (length (regions t)) e)

  there-region : (n : Name) → n ∈ names (regions t) → is_region t n ≡ true
  unfolding is_region
  there-region n m = lt-ltb (number_of (regions t) n) (length (regions t)) (in_number (regions t) n m)

  alive_hold : ((i : ℕ) → i < length t → living t i ≡ true) → (g : Gate) → g ∈ t → (n : Name) → n ∈ gate_references g → n ∈ names (regions t)
  unfolding living
  alive_hold h g m n k =
      let i = gate_index t m in
      let e : every (is_region t) (gate_references g) ≡ true = ap (λ (x : Gate). every (is_region t) (gate_references x)) (sym i.2) ∙ h i.0 i.1 in
      region-there n (every-at (is_region t) k e)

  -- a table whose gates pass all tests keeps the rules
  pub rules_hold : Unrefused t → Rules t
  unfolding uncircled
  rules_hold u = record {
    few = few_hold t u.not_13;
    distinct = distinct_hold t u.not_14;
    alive = alive_hold u.not_15;
    no_circle = λ g r. let i = reaches_itself_lem t g r in true≢false (sym i.2 ∙ not-true (reaches_itself t i.0) (u.not_16 i.0 i.1));
  }

  -- and the other way round
  pub hold_rules : Rules t → Unrefused t
  unfolding uncrowded unrepeated living uncircled
  hold_rules ok = record {
    not_13 = λ i h. let f = fewer t i in let k = ok.few in le-leb (length (regions (up_to t i))) 64 (omega arith);
    not_14 = λ i h. distinct-different (given (up_to t i)) (still_distinct t i ok.distinct);
    not_15 = λ i h. every_of (is_region t) (gate_references (nth_gate t i)) (λ n k. there-region n (ok.alive (nth_gate t i) (gate_in t i h) n k));
    not_16 = λ i h. ap not (unless (reaches_itself t i) (λ e. ok.no_circle (nth_gate t i) (itself_reaches t i h e)));
  }
