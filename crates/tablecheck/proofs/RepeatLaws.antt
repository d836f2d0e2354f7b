-- A gate gives a name again exactly where its line does.
use mathlib.Core.Path.{◌≡◌, refl, sym, ap, ◌∙◌}
use mathlib.Core.Bool.{Bool, true, false, not, cond, ◌||◌}
use mathlib.Core.Logic.{◌⊎◌, inl, inr}
use mathlib.Core.List.Memᴰ
use mathlib.Core.List.{List, [], ◌∷◌, ◌++◌, append-nil}
use Prim.Native.Nat.{ℕ, zero, suc, ◌+◌, ◌<◌}
use native.Mathlib.Omega.{arith}
use native.Mathlib.Numerals.{add-one}
use native.Mathlib.Decide.{dec_lt}
use Rattle.plans.specs.Indices.{all, any, first_bad}
use Rattle.plans.proofs.IndexLaws.{any_stop}
use Rattle.text.proofs.TestLaws.{true≢false}
use Rattle.gates.specs.Gate.{Name}
use Rattle.tables.specs.Table.{◌∈◌, up_to, own_names, given, different}
use Rattle.tables.specs.Head.{dimensions}
use Rattle.tables.specs.Reaching.{is_in}
use Rattle.tables.specs.Refusals.{unrepeated}
use Rattle.tables.proofs.ListLaws.{both_ways, some_at, some-found, or_passes, unless}
use Rattle.tables.proofs.NameLaws.{in_list, list_in, split, unite, different-distinct, distinct-different}
use Rattle.tables.proofs.RegionLaws.{given_append}
use Rattle.text.specs.Lines.{fields}
use Rattle.linenames.specs.Inner.LineNames.{own_different, shares_name}
use Rattle.linenames.proofs.LineLaws.{own-different, shares_name_lem}
use Rattle.resolve.specs.Inner.Reading.{line_at, fields_at, gates_at}
use Rattle.tablecheck.specs.Inner.Names.{shares_at, repeats_at}
use Rattle.resolve.proofs.ReadLaws.{gate_at, gates-more, gates-up-to}

any_found : (test : ℕ → Bool) (n : ℕ) → any test n ≡ true → (i : ℕ) × (i < n) × (test i ≡ true)
unfolding any
any_found test zero e = absurd (true≢false (sym e))
any_found test (suc n) e = go (or_passes (any test n) (test n) e) (any_found test n)
  where
    go : (any test n ≡ true) ⊎ (test n ≡ true) → (any test n ≡ true → (i : ℕ) × (i < n) × (test i ≡ true)) → (i : ℕ) × (i < suc n) × (test i ≡ true)
    go (inl u) ih = let w = ih u in (w.0, omega (arith, w.1), w.2)
    go (inr u) ih = (n, omega arith, u)

module _ (text starts : List ℕ) where
  given-more : (i : ℕ) → given (gates_at text starts (suc i)) ≡ given (gates_at text starts i) ++ own_names (gate_at text starts i)
  given-more i =
      ap given (gates-more text starts i) ∙ given_append (gates_at text starts i) (gate_at text starts i ∷ [])
      ∙ ap (λ (l : List Name). given (gates_at text starts i) ++ l) (append-nil (own_names (gate_at text starts i)))

  -- a name that is given is one gate's
  in_given : (i : ℕ) (n : Name) → n ∈ given (gates_at text starts i) → (j : ℕ) × (j < i) × (n ∈ own_names (gate_at text starts j))
  unfolding gates_at
  in_given zero n m = absurd (Memᴰ.not-nil m)
  in_given (suc i) n m = go (Memᴰ.append_cases (given (gates_at text starts i)) (rw (given-more i) at m)) (in_given i n)
    where
      go : (n ∈ given (gates_at text starts i)) ⊎ (n ∈ own_names (gate_at text starts i))
          → (n ∈ given (gates_at text starts i) → (j : ℕ) × (j < i) × (n ∈ own_names (gate_at text starts j)))
          → (j : ℕ) × (j < suc i) × (n ∈ own_names (gate_at text starts j))
      go (inl u) ih = let w = ih u in (w.0, omega (arith, w.1), w.2)
      go (inr u) ih = (i, omega arith, u)

  given_in : (i j : ℕ) → j < i → (n : Name) → n ∈ own_names (gate_at text starts j) → n ∈ given (gates_at text starts i)
  given_in zero j h n m = absurd (omega arith)
  given_in (suc i) j h n m = rw (given-more i) (go (dec_lt j i) (given_in i j))
    where
      go : Dec (j < i) → (j < i → (k : Name) → k ∈ own_names (gate_at text starts j) → k ∈ given (gates_at text starts i))
          → n ∈ (given (gates_at text starts i) ++ own_names (gate_at text starts i))
      go (yes l) ih = Memᴰ.append_left (own_names (gate_at text starts i)) (ih l n m)
      go (no l) ih = let e : j ≡ i = omega arith in Memᴰ.append_right (given (gates_at text starts i)) (rw e at m)

  shares_found : (i j : ℕ) → shares_at text starts i j ≡ true → (n : Name) × (n ∈ own_names (gate_at text starts i)) × (n ∈ own_names (gate_at text starts j))
  unfolding shares_at
  shares_found i j e =
      let w = some-found (is_in (own_names (gate_at text starts j))) (own_names (gate_at text starts i))
      (sym (shares_name_lem (dimensions text) (fields_at text starts i) (fields_at text starts j)) ∙ e) in
      (w.0, w.1, list_in w.0 (own_names (gate_at text starts j)) w.2)

  found_shares : (i j : ℕ) (n : Name) → n ∈ own_names (gate_at text starts i) → n ∈ own_names (gate_at text starts j) → shares_at text starts i j ≡ true
  unfolding shares_at
  found_shares i j n a b =
      shares_name_lem (dimensions text) (fields_at text starts i) (fields_at text starts j) ∙ some_at (is_in (own_names (gate_at text starts j))) a (in_list b)

  module _ (n i : ℕ) (h : i < n) (d : different (given (gates_at text starts i)) ≡ true) where
    pub unrepeated-is : unrepeated (gates_at text starts n) i ≡ not (repeats_at text starts i)
    unfolding unrepeated repeats_at
    unrepeated-is = ap different listed ∙ both_ways (different (before ++ own))
        (not (not (own_different (fields_at text starts i)) || any (shares_at text starts i) i)) there back
      where
        before : List Name
        before = given (gates_at text starts i)

        own : List Name
        own = own_names (gate_at text starts i)

        listed : given (up_to (gates_at text starts n) i) ≡ before ++ own
        listed = ap given (gates-up-to text starts n i h) ∙ given-more i

        there : different (before ++ own) ≡ true → not (not (own_different (fields_at text starts i)) || any (shares_at text starts i) i) ≡ true
        there e =
            let s = split before own (different-distinct (before ++ own) e) in
            let a : own_different (fields_at text starts i) ≡ true = own-different (dimensions text) (fields_at text starts i) ∙ distinct-different own s.1 in
            let b : any (shares_at text starts i) i ≡ false = unless (any (shares_at text starts i) i) (λ t.
            let j = any_found (shares_at text starts i) i t in
            let w = shares_found i j.0 j.2 in
            s.2 w.0 (given_in i j.0 j.1 w.0 w.2) w.1) in
            rw (a, b)

        neither : (x y : Bool) → not (not x || y) ≡ true → (x ≡ true) × (y ≡ false)
        neither true true e = absurd (true≢false (sym e))
        neither true false e = (refl, refl)
        neither false y e = absurd (true≢false (sym e))

        back : not (not (own_different (fields_at text starts i)) || any (shares_at text starts i) i) ≡ true → different (before ++ own) ≡ true
        back e =
            let z = neither (own_different (fields_at text starts i)) (any (shares_at text starts i) i) e in
            distinct-different (before ++ own)
            (unite before own (different-distinct before d) (different-distinct own (sym (own-different (dimensions text) (fields_at text starts i)) ∙ z.0))
            (λ m a b.
            let w = in_given i m a in
            true≢false (sym (any_stop (shares_at text starts i) i w.0 w.1 (found_shares i w.0 m b w.2)) ∙ z.1)))

    pub given-next : unrepeated (gates_at text starts n) i ≡ different (given (gates_at text starts (i + 1)))
    unfolding unrepeated
    given-next = rw (add-one, gates-up-to text starts n i h)

  pub given-none : different (given (gates_at text starts 0)) ≡ true
  unfolding gates_at different all
  given-none = refl

  -- the first gate that gives a name again is the first whose line does
  repeated_from : (n i m : ℕ) → i + m ≡ n → different (given (gates_at text starts i)) ≡ true
      → first_bad (λ j. not (repeats_at text starts j)) i m ≡ first_bad (unrepeated (gates_at text starts n)) i m
  unfolding first_bad
  repeated_from n i zero e d = refl
  repeated_from n i (suc m) e d =
      let h : i < n = omega arith in
      rw (unrepeated-is n i h d)
      (go (not (repeats_at text starts i)) (λ t. repeated_from n (i + 1) m (omega arith) (sym (given-next n i h d) ∙ unrepeated-is n i h d ∙ t)))
    where
      go : (b : Bool) {x y : ℕ} → (b ≡ true → x ≡ y) → cond b x i ≡ cond b y i
      go true f = f refl
      go false f = refl

  pub repeated-first : (n : ℕ) → first_bad (λ j. not (repeats_at text starts j)) 0 n ≡ first_bad (unrepeated (gates_at text starts n)) 0 n
  repeated-first n = repeated_from n 0 n (omega arith) given-none

  -- ---- the tests of a line

  module _ (i : ℕ) {b : Bool} (e : b ≡ own_different (fields_at text starts i)) where
    pub repeats_own : b ≡ false → true ≡ repeats_at text starts i
    unfolding repeats_at
    repeats_own h = rw (← e, h)

    pub repeats_rest : b ≡ true → repeats_at text starts i ≡ any (shares_at text starts i) i
    unfolding repeats_at
    repeats_rest h = rw (← e, h)

  module _ (i : ℕ) {line : List ℕ} (l : line ≡ line_at text starts i) where
    pub own_read : {b : Bool} → b ≡ own_different (fields line) → b ≡ own_different (fields_at text starts i)
    unfolding fields_at
    own_read e = rw (← l) e

    pub shares_read : (j : ℕ) {other : List ℕ} → other ≡ line_at text starts j → {b : Bool} → b ≡ shares_name (fields line) (fields other)
        → b ≡ shares_at text starts i j
    unfolding shares_at fields_at
    shares_read j o e = rw (← l, ← o) e
