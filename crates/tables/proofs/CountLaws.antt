-- Counting by the plan of a table with its gate lines in any order: each region's count by its name, and what the quadrants' counts add up to.
use mathlib.Core.Path.{◌≡◌, refl, sym, ap, ap₂, ◌∙◌}
use mathlib.Core.Bool.{Bool, true, false, not, ◌&&◌, cond}
use mathlib.Core.Logic.{◌⊎◌, inl, inr, ⊎_elim}
use mathlib.Core.Option.{Option, none, some}
use mathlib.Core.List.Memᴰ
use mathlib.Core.List.Permᴰ
use mathlib.Core.List.{List, [], ◌∷◌, Permᴰ}
use Prim.Native.Nat.{ℕ, zero, suc, ◌+◌, ◌*◌, ◌/◌, ◌%◌, ◌<◌, ◌≤◌}
use native.Mathlib.Omega.{arith}
use native.Mathlib.Nat.{suc-mul, le-div_iff_mul-le, min-eq_left}
use lib.IntN.{ℤ}
use lib.ListN.{length, get_or, drop, length-take, length-drop}
use lib.Dec.{eqb}
use Rattle.plans.specs.Indices.{any, how_many}
use Rattle.plans.specs.Words.{word, number, part}
use Rattle.plans.specs.Bits.{has_bit}
use Rattle.plans.specs.Refusals.{passed}
use Rattle.plans.specs.Form.{width, step_count, check_of}
use Rattle.plans.proofs.IndexLaws.{any_at_lem, any_stop, how_many-same}
use Rattle.plans.proofs.BitLaws.{no_bit}
use Rattle.counter.specs.Members.{bits_of}
use Rattle.counter.specs.Judging.{taken, members}
use Rattle.counter.specs.Judging as J
use Rattle.counter.specs.Counting.{event_at, taken_at, spoilt_at, member_at, unclaimed_at, list_from, in_region, tally_of, count_passed, count_for, count_of}
use Rattle.counter.proofs.StepLaws.{bits-low}
use Rattle.counter.proofs.SetLaws.{no_bits_lem}
use Rattle.text.proofs.TestLaws.{passed_or_failed}
use Rattle.gates.specs.Gate.{Name, Event, Quadrant, Body, one, quad, Gate, Region, regions_of, regions}
use Rattle.gates.specs.Meaning.{holds}
use Rattle.gates.proofs.GoodGate.{GoodShape, GoodBody, holders}
use Rattle.tables.specs.Table.{◌∈◌, some_of, nth_region, names, number_of, sum_of}
use Rattle.tables.specs.Further.Rules.{Rules}
use Rattle.tables.specs.Members.{in_parent, member, claimed, unclaimed}
use Rattle.tables.specs.Steps.{plan_words}
use Rattle.tables.proofs.ListLaws.{both_ways, some_at, some-found, map_in, map-from}
use Rattle.tables.proofs.NameLaws.{name_in, number-name, in_number}
use Rattle.tables.proofs.SumLaws.{sum_same, sum_add, sum-none}
use Rattle.tables.proofs.GateLaws.{orderly, region-of_gate, gate_of-region, quadrant_region, moved-name, moved-rules, moved_obeys}
use Rattle.tables.proofs.PlanMembers.{bits-right}
use Rattle.tables.proofs.MemberTheorems.{member-spoilt, member_obeys}

-- ---- the tally of a plan that passes

pub plan-width : (n : ℕ) (rs : List Region) → width (plan_words n rs) ≡ n
unfolding width plan_words word number
plan-width n rs = refl

pub counted : (p values : List ℤ) → check_of p ≡ passed → length values % width p ≡ 0
    → count_of p values ≡ record { verdict = passed; tally = tally_of p values (length values / width p) }
unfolding count_for count_passed
counted p values e h = rw (e, h)

module _ (n : ℕ) (rs : List Region) (values : List ℤ) (m : ℕ) where
  pub tally-taken : (tally_of (plan_words n rs) values m).taken ≡ how_many (taken_at n values) m
  unfolding tally_of
  tally-taken = rw (plan-width n rs)

  pub tally-spoilt : (tally_of (plan_words n rs) values m).spoilt ≡ how_many (spoilt_at n values) m
  unfolding tally_of
  tally-spoilt = rw (plan-width n rs)

table_at : (f : ℕ → ℕ) (i m r : ℕ) → r < m → get_or (list_from f i m) r 0 ≡ f (i + r)
unfolding list_from
table_at f i zero r h = absurd (omega arith)
table_at f i (suc m) zero h = let e : i + 0 ≡ i = omega arith in rw e
table_at f i (suc m) (suc r) h = let e : i + 1 + r ≡ i + suc r = omega arith in table_at f (i + 1) m r (omega arith) ∙ ap f e

count_at : (p values : List ℤ) (m r : ℕ) → r < 64 → get_or (tally_of p values m).counts r 0 ≡ how_many (member_at p values r) m
unfolding tally_of in_region
count_at p values m r h = let e : 0 + r ≡ r = omega arith in table_at (in_region p values m) 0 64 r h ∙ ap (in_region p values m) e

-- a complete event has n values
event-length : (n : ℕ) (values : List ℤ) (j : ℕ) → 1 ≤ n → j < length values / n → length (event_at n values j) ≡ n
unfolding event_at part
event-length n values j h l =
    let a : suc j * n ≤ length values = (le-div_iff_mul-le h).0 l in
    let b : suc j * n ≡ j * n + n = suc-mul j n in
    length-take n (drop (j * n) values) ∙ min-eq_left (simp length-drop (omega arith))

-- ---- what reading the lines ensures, of the regions

good_of : (n : ℕ) (m : Name) (p : Option Name) (b : Body) → GoodBody n b → (r : Region) → r ∈ regions_of m p b → GoodShape n r.shape
good_of n m p (one s) g r i = ⊎_elim (λ e. rw e g) (λ k. absurd (Memᴰ.not-nil k)) (Memᴰ.cases_cons i)
good_of n m p (quad qs) g r i = let q = map-from (quadrant_region p) qs i in rw q.2 (g.1 q.0 q.1)

pub good-regions : (n : ℕ) (t : List Gate) → ((g : Gate) → g ∈ t → GoodBody n g.body) → (r : Region) → r ∈ regions t → GoodShape n r.shape
good-regions n t h r i = let g = gate_of-region t r i in good_of n g.0.name g.0.parent g.0.body (h g.0 g.1) r g.2

-- ---- counts by name: t is the accepted table, u the same gates in another order

module _ (t u : List Gate) (p : Permᴰ t u) (ok : Rules t) (n : ℕ) (some_values : 1 ≤ n) (good : (g : Gate) → g ∈ u → GoodBody n g.body) where
  abbrev rs : List Region
  rs = regions u

  ok-u : Rules u
  ok-u = moved-rules t u p ok

  pub member_by_name : (e : Event) → length e ≡ n → (k : Name) → k ∈ names rs → has_bit (members (plan_words n rs) e) (number_of rs k) ≡ member t e k
  unfolding members
  member_by_name e l k m = go (passed_or_failed (taken e))
    where
      go : (taken e ≡ true) ⊎ (taken e ≡ false) → has_bit (cond (taken e) (bits_of (plan_words n rs) e) 0) (number_of rs k) ≡ member t e k
      go (inl h) =
          let i = in_number rs k m in
          rw h
          (bits-right rs (orderly u ok-u) n (good-regions n u good) e l h (member t e) (moved_obeys t u p e (member t e) (member_obeys t e ok h))
          (number_of rs k) i
          ∙ ap (member t e) (sym (number-name rs k i)))
      go (inr h) = rw h (no_bit (number_of rs k) ∙ sym (member-spoilt t e h k))

  pub count_by_name : (values : List ℤ) (k : Name) → k ∈ names rs
      → get_or (tally_of (plan_words n rs) values (length values / n)).counts (number_of rs k) 0
      ≡ how_many (λ j. member t (event_at n values j) k) (length values / n)
  unfolding member_at
  count_by_name values k m =
      let i = in_number rs k m in
      let few = ok-u.few in
      count_at (plan_words n rs) values (length values / n) (number_of rs k) (omega arith)
      ∙ how_many-same _ _ (length values / n) (λ j l. rw (plan-width n rs) (member_by_name (event_at n values j) (event-length n values j some_values l) k m))

  -- an event that is taken has a bit exactly where the lines make it a member of some name
  module _ (passes : check_of (plan_words n rs) ≡ passed) (e : Event) (wide : length e ≡ n) (good-event : taken e ≡ true) where
    abbrev bits : ℕ
    bits = bits_of (plan_words n rs) e

    bit_is : (r : ℕ) → r < length rs → has_bit bits r ≡ member t e (nth_region rs r).name
    bit_is =
        bits-right rs (orderly u ok-u) n (good-regions n u good) e wide good-event (member t e)
        (moved_obeys t u p e (member t e) (member_obeys t e ok good-event))

    some-bit : any (has_bit bits) (length rs) ≡ claimed t e
    unfolding claimed
    some-bit = both_ways _ _ onward back
      where
        onward : any (has_bit bits) (length rs) ≡ true → some_of (member t e) (names (regions t)) ≡ true
        onward h =
            let r = any_at_lem (has_bit bits) (length rs) h in
            some_at (member t e) (moved-name (Permᴰ.symm p) (name_in rs r.0 r.1)) (sym (bit_is r.0 r.1) ∙ r.2)

        back : some_of (member t e) (names (regions t)) ≡ true → any (has_bit bits) (length rs) ≡ true
        back h =
            let k = some-found (member t e) (names (regions t)) h in
            let l = in_number rs k.0 (moved-name p k.1) in
            any_stop (has_bit bits) (length rs) (number_of rs k.0) l (bit_is _ l ∙ ap (member t e) (sym (number-name rs k.0 l)) ∙ k.2)

    no_bit-is : eqb bits 0 ≡ not (claimed t e)
    unfolding step_count plan_words word number
    no_bit-is = no_bits_lem (length rs) bits (bits-low (plan_words n rs) e passes) ∙ ap not some-bit

  -- an event is unclaimed by the plan where it is by the lines
  pub unclaimed_same : check_of (plan_words n rs) ≡ passed → (e : Event) → length e ≡ n → J.unclaimed (plan_words n rs) e ≡ unclaimed t e
  unfolding J.unclaimed unclaimed members
  unclaimed_same passes e wide = go (passed_or_failed (taken e))
    where
      go : (taken e ≡ true) ⊎ (taken e ≡ false) → (taken e && eqb (cond (taken e) (bits_of (plan_words n rs) e) 0) 0) ≡ (taken e && not (claimed t e))
      go (inl h) = rw h (no_bit-is passes e wide h)
      go (inr h) = rw h

  pub tally-unclaimed : check_of (plan_words n rs) ≡ passed → (values : List ℤ)
      → (tally_of (plan_words n rs) values (length values / n)).unclaimed ≡ how_many (λ j. unclaimed t (event_at n values j)) (length values / n)
  unfolding tally_of unclaimed_at
  tally-unclaimed passes values =
      how_many-same _ _ (length values / n)
      (λ j l. rw (plan-width n rs) (unclaimed_same passes (event_at n values j) (event-length n values j some_values l)))

-- ---- quadrants

how_many-more : (test : ℕ → Bool) (m : ℕ) → how_many test (suc m) ≡ how_many test m + cond (test m) 1 0
unfolding how_many
how_many-more test m = go (test m)
  where
    go : (b : Bool) → cond b (how_many test m + 1) (how_many test m) ≡ how_many test m + cond b 1 0
    go true = refl
    go false = omega arith

-- counts add up where the tests do, index by index
sum-counts : {A : Type 0} (f : A → ℕ → Bool) (g : ℕ → Bool) (l : List A) (m : ℕ) → ((j : ℕ) → j < m → sum_of (λ x. cond (f x j) 1 0) l ≡ cond (g j) 1 0)
    → sum_of (λ x. how_many (f x) m) l ≡ how_many g m
unfolding how_many
sum-counts f g l zero h = sum-none l
sum-counts f g l (suc m) h =
    sum_same _ (λ x. how_many (f x) m + cond (f x m) 1 0) l (λ x _. how_many-more (f x) m)
    ∙ sum_add (λ x. how_many (f x) m) (λ x. cond (f x m) 1 0) l
    ∙ ap₂ ◌+◌ (sum-counts f g l m (λ j k. h j (omega arith))) (h m (omega arith)) ∙ sym (how_many-more g m)

held : (qs : List Quadrant) (e : Event) → sum_of (λ (q : Quadrant). cond (holds q.box e) 1 0) qs ≡ holders qs e
held [] e = refl
held (q ∷ qs) e = rw (held qs e)

and_true : (b : Bool) → (b && true) ≡ b
and_true true = refl
and_true false = refl

and_none : (b : Bool) → (b && false) ≡ false
and_none true = refl
and_none false = refl

-- an event that is taken, or one that is a member of the parent
abbrev pub in_parent_of : List Gate → Option Name → Event → Bool
in_parent_of t none e = taken e
in_parent_of t (some k) e = member t e k

module _ (t : List Gate) (ok : Rules t) (n : ℕ) (some_values : 1 ≤ n) (g : Gate) (m : g ∈ t) (qs : List Quadrant) (is-quad : g.body ≡ quad qs)
    (good : GoodBody n (quad qs)) where
  quadrant_in : (q : Quadrant) → q ∈ qs → quadrant_region g.parent q ∈ regions t
  quadrant_in q k = region-of_gate (quadrant_region g.parent q) m (rw is-quad (map_in (quadrant_region g.parent) k))

  pub quadrant-name : (q : Quadrant) → q ∈ qs → q.name ∈ names (regions t)
  quadrant-name q k = map_in (λ (r : Region). r.name) (quadrant_in q k)

  -- of one event
  one-quadrant : (e : Event) → length e ≡ n → sum_of (λ (q : Quadrant). cond (member t e q.name) 1 0) qs ≡ cond (in_parent_of t g.parent e) 1 0
  one-quadrant e l = go (passed_or_failed (taken e))
    where
      parent-spoilt : taken e ≡ false → (o : Option Name) → in_parent_of t o e ≡ false
      parent-spoilt h none = h
      parent-spoilt h (some k) = member-spoilt t e h k

      parent-taken : taken e ≡ true → (o : Option Name) → in_parent_of t o e ≡ in_parent (member t e) o
      parent-taken h none = h
      parent-taken h (some k) = refl

      quadrant-value : taken e ≡ true → (q : Quadrant) → q ∈ qs → member t e q.name ≡ (holds q.box e && in_parent (member t e) g.parent)
      quadrant-value h q k = member_obeys t e ok h (quadrant_region g.parent q) (quadrant_in q k)

      in_parent_lem : taken e ≡ true → (b : Bool) → in_parent (member t e) g.parent ≡ b
          → sum_of (λ (q : Quadrant). cond (member t e q.name) 1 0) qs ≡ cond b 1 0
      in_parent_lem h true a =
          sum_same _ (λ (q : Quadrant). cond (holds q.box e) 1 0) qs (λ q k. rw (quadrant-value h q k, a, and_true (holds q.box e)))
          ∙ held qs e
          ∙ good.2 e l h
      in_parent_lem h false a = sum_same _ (λ (q : Quadrant). 0) qs (λ q k. rw (quadrant-value h q k, a, and_none (holds q.box e))) ∙ sum-none qs

      go : (taken e ≡ true) ⊎ (taken e ≡ false) → sum_of (λ (q : Quadrant). cond (member t e q.name) 1 0) qs ≡ cond (in_parent_of t g.parent e) 1 0
      go (inl h) = in_parent_lem h (in_parent (member t e) g.parent) refl ∙ ap (λ (b : Bool). cond b 1 0) (sym (parent-taken h g.parent))
      go (inr h) =
          sum_same _ (λ (q : Quadrant). 0) qs (λ q k. rw (member-spoilt t e h q.name))
          ∙ sum-none qs
          ∙ ap (λ (b : Bool). cond b 1 0) (sym (parent-spoilt h g.parent))

  pub quadrants_add_up : (values : List ℤ)
      → sum_of (λ (q : Quadrant). how_many (λ j. member t (event_at n values j) q.name) (length values / n)) qs
      ≡ how_many (λ j. in_parent_of t g.parent (event_at n values j)) (length values / n)
  quadrants_add_up values =
      sum-counts (λ (q : Quadrant) j. member t (event_at n values j) q.name) (λ j. in_parent_of t g.parent (event_at n values j)) qs (length values / n)
      (λ j l. one-quadrant (event_at n values j) (event-length n values j some_values l))
