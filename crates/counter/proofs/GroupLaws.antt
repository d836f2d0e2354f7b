-- A group of events: its events, asking a step of a set of them, and the sets after each step.
use mathlib.Core.Path.{◌≡◌, refl, sym, ap, ap₂, ◌∙◌}
use mathlib.Core.Bool.{Bool, true, false, not, cond, ◌&&◌, ◌||◌, and_assoc, and-true, and-false, or-false, and-or_distrib_left}
use mathlib.Core.List.{List, [], ◌∷◌}
use Prim.Native.Nat.{ℕ, zero, suc, ◌+◌, ◌-◌, ◌*◌, ◌/◌, ◌<◌, ◌≤◌}
use native.Mathlib.Omega.{arith}
use native.Mathlib.Decide.{dec_lt}
use native.Mathlib.Nat.{mul-le-mul_right, add-mul, div-eq_of_lt, lt_of_lt_of_le}
use lib.Pow.{pow_mono}
use native.Mathlib.Numerals.{add-one}
use lib.IntN.{ℤ, pos, ◌-ℤ◌}
use lib.Signed.{le_z, lt_z}
use lib.ListN.{length, get_or, take, drop, set, length-set, replicate, get_or-replicate, length-replicate}
use lib.Seq.{get_or-set_same, get_or-set_other, get_or-take, get_or-drop, take-take, drop-drop}
use lib.Bits.{bit_and, bit_or}
use lib.Dec.{leb, ltb}
use borrow.Author.Tests.{eq-eqb, ne_eqb, lt-ltb, le-ltb, lt-leb, le-leb, ltb-true}
use Rattle.std.proofs.Common.{Option, None, Some}
use Rattle.plans.specs.Indices.{all, any}
use Rattle.plans.specs.Words.{word, number, on_scale, part}
use Rattle.plans.specs.Bits.{has_bit, with_bit}
use Rattle.plans.specs.Refusals.{passed}
use Rattle.plans.specs.Form.{kind_at, region_at, body_at, next_at, width, step_count, check_of}
use Rattle.plans.proofs.IndexLaws.{and_both, and_right-false, all-at, all_of, all_same, any_same}
use Rattle.plans.proofs.WordLaws.{part-whole, length_part}
use Rattle.plans.proofs.BitLaws.{no_bit, has_or}
use Rattle.counter.specs.Members.{value_in, triple_in, box_in, operand_in, parent_in, step_in, settled, bits_of}
use Rattle.counter.specs.Judging.{value_good, taken, members, unclaimed}
use Rattle.counter.specs.Counting.{event_at, taken_at, member_at, unclaimed_at, tally_of}
use Rattle.counter.specs.declared.Tally.{Tally}
use Rattle.counter.specs.Inner.Steps.{parent_region, in_parent, SomeRegion, head_at, step_at, Taken, Operands, Sound, AllSound}
use Rattle.counter.specs.Inner.Groups.{First, SetOf, Those, Candidates, Agree, Matched, MemberSets, outside, in_set, in_none, first_of, from_to, triple_at, triples_at, operand_at, all_at, any_at, parent_at, drawn_at, shape_at, member_by, member_in}
use Rattle.counter.specs.declared.steps.Shape.TheVariants.{Box}
use Rattle.counter.specs.declared.steps.Step.{Step}
use Rattle.counter.proofs.PositionLaws.{without-outline_tells}
use Rattle.counter.proofs.KindLaws.{on_scale_lem, position_tells}
use Rattle.counter.proofs.SoundLaws.{parent_is}
use Rattle.counter.proofs.StepLaws.{settled-done, bits-low}
use Rattle.counter.proofs.TallyLaws.{event-inside, with_taken, with_spoilt, tally-taken, tally-spoilt}
use Rattle.counter.proofs.SpanLaws.{span_range}
use Rattle.counter.proofs.SetLaws.{has_and, rest-is, no_bits_lem, settle-same, settle_other}

-- ---- flags

-- in a product only the case counts where the first holds
and_where : (a b c : Bool) → (a ≡ true → b ≡ c) → (a && b) ≡ (a && c)
and_where true b c h = h refl
and_where false b c h = refl

-- two numbers are the same or not
by_case : {P : Type 0} (k e : ℕ) → (k ≡ e → P) → ((k ≡ e → ⊥) → P) → P
by_case {P} k e same other = go (dec_lt k e) (dec_lt e k)
  where
    go : Dec (k < e) → Dec (e < k) → P
    go (yes l) d = other (λ q. omega arith)
    go (no l) (yes m) = other (λ q. omega arith)
    go (no l) (no m) = same (omega arith)

-- ---- events

-- the slice that the code takes is the event, of n values
module _ (n : ℕ) (group : List ℤ) (e : ℕ) (inside : e * n + n ≤ length group) where
  pub event-part : take (e * n + n - e * n) (drop (e * n) group) ≡ event_at n group e
  unfolding event_at
  event-part = part-whole group (e * n) n (omega arith)

  pub event-long : length (event_at n group e) ≡ n
  unfolding event_at
  event-long = let l = length_part group (e * n) n in omega arith

-- a word of a part is one of the list
word-part : (l : List ℤ) (start m i : ℕ) → i < m → word (part l start m) i ≡ word l (start + i)
unfolding word part
word-part l start m i h = get_or-take m (drop start l) i _ h ∙ get_or-drop start l i _

-- the events of a group are those of the list from the j-th on
group-event : (n : ℕ) (events : List ℤ) (j g e : ℕ) → e < g → event_at n (part events (j * n) (g * n)) e ≡ event_at n events (j + e)
unfolding event_at part
group-event n events j g e h =
    let b : (j + e) * n ≡ j * n + e * n = add-mul j e n in
    drop_of_take n (e * n) (g * n) (drop (j * n) events) (event-inside n e g (g * n) h (omega arith)) ∙ rw (drop-drop (e * n) (j * n) events, b)
  where
    drop_of_take : (n a m : ℕ) (l : List ℤ) → a + n ≤ m → take n (drop a (take m l)) ≡ take n (drop a l)
    drop_of_take n zero m l h = take-take n m l (omega arith)
    drop_of_take n (suc a) zero l h = absurd (omega arith)
    drop_of_take n (suc a) (suc m) [] h = refl
    drop_of_take n (suc a) (suc m) (x ∷ l) h = drop_of_take n a m l (omega arith)

-- an event that is taken has all values on the scale
taken-values : (event : List ℤ) → taken event ≡ true → Taken event
unfolding taken value_good
taken-values event h = record { on_scale = λ d l. on_scale_lem (word event d) (all-at (value_good event) (length event) h d l) }

-- ---- the first events that pass a test

module _ (test : ℕ → Bool) where
  pub first-none : SetOf (first_of test 0) 0
  unfolding first_of
  first-none = record { each = λ e h. no_bit e ∙ rw (le-ltb e 0 (omega arith)) }

  -- the next event, asked
  pub first_next : (e : ℕ) → e < 64 → {x : Bool} → x ≡ test e → {before after : ℕ} → SetOf (first_of test e) before
      → after ≡ cond x (with_bit before e) before → SetOf (first_of test (e + 1)) after
  unfolding first_of
  first_next e h {x} ex {before} s ea =
      record { each = λ k l. ap (λ (y : ℕ). has_bit y k) ea ∙ by_case k e (λ q. rw q same) (λ q. settle_other before e h x k q ∙ s.each k l ∙ other k q) }
    where
      same : has_bit (cond x (with_bit before e) before) e ≡ (ltb e (e + 1) && test e)
      same = settle-same before e h x ∙ rw (s.each e h, le-ltb e e (omega arith), lt-ltb e (e + 1) (omega arith), ex)

      other : (k : ℕ) → (k ≡ e → ⊥) → (ltb k e && test k) ≡ (ltb k (e + 1) && test k)
      other k q = go (dec_lt k e)
        where
          go : Dec (k < e) → (ltb k e && test k) ≡ (ltb k (e + 1) && test k)
          go (yes l) = rw (lt-ltb k e l, lt-ltb k (e + 1) (omega arith))
          go (no l) = rw (le-ltb k e (omega arith), le-ltb k (e + 1) (omega (arith, q)))

  -- a run of events that all pass
  pub first-from-to : (from to : ℕ) → from ≤ to → ((e : ℕ) → from ≤ e → e < to → test e ≡ true) → {before run : ℕ} → SetOf (first_of test from) before
      → SetOf (from_to from to) run → SetOf (first_of test to) (bit_or before run)
  unfolding first_of from_to
  first-from-to from to h pass {before} {run} s r =
      record { each = λ e l. has_or before run e ∙ rw (s.each e l, r.each e l) (go e (dec_lt e from) (dec_lt e to)) }
    where
      go : (e : ℕ) → Dec (e < from) → Dec (e < to) → ((ltb e from && test e) || (leb from e && ltb e to)) ≡ (ltb e to && test e)
      go e (yes l) d = rw (lt-ltb e from l, lt-leb from e l, lt-ltb e to (omega arith)) (or-false (test e))
      go e (no l) (yes m) = rw (le-ltb e from (omega arith), le-leb from e (omega arith), lt-ltb e to m, pass e (omega arith) m)
      go e (no l) (no m) = rw (le-ltb e from (omega arith), le-leb from e (omega arith), le-ltb e to (omega arith))

-- ---- the events that are taken

module _ (n : ℕ) (group : List ℤ) where
  -- an event is taken where no value is found spoilt
  -- where all values of some events are on the scale, each of them is taken
  pub all_taken : (from to : ℕ) → {values : List ℤ} → values ≡ part group (from * n) (to * n - from * n) → to * n ≤ length group → taken values ≡ true
      → (e : ℕ) → from ≤ e → e < to → taken_at n group e ≡ true
  unfolding taken_at taken value_good event_at
  all_taken from to {values} ev inside good e l u =
      all_of (value_good (event_at n group e)) (length (event_at n group e))
      (λ i k. ap on_scale (same i (below i k)) ∙ all-at (value_good values) (length values) good _ (there i (below i k)))
    where
      whole : e * n + n ≤ to * n
      whole = event-inside n e to (to * n) u (omega arith)

      later : from * n ≤ e * n
      later = mul-le-mul_right n l

      below : (i : ℕ) → i < length (event_at n group e) → i < n
      below i k = let q = event-long n group e (omega (arith, whole)) in omega arith

      there : (i : ℕ) → i < n → e * n + i - from * n < length values
      there i k = let q = ap length ev in let r = length_part group (from * n) (to * n - from * n) in omega (arith, whole, later)

      same : (i : ℕ) → i < n → word (event_at n group e) i ≡ word values (e * n + i - from * n)
      same i k =
          let q : from * n + (e * n + i - from * n) ≡ e * n + i = omega (arith, later) in
          word-part group (e * n) n i k
          ∙ sym (ap (λ (v : List ℤ). word v (e * n + i - from * n)) ev
          ∙ word-part group (from * n) (to * n - from * n) (e * n + i - from * n) (omega (arith, whole, later))
          ∙ ap (word group) q)

  -- the events taken can be asked
  pub candidates : (g : ℕ) {set : ℕ} → g ≤ 64 → g * n ≤ length group → SetOf (first_of (taken_at n group) g) set → Candidates n group g set
  unfolding first_of taken_at
  candidates g {set} few long s = record {
    few = few;
    whole = long;
    below = λ e h t. ltb-true e g (both e h t).0;
    taken = λ e h t. taken-values (event_at n group e) (both e h t).1;
  }
    where
      both : (e : ℕ) → e < 64 → has_bit set e ≡ true → (ltb e g ≡ true) × (taken (event_at n group e) ≡ true)
      both e h t = and_both (ltb e g) (taken (event_at n group e)) (sym (s.each e h) ∙ t)

-- ---- asking a set

-- tests that agree on the set give the same events of it
pub those_same : {among : ℕ} {f g : ℕ → Bool} {found : ℕ} → ((e : ℕ) → e < 64 → has_bit among e ≡ true → f e ≡ g e) → Those among f found → Those among g found
those_same {among} {f} {g} h t = record { each = λ e l. t.each e l ∙ and_where (has_bit among e) (f e) (g e) (h e l) }

-- those of a set that are in another
pub those_and : (among : ℕ) {f : ℕ → Bool} {found : ℕ} → SetOf f found → Those among f (bit_and among found)
those_and among {f} {found} s = record { each = λ e l. has_and among found e ∙ rw (s.each e l) }

-- one by one: what is found, and what is left to ask
pub record Asking (among : ℕ) (test : ℕ → Bool) (rest found : ℕ) : Type 0 where
  pub left : (e : ℕ) → e < 64 → has_bit rest e ≡ true → has_bit among e ≡ true
  pub each : (e : ℕ) → e < 64 → (has_bit found e || (has_bit rest e && test e)) ≡ (has_bit among e && test e)

module _ (among : ℕ) (test : ℕ → Bool) where
  pub asking_all : Asking among test among 0
  asking_all = record { left = λ e h t. t; each = λ e h. rw (no_bit e) }

  pub asking_done : {rest found : ℕ} → Asking among test rest found → rest ≤ 0 → Those among test found
  asking_done {rest} {found} a h = record { each = λ e l. sym (or-false (has_bit found e)) ∙ (rw (gone e) at (a.each e l)) }
    where
      gone : (e : ℕ) → has_bit rest e ≡ false
      gone e = let z : rest ≡ 0 = omega arith in rw z (no_bit e)

  -- the first of those that are left is asked, and is left no more
  module _ {rest found e : ℕ} (a : Asking among test rest found) (f : First 64 rest e) where
    pub asked : has_bit among e ≡ true
    asked = a.left e f.below f.there

    without : has_bit (bit_and rest (rest - 1)) e ≡ false
    without = rest-is f e ∙ rw (eq-eqb e e refl) (and-false (has_bit rest e))

    others : (k : ℕ) → (k ≡ e → ⊥) → has_bit (bit_and rest (rest - 1)) k ≡ has_bit rest k
    others k q = rest-is f k ∙ rw (ne_eqb k e q) (and-true (has_bit rest k))

    pub asking_next : {x : Bool} → x ≡ test e → {after : ℕ} → after ≡ cond x (with_bit found e) found → Asking among test (bit_and rest (rest - 1)) after
    asking_next {x} ex {after} ea = record {
      left = λ k m t. by_case k e (λ q. rw q asked) (λ q. a.left k m (sym (others k q) ∙ t));
      each = λ k m. by_case k e (λ q. rw q (here ∙ a.each e f.below)) (λ q. other k q ∙ a.each k m);
    }
      where
        here : (has_bit after e || (has_bit (bit_and rest (rest - 1)) e && test e)) ≡ (has_bit found e || (has_bit rest e && test e))
        here = rw (ea, settle-same found e f.below x, without, f.there, ex) (or-false (has_bit found e || test e))

        other : (k : ℕ) → (k ≡ e → ⊥)
            → (has_bit after k || (has_bit (bit_and rest (rest - 1)) k && test k)) ≡ (has_bit found k || (has_bit rest k && test k))
        other k q = rw (ea, settle_other found e f.below x k q, others k q)

-- ---- boxes, triple by triple

module _ (n : ℕ) (group body : List ℤ) where
  -- an event's value is in the range of a triple
  pub span_triple : (t : ℕ) {d : ℕ} → d ≡ number (word body (3 * t)) → {value min max : ℤ} (e : ℕ) → value ≡ word (event_at n group e) d
      → min ≡ word body (3 * t + 1) → max ≡ word body (3 * t + 2) → {span : ℕ} → pos span ≡ max -ℤ min
      → (le_z (pos 0) (value -ℤ min) && lt_z (value -ℤ min) (pos span)) ≡ triple_at n group body t e
  unfolding triple_at triple_in value_in
  span_triple t {d} ed {value} {min} {max} e ev em ex es = span_range value min max es ∙ rw (← ed, ← ev, ← em, ← ex)

  -- no triple asked, and one more
  pub triples_none : (among : ℕ) → Those among (triples_at n group body 0) among
  unfolding triples_at all
  triples_none among = record { each = λ e h. sym (and-true (has_bit among e)) }

  pub triples_next : (t : ℕ) {g among rest found : ℕ} → Candidates n group g among → Those among (triples_at n group body t) rest
      → SetOf (first_of (triple_at n group body t) g) found → Those among (triples_at n group body (suc t)) (bit_and rest found)
  unfolding triples_at triple_at first_of all
  triples_next t {g} {among} {rest} {found} c r s = record {
    each = λ e h. has_and rest found e
        ∙ ap₂ (λ (x y : Bool). x && y) (r.each e h) (s.each e h)
        ∙ and_assoc (has_bit among e) (all (triple_in (event_at n group e) body) t) (ltb e g && triple_in (event_at n group e) body t)
        ∙ and_where (has_bit among e) _ _ (λ m. rw (lt-ltb e g (c.below e h m)));
  }

  -- all triples are the box
  pub triples_all : {among found : ℕ} → Those among (triples_at n group body (length body / 3)) found → Those among (drawn_at Box n group body) found
  unfolding triples_at drawn_at box_in
  triples_all t = those_same (λ e h m. sym (without-outline_tells _).0) t

-- ---- combinations

module _ (sets : List ℕ) (body : List ℤ) where
  pub all_none : (among : ℕ) → Those among (all_at sets body 0) among
  unfolding all_at all
  all_none among = record { each = λ e h. sym (and-true (has_bit among e)) }

  pub all-next : (i : ℕ) {among rest operand : ℕ} → Those among (all_at sets body i) rest → SetOf (operand_at sets body i) operand
      → Those among (all_at sets body (i + 1)) (bit_and rest operand)
  unfolding all_at all
  all-next i {among} {rest} {operand} t s = record {
    each = λ e h. has_and rest operand e
        ∙ rw (t.each e h, s.each e h, add-one i) (and_assoc (has_bit among e) (all (λ k. operand_at sets body k e) i) (operand_at sets body i e));
  }

  pub any_none : SetOf (any_at sets body 0) 0
  unfolding any_at any
  any_none = record { each = λ e h. no_bit e }

  pub any_next : (i : ℕ) {found operand : ℕ} → SetOf (any_at sets body i) found → SetOf (operand_at sets body i) operand
      → SetOf (any_at sets body (i + 1)) (bit_or found operand)
  unfolding any_at any
  any_next i {found} {operand} t s = record { each = λ e h. has_or found operand e ∙ rw (t.each e h, s.each e h, add-one i) }

  -- where the sets agree with the bits, they answer as the definitions do
  module _ {among : ℕ} {bits : ℕ → ℕ} (a : Agree among sets bits) (o : Operands body) (e : ℕ) (h : e < 64) (t : has_bit among e ≡ true) where
    pub operand_same : (i : ℕ) → i < length body → operand_at sets body i e ≡ operand_in (bits e) body i
    unfolding operand_at operand_in
    operand_same i l = let r = o.region i l in rw (a.each e (number (word body i) / 2) h (omega arith) t)

    pub all-is : all_at sets body (length body) e ≡ all (operand_in (bits e) body) (length body)
    unfolding all_at
    all-is = all_same (λ k. operand_at sets body k e) (operand_in (bits e) body) (length body) operand_same

    pub any-is : any_at sets body (length body) e ≡ any (operand_in (bits e) body) (length body)
    unfolding any_at
    any-is = any_same (λ k. operand_at sets body k e) (operand_in (bits e) body) (length body) operand_same

-- ---- asking the step at a place

module _ {p : List ℤ} {n at : ℕ} (s : Sound p n at) (group : List ℤ) {taken : ℕ} {sets : List ℕ} {bits : ℕ → ℕ} (k : Matched taken sets bits)
    {parent : Option ℕ} (ep : parent ≡ parent_region (word p (at + 2))) {set : ℕ} (es : SetOf (parent_at sets taken parent) set) where
  -- the events to ask are those taken that are in the parent
  in_parent_lem : (e : ℕ) → e < 64 → has_bit (bit_and taken set) e ≡ (has_bit taken e && parent_in (bits e) (word p (at + 2)))
  in_parent_lem e h = has_and taken set e ∙ rw (es.each e h, (parent_is s (bits e)).0, ← ep) (go parent (rw ep (parent_is s (bits e)).1))
    where
      twice : (a b : Bool) → (a && (a && b)) ≡ (a && b)
      twice true b = refl
      twice false b = refl

      both : (a : Bool) → (a && a) ≡ (a && true)
      both true = refl
      both false = refl

      go : (q : Option ℕ) → SomeRegion q → (has_bit taken e && parent_at sets taken q e) ≡ (has_bit taken e && in_parent (bits e) q)
      go None l = both (has_bit taken e)
      go (Some r) l = rw (k.each e r h l) (twice (has_bit taken e) (has_bit (bits e) r))

  -- those of them in the shape are the members that the step makes
  pub step_those : {step : Step} → step ≡ step_at p at → {body : List ℤ} → body ≡ body_at p at → {found : ℕ}
      → Those (bit_and taken set) (shape_at step n group body bits) found → Those taken (member_by p n group at bits) found
  unfolding shape_at member_by step_in step_at
  step_those {step} e1 {body} e2 t = record {
    each = λ e h. t.each e h
        ∙ rw (in_parent_lem e h, e1, e2, (position_tells (kind_at p at) (head_at p at) (event_at n group e) (bits e) (body_at p at)).0)
        (and_assoc (has_bit taken e) (parent_in (bits e) (word p (at + 2))) _);
  }

  pub agree_among : Agree (bit_and taken set) sets bits
  agree_among = record {
    each = λ e q h l t. k.each e q h l ∙ rw (and_both (has_bit taken e) (parent_in (bits e) (word p (at + 2))) (sym (in_parent_lem e h) ∙ t)).0;
  }

-- a part of the events that can be asked
pub candidates_and : {n : ℕ} {group : List ℤ} {g taken : ℕ} (set : ℕ) → Candidates n group g taken → Candidates n group g (bit_and taken set)
candidates_and {n} {group} {g} {taken} set c = record {
  few = c.few;
  whole = c.whole;
  below = λ e h t. c.below e h (first e t);
  taken = λ e h t. c.taken e h (first e t);
}
  where
    first : (e : ℕ) → has_bit (bit_and taken set) e ≡ true → has_bit taken e ≡ true
    first e t = (and_both (has_bit taken e) (has_bit set e) (sym (has_and taken set e) ∙ t)).0

-- where no event is left, any test leaves none
pub those_none : {among : ℕ} {f : ℕ → Bool} → among ≡ 0 → Those among f 0
those_none {among} {f} z = record { each = λ e h. rw (z, no_bit e) }

-- ---- the sets after each step

-- some bits of each event are settled, the sets hold them, and the steps that are left settle the others
pub record Settling (p : List ℤ) (n : ℕ) (group : List ℤ) (taken left at : ℕ) (sets : List ℕ) : Type 0 where
  pub bits : ℕ → ℕ
  pub sound : AllSound left p n at
  pub long : length sets ≡ 64
  pub matched : Matched taken sets bits
  pub rest : (e : ℕ) → e < 64 → bits_of p (event_at n group e) ≡ settled left p (event_at n group e) (bits e) at

module _ (p : List ℤ) (n : ℕ) (group : List ℤ) (taken : ℕ) where
  pub settling_start : AllSound (step_count p) p n 2 → Settling p n group taken (step_count p) 2 (replicate 64 0)
  unfolding bits_of in_set
  settling_start s = record {
    bits = λ e. 0;
    sound = s;
    long = length-replicate {A = ℕ} 64 0;
    matched = record { each = λ e q h l. rw (get_or-replicate {A = ℕ} 64 q 0 0 l, no_bit e, no_bit q) (sym (and_right-false (has_bit taken e))) };
    rest = λ e h. refl;
  }

  module _ {left at : ℕ} {sets : List ℕ} (s : Settling p n group taken left at sets) where
    -- one event's bits after the step
    abbrev after : ℕ → ℕ
    after e = cond (member_by p n group at s.bits e) (with_bit (s.bits e) (region_at p at)) (s.bits e)

    pub settling_next : 0 < left → AllSound (left - 1) p n (next_at p at) → region_at p at < 64
        → {found : ℕ} → Those taken (member_by p n group at s.bits) found
        → Settling p n group taken (left - 1) (next_at p at) (set sets (region_at p at) (bit_or (get_or sets (region_at p at) 0) found))
    unfolding in_set settled member_by
    settling_next more later low {found} t = record {
      bits = after;
      sound = later;
      long = length-set sets (region_at p at) _ ∙ s.long;
      matched = record { each = λ e q h l. by_case q (region_at p at) (λ z. rw z (here e h)) (λ z. other e q h l z) };
      rest = λ e h. s.rest e h ∙ ap (λ (x : ℕ). settled x p (event_at n group e) (s.bits e) at) (one_less);
    }
      where
        region : ℕ
        region = region_at p at

        one_less : left ≡ suc (left - 1)
        one_less = omega arith

        test : ℕ → Bool
        test e = member_by p n group at s.bits e

        here : (e : ℕ) → e < 64
            → has_bit (get_or (set sets region (bit_or (get_or sets region 0) found)) region 0) e ≡ (has_bit taken e && has_bit (after e) region)
        here e h =
            ap (λ (x : ℕ). has_bit x e) (get_or-set_same sets region (bit_or (get_or sets region 0) found) 0 (let l = s.long in omega arith))
            ∙ has_or (get_or sets region 0) found e
            ∙ ap₂ (λ (x y : Bool). x || y) (s.matched.each e region h low) (t.each e h)
            ∙ sym (and-or_distrib_left (has_bit taken e) (has_bit (s.bits e) region) (test e))
            ∙ ap (λ (x : Bool). has_bit taken e && x) (sym (settle-same (s.bits e) region low (test e)))

        other : (e q : ℕ) → e < 64 → q < 64 → (q ≡ region → ⊥)
            → has_bit (get_or (set sets region (bit_or (get_or sets region 0) found)) q 0) e ≡ (has_bit taken e && has_bit (after e) q)
        other e q h l z =
            ap (λ (x : ℕ). has_bit x e) (get_or-set_other sets region q (bit_or (get_or sets region 0) found) 0 z)
            ∙ s.matched.each e q h l
            ∙ ap (λ (x : Bool). has_bit taken e && x) (sym (settle_other (s.bits e) region low (test e) q z))

    pub settling_done : left ≤ 0 → MemberSets p n group taken sets
    unfolding member_in in_set
    settling_done z = record {
      long = s.long;
      each = λ q l. record {
        each = λ e h. s.matched.each e q h l
            ∙ ap (λ (b : ℕ). has_bit taken e && has_bit b q) (sym (s.rest e h ∙ settled-done left p (event_at n group e) 0 (s.bits e) at z));
      };
    }

-- ---- the sets that no event is in

-- event e is in none of no sets, and of one set more
pub in_none_start : (sets : List ℕ) (among : ℕ) → Those among (in_none sets 0) among
unfolding in_none any
in_none_start sets among = record { each = λ e h. sym (and-true (has_bit among e)) }

pub in_none-next : (sets : List ℕ) (m : ℕ) {among rest other : ℕ} → Those among (in_none sets m) rest → SetOf (outside (get_or sets m 0)) other
    → Those among (in_none sets (m + 1)) (bit_and rest other)
unfolding in_none outside in_set any
in_none-next sets m {among} {rest} {other} t s = record {
  each = λ e h. has_and rest other e
      ∙ rw (t.each e h, s.each e h, add-one m) (and_assoc (has_bit among e) _ _ ∙ ap (λ (x : Bool). has_bit among e && x) (neither (any (in_set sets e) m) _));
}
  where
    neither : (a b : Bool) → (not a && not b) ≡ not (a || b)
    neither true b = refl
    neither false b = refl

-- ---- one event of a group more in the tally

-- the slice that the code takes is the group
pub group-is : (n : ℕ) (events : List ℤ) (j g : ℕ) → (j + g) * n ≤ length events
    → take (j * n + g * n - j * n) (drop (j * n) events) ≡ part events (j * n) (g * n)
group-is n events j g h = let a = add-mul j g n in part-whole events (j * n) (g * n) (omega arith)

-- event e of the group is event j + e of the list
module _ (p events : List ℤ) {n : ℕ} (en : n ≡ width p) (j g : ℕ) {group : List ℤ} (eg : group ≡ part events (j * n) (g * n))
    {taken : ℕ} (st : SetOf (first_of (taken_at n group) g) taken) (e : ℕ) (h : e < 64) (l : e < g) where
  same-event : event_at n group e ≡ event_at (width p) events (j + e)
  same-event = ap (λ (x : List ℤ). event_at n x e) eg ∙ group-event n events j g e l ∙ ap (λ (x : ℕ). event_at x events (j + e)) en

  taken_is : has_bit taken e ≡ taken_at (width p) events (j + e)
  unfolding first_of taken_at
  taken_is = st.each e h ∙ rw (lt-ltb e g l, same-event)

  member_is : {sets : List ℕ} → MemberSets p n group taken sets → has_bit taken e ≡ true → (r : ℕ) → r < 64 → member_at p events r (j + e) ≡ in_set sets e r
  unfolding member_at members member_in in_set taken_at
  member_is s f r k = rw (sym taken_is ∙ f, ← same-event) (sym ((s.each r k).each e h ∙ rw f))

  -- where the plan passes and m is the number of its steps, an event that is taken is unclaimed where it is in none of m sets
  unclaimed-is : check_of p ≡ passed → {m : ℕ} → m ≡ step_count p → m ≤ 64 → {sets : List ℕ} → MemberSets p n group taken sets
      → {none : ℕ} → Those taken (in_none sets m) none → has_bit taken e ≡ true → unclaimed_at p events (j + e) ≡ has_bit none e
  unfolding unclaimed_at unclaimed members in_none in_set member_in taken_at
  unclaimed-is ok {m} em most {sets} s {none} t f =
      rw (sym taken_is ∙ f, ← same-event)
      (no_bits_lem m bits (rw em (bits-low p (event_at n group e) ok)) ∙ ap not (any_same _ _ m same) ∙ sym (t.each e h ∙ rw f))
    where
      bits : ℕ
      bits = bits_of p (event_at n group e)

      same : (q : ℕ) → q < m → has_bit bits q ≡ in_set sets e q
      same q k = sym ((s.each q (omega arith)).each e h ∙ rw f)

  next : suc (j + e) ≡ j + (e + 1)
  next = omega arith

  module _ {t u : Tally} (et : t ≡ tally_of p events (j + e)) where
    pub one-spoilt : has_bit taken e ≡ false → u ≡ with_spoilt t → u ≡ tally_of p events (j + (e + 1))
    one-spoilt f eu = eu ∙ ap with_spoilt et ∙ sym (tally-spoilt p events (j + e) (sym taken_is ∙ f)) ∙ ap (λ (k : ℕ). tally_of p events k) next

    pub one-taken : check_of p ≡ passed → {m : ℕ} → m ≡ step_count p → m ≤ 64 → {sets : List ℕ} → MemberSets p n group taken sets
        → {none : ℕ} → Those taken (in_none sets m) none → has_bit taken e ≡ true → u ≡ with_taken t (in_set sets e) (has_bit none e)
        → u ≡ tally_of p events (j + (e + 1))
    one-taken ok em most {sets} s {none} o f eu =
        eu ∙ ap (λ (x : Tally). with_taken x (in_set sets e) (has_bit none e)) et
        ∙ sym (tally-taken p events (j + e) (sym taken_is ∙ f) (member_is s f) (unclaimed-is ok em most s o f)) ∙ ap (λ (k : ℕ). tally_of p events k) next

-- no event is in a set from the number of steps on
pub sets-low : (p : List ℤ) (n : ℕ) (group : List ℤ) {taken : ℕ} {sets : List ℕ} → check_of p ≡ passed → MemberSets p n group taken sets
    → (e : ℕ) → e < 64 → (r : ℕ) → step_count p ≤ r → r < 64 → in_set sets e r ≡ false
unfolding member_in in_set has_bit
sets-low p n group {taken} ok s e h r l k =
    let b = lt_of_lt_of_le (bits-low p (event_at n group e) ok) (pow_mono l) in
    (s.each r k).each e h ∙ rw (div-eq_of_lt b) (and_right-false (has_bit taken e))
