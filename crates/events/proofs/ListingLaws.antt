-- Laws of specs/Listing.
use mathlib.Core.Path.{◌≡◌, refl, sym, ◌∙◌, ap, ap₂}
use mathlib.Core.Bool.{Bool, true, false, not, cond, ◌&&◌, ◌||◌}
use mathlib.Core.Logic.{⊎_elim}
use mathlib.Core.List.{List, [], ◌∷◌, ◌++◌, map, map-append, flat_map}
use Prim.Native.Nat.{ℕ, zero, suc, ◌+◌, ◌-◌, ◌≤◌, ◌<◌}
use native.Mathlib.Nat.{zero-add}
use native.Mathlib.Omega.{arith}
use lib.Dec.{ltb, eqb}
use lib.IntN.{ℤ, pos}
use lib.ListN.{length, get_or, set, take, drop, length-append, length-drop, length-map, get_or-map}
use lib.Seq.{take_all, length-take-le}
use borrow.Author.Tests.{lt-ltb, le-ltb, eq-eqb, ne_eqb}
use Rattle.std.proofs.Common.{Option, Some, None, unwrap_or, add-zero}
use Rattle.std.specs.Bool.{then_some}
use Rattle.std.specs.List.{list_all, range_with_len}
use Rattle.text.specs.Bytes.{every}
use Rattle.text.specs.Inner.Counts.{occurrences}
use Rattle.text.specs.Numbers.{is_number, number_value, clamp}
use Rattle.text.specs.Inner.Kept.{kept, read_number}
use Rattle.text.specs.Lines.{fields, lines, ends_in_lf}
use Rattle.text.specs.Inner.Places.{find_from, line_from}
use Rattle.text.specs.Output.{over}
use Rattle.text.specs.Inner.Writing.{over_from}
use Rattle.text.proofs.TestLaws.{and_left, and_right, and_false, lt_or_ge}
use Rattle.text.proofs.NumbersLaws.{read-value}
use Rattle.text.proofs.OutputLaws.{over-take}
use Rattle.text.proofs.LinesLaws.{find_from_lem, find_inside, lines_cut, lines_end, line-length}
use Rattle.events.proofs.PartingLaws.{lines_le}
use Rattle.text.proofs.TextTheorems.{fields-count}
use Rattle.events.specs.Listing.{Line, columns, opening, event, opens, read_lines, is_event, is_good, good_lines, bad_line, line_values, values}
use Rattle.events.specs.Inner.Answers.{above_zero, line_kept, values_kept}
use Rattle.text.proofs.WritingLaws.{over-from, take_more, drop_more}

-- ── A number counted from 1, where 0 stands for none ──

pub above-some : (n : ℕ) → 0 < n → above_zero n ≡ Some n
above-some zero h = absurd (omega arith)
above-some (suc n) h = refl

pub above-none : (n : ℕ) → above_zero n ≡ None → n ≡ 0
above-none zero e = refl
above-none (suc n) e = absurd cc

pub above-is : (n : ℕ) {k : ℕ} → above_zero n ≡ Some k → (n ≡ k) × (0 < n)
above-is zero e = absurd cc
above-is (suc n) e = (cc, omega arith)

-- of k lines the last, where it is without LF
pub last-open : (ended : Bool) (k : ℕ) → then_some (ltb 0 k && not ended) k ≡ above_zero (cond ended 0 k)
last-open true k = rw (and_false (ltb 0 k))
last-open false zero = refl
last-open false (suc k) = rw (lt-ltb 0 (suc k) (omega arith))

-- ── An event ──

-- f at the places of a list
pub every-placed : {A : Type 0} (f : A → Bool) (d : A) (s : List A) → list_all (λ k. f (get_or s k d)) (range_with_len 0 (length s)) ≡ every f s
every-placed {A = A} f d s = go 0 s (λ i. rw zero-add)
  where
    shift : (a i : ℕ) → a + suc i ≡ a + 1 + i
    shift a i = omega arith

    go : (a : ℕ) (r : List A) → ((i : ℕ) → get_or r i d ≡ get_or s (a + i) d) → list_all (λ k. f (get_or s k d)) (range_with_len a (length r)) ≡ every f r
    go a [] h = refl
    go a (x ∷ r) h =
        let e : get_or s a d ≡ x = sym (h 0 ∙ rw (add-zero a)) in
        rw e (ap (λ t. f x && t) (go (a + 1) r (λ i. h (suc i) ∙ rw (shift a i))))

module _ (n : ℕ) (l : List ℕ) {m : ℕ} (c : m ≡ length (fields l)) where
  pub event_miscounted : (m ≡ n → ⊥) → eqb m n ≡ is_event n l
  unfolding is_event
  event_miscounted h = let f : eqb m n ≡ false = ne_eqb m n h in f ∙ rw (← c, f)

  pub event-counted : m ≡ n → list_all (λ k. is_number (get_or (fields l) k [])) (range_with_len 0 n) ≡ is_event n l
  unfolding is_event
  event-counted h =
      let e : length (fields l) ≡ n = sym c ∙ h in
      rw (← e, eq-eqb (length (fields l)) (length (fields l)) refl) (every-placed is_number [] (fields l))

-- ── Lines as they are read ──

pub read_length : (several headed : Bool) (ls : List (List ℕ)) → length (read_lines several headed ls) ≡ length ls
read_length several headed [] = refl
read_length several true (l ∷ ls) = ap suc (read_length several false ls)
read_length several false (l ∷ ls) = go (opens several l) (read_length several true ls) (read_length several false ls)
  where
    go : (b : Bool) → length (read_lines several true ls) ≡ length ls → length (read_lines several false ls) ≡ length ls
        → length (cond b (opening ∷ read_lines several true ls) (event l ∷ read_lines several false ls)) ≡ suc (length ls)
    go true e f = ap suc e
    go false e f = ap suc f

-- one line, as it is read
abbrev pub read_as : Bool → Bool → List ℕ → Line
read_as several true l = columns l
read_as several false l = cond (opens several l) opening (event l)

-- whether a column line follows it
abbrev pub heads_next : Bool → Bool → List ℕ → Bool
heads_next several headed l = not headed && opens several l

pub read_one : (several headed : Bool) (l : List ℕ) (ls : List (List ℕ))
    → read_lines several headed (l ∷ ls) ≡ read_as several headed l ∷ read_lines several (heads_next several headed l) ls
read_one several true l ls = refl
read_one several false l ls = go (opens several l)
  where
    go : (b : Bool) → cond b (opening ∷ read_lines several true ls) (event l ∷ read_lines several false ls) ≡ cond b opening (event l) ∷ read_lines several b ls
    go true = refl
    go false = refl

-- a line that is not good
abbrev pub is_bad : ℕ → Line → Bool
is_bad n line = not (is_good n line)

pub bad-read : (several headed : Bool) (n : ℕ) (l : List ℕ)
    → (not (headed || heads_next several headed l) && not (is_event n l)) ≡ is_bad n (read_as several headed l)
bad-read several true n l = refl
bad-read several false n l = go (opens several l)
  where
    go : (b : Bool) → (not b && not (is_event n l)) ≡ is_bad n (cond b opening (event l))
    go true = refl
    go false = refl

-- ── The lowest bad line ──

-- the k lines of s before place a are good, and the next is read as a column line or not
pub record Read (several headed : Bool) (n : ℕ) (s : List ℕ) (a k : ℕ) (next : Bool) : Type 0 where
  pub below : k ≤ a
  pub inside : a ≤ length s + 1
  pub good : good_lines n (read_lines several headed (lines s)) ≡ k + good_lines n (read_lines several next (lines (drop a s)))
  pub count : length (lines s) ≡ k + length (lines (drop a s))

module _ (several headed : Bool) (n : ℕ) (s : List ℕ) where
  pub read_none : Read several headed n s 0 0 headed
  read_none = record { below = omega arith; inside = omega arith; good = omega arith; count = omega arith }

  module _ (a k : ℕ) (next : Bool) (p : Read several headed n s a k next) where
    module _ (l : a < length s) where
      first_read : read_lines several next (lines (drop a s))
          ≡ read_as several next (line_from s a) ∷ read_lines several (heads_next several next (line_from s a)) (lines (drop (find_from s a 10 + 1) s))
      first_read = ap (read_lines several next) (lines_cut s a l) ∙ read_one several next (line_from s a) (lines (drop (find_from s a 10 + 1) s))

      pub read_more : (e : ℕ) → e ≡ find_from s a 10 → is_bad n (read_as several next (line_from s a)) ≡ false
          → Read several headed n s (e + 1) (k + 1) (heads_next several next (line_from s a))
      unfolding good_lines
      read_more e at h =
          let i : find_from s a 10 ≤ length s = find_inside s a 10 (omega arith) in
          record {
            below = omega (arith, p.below, find_from_lem s a 10);
            inside = omega arith;
            good = p.good ∙ rw (at, first_read, h) (omega arith);
            count = p.count ∙ rw (at, lines_cut s a l) (omega arith);
          }

      pub bad-found : is_bad n (read_as several next (line_from s a)) ≡ true → Some (k + 1) ≡ above_zero (bad_line several headed n s)
      unfolding bad_line good_lines
      bad-found h =
          let f : good_lines n (read_lines several headed (lines s)) ≡ k = p.good ∙ rw (first_read, h) (omega arith) in
          let c : length (lines (drop a s)) ≡ suc (length (lines (drop (find_from s a 10 + 1) s))) = ap length (lines_cut s a l) in
          let e : bad_line several headed n s ≡ k + 1 = rw (f, lt-ltb k (length (lines s)) (omega (arith, p.count))) in
          rw e (sym (above-some (k + 1) (omega arith)))

    module _ (l : length s ≤ a) where
      no_bad : bad_line several headed n s ≡ cond (ends_in_lf s) 0 k
      unfolding bad_line good_lines
      no_bad =
          let f : good_lines n (read_lines several headed (lines s)) ≡ k = p.good ∙ rw (lines_end s a l) (omega arith) in
          let m : length (lines s) ≡ k = p.count ∙ rw (lines_end s a l) (omega arith) in
          rw (f, m, le-ltb k k (omega arith))

      -- the last line, where it is without LF
      pub bad-after : then_some (ltb 0 k && not (ends_in_lf s)) k ≡ above_zero (bad_line several headed n s)
      bad-after = rw no_bad (last-open (ends_in_lf s) k)

  -- it is a number of a line
  pub bad_line_le : bad_line several headed n s ≤ length s
  unfolding bad_line
  bad_line_le = omega (arith, go (good_lines n (read_lines several headed (lines s))) (length (lines s)) (ends_in_lf s), lines_le s)
    where
      go : (g m : ℕ) (b : Bool) → cond (ltb g m) (g + 1) (cond b 0 m) ≤ m
      go g m b = ⊎_elim (λ (l : g < m). rw (lt-ltb g m l) (omega arith)) (λ (l : m ≤ g). rw (le-ltb g m l) (late m b)) (lt_or_ge g m)
        where
          late : (m : ℕ) (b : Bool) → cond b 0 m ≤ m
          late m true = omega arith
          late m false = omega arith

-- ── Values ──

pub line_values-length : (l : List ℕ) → length (line_values l) ≡ length (fields l)
unfolding line_values
line_values-length l = length-map (fields l) _

-- what is kept of an event's fields is what is kept of its values
fields-kept : (fs : List (List ℕ)) → every is_number fs ≡ true → map (λ f. kept (read_number f)) fs ≡ map clamp (map number_value fs)
fields-kept [] e = refl
fields-kept (f ∷ fs) e =
    ap₂ ◌∷◌ (ap kept (read-value f (and_left (is_number f) (every is_number fs) e))) (fields-kept fs (and_right (is_number f) (every is_number fs) e))

line_kept_lem : (n : ℕ) (l : List ℕ) → is_event n l ≡ true → line_kept l ≡ map clamp (line_values l)
unfolding line_kept line_values is_event
line_kept_lem n l e = fields-kept (fields l) (and_right (eqb (length (fields l)) n) (every is_number (fields l)) e)

lines-kept : (n : ℕ) (ls : List (List ℕ)) → every (is_event n) ls ≡ true → flat_map line_kept ls ≡ map clamp (flat_map line_values ls)
unfolding flat_map
lines-kept n [] e = refl
lines-kept n (l ∷ ls) e =
    ap₂ ◌++◌ (line_kept_lem n l (and_left (is_event n l) (every (is_event n) ls) e)) (lines-kept n ls (and_right (is_event n l) (every (is_event n) ls) e))
    ∙ sym (map-append clamp (line_values l) (flat_map line_values ls))

-- where every line is an event, the values kept are what is kept of the values
pub values-kept : (n : ℕ) (s : List ℕ) → every (is_event n) (lines s) ≡ true → values_kept s ≡ map clamp (values s)
unfolding values_kept values
values-kept n s e = lines-kept n (lines s) e

-- ── Values written ──

pub line_kept-length : (l : List ℕ) → length (line_kept l) ≡ length (fields l)
unfolding line_kept
line_kept-length l = length-map (fields l) _

occurrences_le : (c : ℕ) (s : List ℕ) → occurrences c s ≤ length s
occurrences_le c [] = omega arith
occurrences_le c (x ∷ s) = go (eqb x c) (occurrences_le c s)
  where
    go : (b : Bool) → occurrences c s ≤ length s → cond b (suc (occurrences c s)) (occurrences c s) ≤ suc (length s)
    go true h = omega arith
    go false h = omega arith

pub line_kept_le : (l : List ℕ) → length (line_kept l) ≤ length l + 1
line_kept_le l = omega (arith, line_kept-length l, fields-count l, occurrences_le 9 l)

value-at : (l : List ℕ) (k : ℕ) → get_or (line_kept l) k (kept (read_number [])) ≡ kept (read_number (get_or (fields l) k []))
unfolding line_kept
value-at l k = get_or-map (λ (f : List ℕ). kept (read_number f)) (fields l) k []

kept_is : (o : Option ℤ) → unwrap_or o (pos 0) ≡ kept o
kept_is None = refl
kept_is (Some v) = refl

-- one value more of a line is written
pub line-more : (l : List ℕ) (d : List ℤ) (k : ℕ) → k < length (fields l)
    → set (over (take k (line_kept l)) d) k (unwrap_or (read_number (get_or (fields l) k [])) (pos 0)) ≡ over (take (k + 1) (line_kept l)) d
line-more l d k h =
    ap (set (over (take k (line_kept l)) d) k) (kept_is (read_number (get_or (fields l) k [])) ∙ sym (value-at l k))
    ∙ over-take (line_kept l) d k (kept (read_number [])) (omega (arith, line_kept-length l))

-- the values of the lines from place a on
abbrev pub kept_from : List ℕ → ℕ → List ℤ
kept_from s a = flat_map line_kept (lines (drop a s))

pub kept-cut : (s : List ℕ) (a : ℕ) → a < length s → kept_from s a ≡ line_kept (line_from s a) ++ kept_from s (find_from s a 10 + 1)
unfolding flat_map
kept-cut s a l = rw (lines_cut s a l)

pub kept_end : (s : List ℕ) (a : ℕ) → length s ≤ a → kept_from s a ≡ []
unfolding flat_map
kept_end s a l = rw (lines_end s a l)

-- the m values of the lines before place a are written over d
pub record Filled (s : List ℕ) (d : List ℤ) (a m : ℕ) (x : List ℤ) : Type 0 where
  pub few : m ≤ a
  pub inside : a ≤ length s + 1
  pub below : m ≤ length (values_kept s)
  pub rest : drop m (values_kept s) ≡ kept_from s a
  pub written : x ≡ over (take m (values_kept s)) d

module _ (s : List ℕ) (d : List ℤ) where
  pub filled_none : Filled s d 0 0 d
  unfolding values_kept over
  filled_none = record { few = omega arith; inside = omega arith; below = omega arith; rest = refl; written = refl }

  module _ (a m : ℕ) {x : List ℤ} (p : Filled s d a m x) where
    module _ (l : a < length s) {c : ℕ} (f : c ≡ length (line_kept (line_from s a))) where
      pub few_more : m + c ≤ find_from s a 10 + 1
      few_more = omega (arith, p.few, line_kept_le (line_from s a), line-length s a l)

      pub filled_more : (e : ℕ) → e ≡ find_from s a 10 → (y : List ℤ) → y ≡ over_from m (line_kept (line_from s a)) x → Filled s d (e + 1) (m + c) y
      filled_more e at y w =
          let v = line_kept (line_from s a) in
          let q = p.rest ∙ kept-cut s a l in
          let k : length (values_kept s) - m ≡ length v + length (kept_from s (find_from s a 10 + 1)) =
          sym (length-drop m (values_kept s)) ∙ ap length q ∙ length-append v (kept_from s (find_from s a 10 + 1)) in
          record {
            few = omega (arith, few_more);
            inside = omega (arith, find_inside s a 10 (omega arith));
            below = omega (arith, p.below);
            rest = rw at (drop_more (values_kept s) v (kept_from s (find_from s a 10 + 1)) m c f q);
            written =
                over-from (take m (values_kept s)) d x y v m (length-take-le m (values_kept s) p.below) p.written w
                ∙ ap (λ (z : List ℤ). over z d) (sym (take_more (values_kept s) v (kept_from s (find_from s a 10 + 1)) m c f q));
          }

    module _ (l : length s ≤ a) where
      pub filled_all : m ≡ length (values_kept s)
      filled_all = let k : length (values_kept s) - m ≡ 0 = sym (length-drop m (values_kept s)) ∙ ap length (p.rest ∙ kept_end s a l) in omega (arith, p.below)

      pub all_written : x ≡ over (values_kept s) d
      all_written = p.written ∙ rw (take_all m (values_kept s) (omega (arith, filled_all)))
