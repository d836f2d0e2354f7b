-- Laws of counting the lists of an input.
use mathlib.Core.Path.{◌≡◌, refl, sym, ◌∙◌, ap}
use mathlib.Core.Bool.{true}
use mathlib.Core.Logic.{◌⊎◌, inl, inr}
use mathlib.Core.List.{List, [], ◌∷◌, ◌++◌, map, map-append, flat_map, append-nil, append_assoc}
use Prim.Native.Nat.{ℕ, ◌+◌, ◌*◌, ◌<◌, ◌≤◌}
use native.Mathlib.Nat.{div-le_self}
use native.Mathlib.Omega.{arith}
use lib.IntN.{ℤ}
use lib.ListN.{length, take, drop, length-append, length-drop, length-map}
use lib.Seq.{take-append_seam}
use Rattle.plans.specs.Form.{width}
use Rattle.text.specs.Bytes.{every}
use Rattle.text.specs.Numbers.{clamp}
use Rattle.text.specs.Lines.{lines}
use Rattle.text.specs.Output.{over}
use Rattle.text.specs.Inner.Writing.{over_from}
use Rattle.text.proofs.TestLaws.{and_left, and_right, lt_or_ge}
use Rattle.text.proofs.LinesLaws.{find_end, find_inside, lines_end}
use Rattle.text.proofs.OutputLaws.{over-fits}
use Rattle.text.proofs.WritingLaws.{over-from}
use Rattle.counter.specs.declared.Tally.{Tally}
use Rattle.counter.specs.Counting.{no_tally, count_of}
use Rattle.tallies.specs.Sums.{together, total, wrapped}
use Rattle.tallies.specs.Inner.Bounds.{Within}
use Rattle.tallies.proofs.SumLaws.{within_none, within_more, within-together, wrapped-small, total-more}
use Rattle.tallies.proofs.SumTheorems.{count-within}
use Rattle.events.specs.Parting.{table_end, table_part}
use Rattle.events.specs.Listing.{is_event, ragged_line, line_values, values, list_lines}
use Rattle.events.specs.Inner.Answers.{values_kept}
use Rattle.events.proofs.ListingLaws.{values-kept}
use Rattle.events.proofs.EventTheorems.{lines-bytes}
use Rattle.events.proofs.ListsLaws.{unlines-length, Opens, opens-first, opens-next, lists_from, lists-first, events_at, lists-next, lists-few, lists-good, AllEvents}
use Rattle.events.proofs.ListsLaws.{end_inside}
use Rattle.events.proofs.CountedLaws.{count_clamped}
use Rattle.sheet.specs.Inner.Columns.{numbers_of}
use Rattle.sheet.specs.Inner.Counts.{SomeEvents, tallies_of, CountedLists}
use Rattle.sheet.proofs.ColumnLaws.{numbers-length}

-- ---- one list

module _ (n : ℕ) (part : List ℕ) (short : length part ≤ 65535) (good : every (is_event n) (lines part) ≡ true) where
  kept_are : values_kept part ≡ map clamp (values part)
  kept_are = values-kept n part good

  values-few : length (values part) ≤ 32768
  unfolding values
  values-few = omega (arith, lines-bytes n (lines part) good, unlines-length part)

  pub kept-few : length (values_kept part) ≤ 32768
  kept-few = rw (kept_are, length-map (values part) clamp) values-few

  module _ (p d x : List ℤ) (room : length d ≡ 32768) (w : x ≡ over (values_kept part) d) where
    -- the values that were put are counted
    pub list_counted : (m : ℕ) → m ≡ length (values_kept part) → count_of p (take m x) ≡ count_of p (values part)
    list_counted m e =
        let v = values_kept part in
        let f : take m x ≡ v = rw (e, w, over-fits v d (omega (arith, kept-few, room))) (take-append_seam v (drop (length v) d)) in
        rw (f, kept_are) (count_clamped p (values part))

  pub list-most : (p : List ℤ) → Within 32768 (count_of p (values part)).tally
  list-most p = within_more (omega (arith, div-le_self (length (values part)) (width p), values-few)) (count-within p (values part))

-- ---- the tallies of lists

listed-values : (p : List ℤ) (rest : List ℕ)
    → (count_of p (values (table_part rest))).tally ≡ (count_of p (flat_map line_values (lines (table_part rest)))).tally
unfolding values
listed-values p rest = refl

tallies-more : (p : List ℤ) (lists : List (List (List ℕ))) (ls : List (List ℕ))
    → tallies_of p (lists ++ (ls ∷ [])) ≡ tallies_of p lists ++ ((count_of p (flat_map line_values ls)).tally ∷ [])
unfolding tallies_of
tallies-more p lists ls = map-append _ lists (ls ∷ [])

numbers_more : (ts : List Tally) (t : Tally) → flat_map numbers_of (ts ++ (t ∷ [])) ≡ flat_map numbers_of ts ++ numbers_of t
unfolding flat_map
numbers_more [] t = append-nil (numbers_of t)
numbers_more (u ∷ ts) t = rw (numbers_more ts t) (sym (append_assoc (numbers_of u) (flat_map numbers_of ts) (numbers_of t)))

-- ---- the lists one behind the other

-- the lists before place `at` are counted: k of them, t the sum of their tallies, and their numbers are written over d, which became x
pub record Done (n : ℕ) (p : List ℤ) (s d : List ℕ) (at k : ℕ) (t : Tally) (x : List ℕ) : Type 0 where
  pub opens : Opens s at
  pub near : at ≤ length s + 7
  pub lists : List (List (List ℕ))
  pub count : length lists ≡ k
  pub all : list_lines s ≡ lists ++ lists_from s at
  pub good : AllEvents n (lists_from s at)
  pub sum_is : t ≡ total (tallies_of p lists)
  pub within : Within (32768 * k) t
  pub written : x ≡ over (flat_map numbers_of (tallies_of p lists)) d

module _ (n : ℕ) (p : List ℤ) (s d : List ℕ) (short : length s ≤ 65536) where
  pub done_none : ragged_line true true n s ≡ 0 → Done n p s d (table_end s) 0 no_tally d
  unfolding tallies_of total over flat_map
  done_none z =
      record {
        opens = opens-first s;
        near = omega (arith, end_inside s);
        lists = [];
        count = refl;
        all = lists-first s;
        good = rw (lists-first s) at (lists-good n s z);
        sum_is = refl;
        within = within_none;
        written = refl;
      }

  module _ (at k : ℕ) {t : Tally} {x : List ℕ} (w : Done n p s d at k t x) where
    -- there is one list more
    module _ (l : at < length s) where
      next-is : lists_from s at ≡ lines (table_part (drop (events_at s at) s)) ∷ lists_from s (events_at s at + table_end (drop (events_at s at) s))
      next-is = lists-next s at l w.opens

      next-good : (every (is_event n) (lines (table_part (drop (events_at s at) s))) ≡ true)
          × AllEvents n (lists_from s (events_at s at + table_end (drop (events_at s at) s)))
      next-good =
          let first = lines (table_part (drop (events_at s at) s)) in
          let others = lists_from s (events_at s at + table_end (drop (events_at s at) s)) in
          let g : AllEvents n (first ∷ others) = rw next-is at w.good in (
            and_left (every (is_event n) first) (every (every (is_event n)) others) g,
            and_right (every (is_event n) first) (every (every (is_event n)) others) g,
          )

      pub events-near : events_at s at ≤ length s + 7
      events-near = go (lt_or_ge (length s) (at + 7))
        where
          go : (length s < at + 7) ⊎ (at + 7 ≤ length s) → events_at s at ≤ length s + 7
          go (inl h) = omega (arith, find_end s (at + 7) 10 (omega arith))
          go (inr h) = omega (arith, find_inside s (at + 7) 10 h)

      pub list-good : {part : List ℕ} → part ≡ table_part (drop (events_at s at) s) → SomeEvents part
      list-good e = (n, rw e next-good.0)

      pub lists-room : k ≤ 9361
      lists-room =
          omega (
            arith,
            lists-few s,
            ap length w.all,
            length-append w.lists (lists_from s at),
            w.count,
            ap length next-is,
          )

      pub done_more : {tally next : Tally} → tally ≡ (count_of p (values (table_part (drop (events_at s at) s)))).tally → Within 32768 tally
          → next ≡ wrapped (together t tally)
          → {y : List ℕ} → y ≡ over_from (k * 67) (numbers_of tally) x → {begin end : ℕ} → begin ≡ events_at s at → end ≡ table_end (drop (events_at s at) s)
          → Done n p s d (begin + end) (k + 1) next y
      done_more {tally} {next} e m f {y} g {begin} {end} b h =
          let rest = drop (events_at s at) s in
          let ls = lines (table_part rest) in
          let i : tally ≡ (count_of p (flat_map line_values ls)).tally = e ∙ listed-values p rest in
          let v = within-together w.within m in
          let u : next ≡ together t tally = f ∙ wrapped-small v (omega (arith, lists-room)) in
          let j : begin + end ≡ events_at s at + table_end rest = omega (arith, b, h) in
          let most : 32768 * k + 32768 ≤ 32768 * (k + 1) = omega arith in
          let long : length (flat_map numbers_of (tallies_of p w.lists)) ≡ k * 67 = numbers-length p w.lists ∙ rw w.count in
          rw j
          (record {
            opens = opens-next s at;
            near = omega (arith, end_inside rest, length-drop (events_at s at) s, events-near);
            lists = w.lists ++ (ls ∷ []);
            count = simp length-append (omega (arith, w.count));
            all = w.all ∙ rw next-is (sym (append_assoc w.lists (ls ∷ []) (lists_from s (events_at s at + table_end rest))));
            good = next-good.1;
            sum_is = u ∙ rw (tallies-more p w.lists ls, total-more, ← i, ← w.sum_is);
            within = rw u (within_more most v);
            written =
                over-from (flat_map numbers_of (tallies_of p w.lists)) d x y (numbers_of tally) (k * 67) long w.written g
                ∙ rw (tallies-more p w.lists ls, numbers_more, ← i);
          })

    module _ (l : length s ≤ at) where
      rest-none : lists_from s at ≡ []
      rest-none = rw (lines_end s at l)

      all_done : list_lines s ≡ w.lists
      all_done = w.all ∙ rw rest-none (append-nil w.lists)

      -- all are
      pub all-counted : CountedLists p s d (record { lists = k; total = t }) x
      all-counted =
          record {
            lists_are = sym (ap length all_done ∙ w.count);
            total_is = rw all_done w.sum_is;
            total_most = within_more (omega (arith, lists-few s, ap length all_done, w.count)) w.within;
            written = rw all_done w.written;
          }
