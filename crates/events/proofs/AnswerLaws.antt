-- Laws of the lowest bad line and of what `read_events` answers, from what the input's parts show.
use mathlib.Core.Path.{◌≡◌, refl, sym, ◌∙◌, ap}
use mathlib.Core.Bool.{Bool, true, false, cond}
use mathlib.Core.Logic.{◌⊎◌, inl, inr}
use mathlib.Core.List.{List, [], ◌∷◌, map, flat_map}
use Prim.Native.Nat.{ℕ, ◌+◌, ◌*◌, ◌≤◌, ◌<◌}
use native.Mathlib.Nat.{zero-add}
use native.Mathlib.Omega.{arith}
use lib.Dec.{eqb}
use lib.IntN.{ℤ}
use lib.ListN.{length, drop, length-map, length-drop}
use borrow.Author.Tests.{lt-ltb, le-ltb, le-leb, lt-leb}
use Rattle.std.specs.Prelude.{Option, Some, None, Result, Ok, Err}
use Rattle.text.specs.Bytes.{every, before}
use Rattle.text.specs.Inner.Places.{find_from}
use Rattle.text.specs.Numbers.{clamp}
use Rattle.text.specs.Lines.{lines, ends_in_lf}
use Rattle.text.specs.Output.{over}
use Rattle.text.proofs.TestLaws.{and_left, and_right, lt_or_ge, passed_or_failed}
use Rattle.text.proofs.LinesLaws.{lines_cut, lines_end}
use Rattle.text.proofs.OutputLaws.{over-length}
use Rattle.events.specs.Parting.{table_lines, has_events, events_ended, event_part}
use Rattle.events.specs.Listing.{list, ragged, read_lines, is_event, is_good, bad_line, ragged_line, values, list_part, events_of}
use Rattle.events.specs.Inner.Answers.{parted_of, above_zero, listed, answer_of, values_kept}
use Rattle.events.proofs.ListingLaws.{above-some, above-none, above-is, bad_line_le, values-kept}
use Rattle.events.proofs.PartingLaws.{events_no_part, table_lines_le, line-there, line-missing, start-there, start-missing, part-is}
use Rattle.events.proofs.BadLine.{none-bad}
use Rattle.events.specs.declared.parting.Parted.{Parted}
use Rattle.events.specs.declared.listing.ListRefusal.{ListRefusal}
use Rattle.events.specs.declared.listing.ListRefusal.TheVariants.{Ragged, Short}

-- ── The lowest bad line of an input ──

module _ (several headed : Bool) (n : ℕ) (s : List ℕ) where
  -- of the lines behind `events`
  abbrev bad : ℕ
  bad = bad_line several headed n (event_part s)

  pub ragged-none : has_events s ≡ false → ragged_line several headed n s ≡ 0
  unfolding ragged_line
  ragged-none h = rw h

  module _ (h : has_events s ≡ true) where
    pub ragged_open : events_ended s ≡ false → ragged_line several headed n s ≡ table_lines s + 1
    unfolding ragged_line
    ragged_open e = rw (h, e)

    module _ (e : events_ended s ≡ true) where
      pub ragged-behind : 0 < bad → ragged_line several headed n s ≡ table_lines s + 1 + bad
      unfolding ragged_line
      ragged-behind l = rw (h, e, lt-ltb 0 bad l)

      pub ragged-nowhere : bad ≤ 0 → ragged_line several headed n s ≡ 0
      unfolding ragged_line
      ragged-nowhere l = rw (h, e, le-ltb 0 bad l)

  -- where there is none, the line `events` ends in LF if it is there, and nothing behind it is bad
  pub unragged : ragged_line several headed n s ≡ 0 → (has_events s ≡ false) ⊎ ((has_events s ≡ true) × (events_ended s ≡ true) × (bad ≡ 0))
  unragged z = go (passed_or_failed (has_events s)) (passed_or_failed (events_ended s)) (lt_or_ge 0 bad)
    where
      go : (has_events s ≡ true) ⊎ (has_events s ≡ false) → (events_ended s ≡ true) ⊎ (events_ended s ≡ false) → (0 < bad) ⊎ (bad ≤ 0)
          → (has_events s ≡ false) ⊎ ((has_events s ≡ true) × (events_ended s ≡ true) × (bad ≡ 0))
      go (inr h) g l = inl h
      go (inl h) (inr g) l = absurd (omega (arith, ragged_open h g))
      go (inl h) (inl g) (inl l) = absurd (omega (arith, ragged-behind h g l))
      go (inl h) (inl g) (inr l) = inr (h, g, omega arith)

  -- every line behind it is good, and the last ends in LF
  abbrev BehindGood : Type 0
  BehindGood =
      (every (is_good n) (read_lines several headed (lines (event_part s))) ≡ true) × ((lines (event_part s) ≡ []) ⊎ (ends_in_lf (event_part s) ≡ true))

  pub behind-good : ragged_line several headed n s ≡ 0 → BehindGood
  unfolding lines
  behind-good z = go (unragged z)
    where
      go : (has_events s ≡ false) ⊎ ((has_events s ≡ true) × (events_ended s ≡ true) × (bad ≡ 0)) → BehindGood
      go (inl h) = rw (events_no_part s h) (refl, inl refl)
      go (inr h) = none-bad several headed n (event_part s) h.2

-- ── One list ──

pub find_first : (s : List ℕ) (c : ℕ) → find_from s 0 c ≡ before (λ (x : ℕ). eqb x c) s
unfolding find_from
find_first s c = zero-add _

-- the lines of events are the lines behind `events`, without the first where it is a column line
pub list-lines : (headed : Bool) (part : List ℕ) → lines (list_part headed part) ≡ drop (cond headed 1 0) (lines part)
unfolding list_part
list-lines false part = refl
list-lines true [] = rw (lines_end [] 0 (omega arith))
list-lines true (x ∷ s) = sym (ap (drop 1) (lines_cut (x ∷ s) 0 (omega arith)) ∙ rw (find_first (x ∷ s) 10))

module _ (headed : Bool) (n : ℕ) (s : List ℕ) where
  -- a column line is no event, and all lines behind it are read as events
  events-read : (ls : List (List ℕ)) → every (is_good n) (read_lines false false ls) ≡ true → every (is_event n) ls ≡ true
  events-read [] h = refl
  events-read (l ∷ ls) h =
      rw (and_left (is_event n l) (every (is_good n) (read_lines false false ls)) h)
      (events-read ls (and_right (is_event n l) (every (is_good n) (read_lines false false ls)) h))

  pub list-good : ragged_line false headed n s ≡ 0 → every (is_event n) (lines (list_part headed (event_part s))) ≡ true
  list-good z = rw (list-lines headed (event_part s)) (go headed (lines (event_part s)) (behind-good false headed n s z).0)
    where
      go : (b : Bool) (ls : List (List ℕ)) → every (is_good n) (read_lines false b ls) ≡ true → every (is_event n) (drop (cond b 1 0) ls) ≡ true
      go true [] h = refl
      go false [] h = refl
      go true (l ∷ ls) h = events-read ls h
      go false (l ∷ ls) h = events-read (l ∷ ls) h

  pub events-bad : 0 < ragged_line false headed n s → events_of headed n s ≡ ragged (ragged_line false headed n s)
  unfolding events_of
  events-bad l = rw (lt-ltb 0 (ragged_line false headed n s) l)

  pub events-good : ragged_line false headed n s ≤ 0 → events_of headed n s ≡ list (values (list_part headed (event_part s)))
  unfolding events_of
  events-good l = rw (le-ltb 0 (ragged_line false headed n s) l)

  no_list : (b : Bool) → values (list_part b []) ≡ []
  unfolding values list_part lines flat_map
  no_list true = refl
  no_list false = refl

  pub events-none : has_events s ≡ false → events_of headed n s ≡ list []
  events-none h = events-good (omega (arith, ragged-none false headed n s h)) ∙ rw (events_no_part s h, no_list headed)

  module _ (h : has_events s ≡ true) where
    pub events_open : events_ended s ≡ false → events_of headed n s ≡ ragged (table_lines s + 1)
    events_open e = let r = ragged_open false headed n s h e in events-bad (omega (arith, r)) ∙ rw r

    module _ (e : events_ended s ≡ true) where
      pub events-ragged : 0 < bad_line false headed n (event_part s)
          → events_of headed n s ≡ ragged (table_lines s + 1 + bad_line false headed n (event_part s))
      events-ragged l = let r = ragged-behind false headed n s h e l in events-bad (omega (arith, r)) ∙ rw r

      pub events-listed : bad_line false headed n (event_part s) ≤ 0 → events_of headed n s ≡ list (values (list_part headed (event_part s)))
      events-listed l = events-good (omega (arith, ragged-nowhere false headed n s h e l))

-- ── What the parts of the input show ──

module _ (several headed : Bool) (n : ℕ) (s : List ℕ) {o : Parted} (p : o ≡ parted_of s) where
  -- r is the lowest bad line, if there is one
  abbrev Lowest : Option ℕ → Type 0
  Lowest r = r ≡ above_zero (ragged_line several headed n s)

  lowest-is : {k m : ℕ} → ragged_line several headed n s ≡ m → m ≡ k → 0 < k → Lowest (Some k)
  lowest-is e f l = sym (rw (e, f) (above-some _ l))

  pub line-none : o.line ≡ None → Lowest None
  line-none f = rw (ragged-none several headed n s (line-missing s p f))

  module _ {line : ℕ} (f : o.line ≡ Some line) where
    pub line_open : o.start ≡ None → Lowest (Some line)
    line_open g =
        let l = line-there s p f in
        lowest-is (ragged_open several headed n s l.0 (start-missing s p g)) l.1 (omega (arith, l.1))

    module _ {a : ℕ} (g : o.start ≡ Some a) {part : List ℕ} (h : part ≡ drop a s) {r : Option ℕ} (i : r ≡ above_zero (bad_line several headed n part)) where
      bad-is : above_zero (bad_line several headed n (event_part s)) ≡ r
      bad-is = rw ((start-there s p g).1, ← h) (sym i)

      pub line-behind : {b : ℕ} → r ≡ Some b → Lowest (Some (line + b))
      line-behind e =
          let l = line-there s p f in
          let k = above-is _ (bad-is ∙ e) in
          lowest-is (ragged-behind several headed n s l.0 (start-there s p g).0 k.1) (omega (arith, l.1, k.0)) (omega (arith, k.0, k.1))

      -- so it is no longer than the input is
      pub line_fits : {b : ℕ} → r ≡ Some b → line + b ≤ 2 * length s + 1
      unfolding event_part
      line_fits e =
          let k = above-is _ (sym i ∙ e) in
          omega (
            arith,
            (line-there s p f).1,
            table_lines_le s,
            k.0,
            bad_line_le several headed n part,
            ap length h,
            length-drop a s,
          )

      pub line-nowhere : r ≡ None → Lowest None
      line-nowhere e =
          let z = above-none _ (bad-is ∙ e) in
          rw (ragged-nowhere several headed n s (line-there s p f).0 (start-there s p g).0 (omega (arith, z)))

-- ── The answer, and the list x after it ──

-- r is the answer, and d became x
abbrev Answered : Bool → ℕ → List ℕ → List ℤ → Result ℕ ListRefusal → List ℤ → Type 0
Answered headed n s d r x = (r ≡ answer_of (events_of headed n s) (length d)) × (x ≡ over (listed (events_of headed n s)) d)

module _ (headed : Bool) (n : ℕ) (s : List ℕ) (d : List ℤ) {r : Option ℕ} (i : r ≡ above_zero (ragged_line false headed n s)) where
  pub answer-ragged : {line : ℕ} → r ≡ Some line → Answered headed n s d (Err (Ragged line)) d
  unfolding over
  answer-ragged e =
      let l = above-is _ (sym i ∙ e) in
      rw (events-bad headed n s l.1, l.0) (refl, refl)

  module _ (e : r ≡ None) {o : Parted} (p : o ≡ parted_of s) {behind part : List ℕ} (h : behind ≡ drop (o.table + 7) s) (g : part ≡ list_part headed behind)
      {m : ℕ} {x : List ℤ} (k : m ≡ length (values_kept part)) (w : x ≡ over (values_kept part) d) where
    none-bad-line : ragged_line false headed n s ≡ 0
    none-bad-line = above-none _ (sym i ∙ e)

    list-is : list_part headed (event_part s) ≡ part
    list-is = rw (part-is s p, ← h) (sym g)

    kept_are : values_kept part ≡ map clamp (values part)
    kept_are = values-kept n part (rw list-is at (list-good headed n s none-bad-line))

    count-is : m ≡ length (values part)
    count-is = k ∙ ap length kept_are ∙ length-map (values part) clamp

    written_is : x ≡ over (map clamp (values part)) d
    written_is = w ∙ ap (λ (v : List ℤ). over v d) kept_are

    listed-is : events_of headed n s ≡ list (values part)
    listed-is = events-good headed n s (omega (arith, none-bad-line)) ∙ rw list-is

    room-is : length d ≡ length x
    room-is = sym (ap length w ∙ over-length (values_kept part) d)

    pub answer-short : length x < m → Answered headed n s d (Err Short) x
    answer-short q = rw (listed-is, ← count-is, room-is, lt-leb m (length x) q) (refl, written_is)

    pub answer-listed : m ≤ length x → Answered headed n s d (Ok m) x
    answer-listed q = rw (listed-is, ← count-is, room-is, le-leb m (length x) q) (refl, written_is)
