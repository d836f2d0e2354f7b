-- Theorems about the definitions of the events: how the input is parted, which lines the events are, how many values they have, and what is kept of each.
use mathlib.Core.Path.{◌≡◌, refl, sym, ◌∙◌, ap}
use mathlib.Core.Bool.{Bool, true, false, cond}
use mathlib.Core.Logic.{◌⊎◌, inl, inr, ⊎_elim}
use mathlib.Core.List.{List, [], ◌∷◌, ◌++◌, map, flat_map}
use Prim.Native.Nat.{ℕ, zero, suc, ◌+◌, ◌-◌, ◌*◌, ◌≤◌, ◌<◌}
use native.Mathlib.Nat.{zero-mul, suc-mul}
use native.Mathlib.Omega.{arith}
use lib.Dec.{eqb, leb}
use lib.IntN.{ℤ, pos, negsuc}
use lib.ListN.{length, get_or, take, drop, take-append-drop, length-append, length-drop, get_or-eq_default, length-map}
use lib.Seq.{take_all, drop-drop, take-append_seam}
use borrow.Author.Tests.{ltb-true, leb-true, le-leb, eqb-true}
use Rattle.text.specs.Bytes.{bytes, same, every}
use Rattle.text.specs.Numbers.{clamp, is_negative, unsigned, is_positive, is_number, number_value}
use Rattle.text.specs.Inner.Kept.{kept, read_number}
use Rattle.integers.specs.Range.{in_range}
use Rattle.text.specs.Lines.{fields, lines, unlines, ends_in_lf, unfields}
use Rattle.text.specs.Inner.Places.{line_starts, find_from, line_from}
use Rattle.text.proofs.TestLaws.{true≢false, and_left, and_right, lt_or_ge, passed_or_failed}
use Rattle.text.proofs.BytesLaws.{rest_cons, before-found, same_eq}
use Rattle.text.proofs.LinesLaws.{lines_cut, line-length, fields-some, line_starts-length, start_inside, lines-from_start, line-at_start}
use Rattle.text.specs.Output.{over}
use Rattle.text.proofs.OutputLaws.{over-fits}
use Rattle.text.proofs.NumbersLaws.{within-event, clamp-within, read-value}
use Rattle.text.proofs.TextTheorems.{unlines-lines, unfields-fields}
use Rattle.events.specs.Parting.{table_lines, table_end, has_events, events_ended, table_part, event_part}
use Rattle.events.specs.Listing.{Events, list, ragged, is_event, ragged_line, line_values, values, list_part, events_of}
use Rattle.events.specs.Inner.Answers.{listed, answer_of}
use Rattle.events.specs.declared.listing.ListRefusal.{ListRefusal}
use Rattle.events.specs.declared.listing.ListRefusal.TheVariants.{Ragged, Short}
use Rattle.std.specs.Prelude.{Result, Ok, Err}
use Rattle.events.proofs.ListingLaws.{line_values-length}
use Rattle.events.proofs.PartingLaws.{end_at, end_is}
use Rattle.events.proofs.AnswerLaws.{behind-good, list-lines, list-good, events-bad, events-good}

-- ── The input parted ──

-- without the line `events` all input is table
module _ (s : List ℕ) (h : has_events s ≡ false) where
  pub table-all : table_part s ≡ s
  unfolding table_part
  table-all = take_all (table_end s) s (omega (arith, end_is s h))

module _ (s : List ℕ) (h : has_events s ≡ true) where
  pub is-line : table_lines s < length (lines s)
  unfolding has_events
  is-line = ltb-true (table_lines s) (length (lines s)) h

  begins : table_end s ≡ get_or (line_starts s) (table_lines s) 0
  begins = end_at s ∙ default_free (line_starts s) (table_lines s) (length s) (omega (arith, line_starts-length s, is-line))
    where
      default_free : (l : List ℕ) (i d : ℕ) → i < length l → get_or l i d ≡ get_or l i 0
      default_free [] i d k = absurd (omega arith)
      default_free (x ∷ l) zero d k = refl
      default_free (x ∷ l) (suc i) d k = default_free l i d (omega arith)

  pub inside : table_end s < length s
  inside = omega (arith, begins, start_inside s (table_lines s) is-line)

  pub line-is : line_from s (table_end s) ≡ bytes "events"
  unfolding table_lines
  line-is =
      rw begins
      (line-at_start s (table_lines s) is-line
      ∙ sym (same_eq (bytes "events") (get_or (lines s) (table_lines s) []) (before-found (same (bytes "events")) [] (lines s) is-line)))

  pub lf_at : find_from s (table_end s) 10 ≡ table_end s + 6
  lf_at = sym (line-length s (table_end s) inside) ∙ ap (λ (l : List ℕ). table_end s + length l) line-is

  line_first : take 6 (drop (table_end s) s) ≡ bytes "events"
  unfolding line_from
  line_first = let e : find_from s (table_end s) 10 - table_end s ≡ 6 = omega (arith, lf_at) in rw e at line-is

  parted-at : s ≡ table_part s ++ (bytes "events" ++ drop (table_end s + 6) s)
  unfolding table_part
  parted-at =
      sym (take-append-drop (table_end s) s)
      ∙ ap (λ (r : List ℕ). take (table_end s) s ++ r) (sym (take-append-drop 6 (drop (table_end s) s)) ∙ rw (line_first, drop-drop 6 (table_end s) s))

  -- the table, the line `events` and its LF, the events
  pub input-parted : events_ended s ≡ true → s ≡ table_part s ++ (bytes "events" ++ (10 ∷ event_part s))
  unfolding events_ended event_part
  input-parted e =
      let b : get_or s (table_end s + 6) 0 ≡ 10 = eqb-true (get_or s (table_end s + 6) 0) 10 e in
      let i : table_end s + 6 < length s = within-list s (table_end s + 6) b in
      let k : table_end s + 6 + 1 ≡ table_end s + 7 = omega arith in
      parted-at ∙ rw (rest_cons s (table_end s + 6) 0 i, b, k)
    where
      within-list : (l : List ℕ) (i : ℕ) → get_or l i 0 ≡ 10 → i < length l
      within-list l i b =
          ⊎_elim
          (λ (k : i < length l). k)
          (λ (k : length l ≤ i). absurd (let z : get_or l i 0 ≡ 0 = get_or-eq_default l 0 k in omega arith))
          (lt_or_ge i (length l))

  -- the lines of the events follow the line `events`: line k of them is line table_lines + 1 + k of the input
  pub event-lines : lines (event_part s) ≡ drop (table_lines s + 1) (lines s)
  unfolding event_part
  event-lines =
      let k : find_from s (table_end s) 10 + 1 ≡ table_end s + 7 = omega (arith, lf_at) in
      let c : line_from s (table_end s) ∷ lines (drop (table_end s + 7) s) ≡ drop (table_lines s) (lines s) =
      rw k at (sym (lines_cut s (table_end s) inside)) ∙ (rw (← begins) at (lines-from_start s (table_lines s) is-line)) in
      ap (drop 1) c ∙ drop-drop 1 (table_lines s) (lines s)

-- ── How many values ──

-- a number has a digit
number-some : (f : List ℕ) → is_number f ≡ true → 1 ≤ length f
unfolding is_number is_positive unsigned is_negative same
number-some [] e = absurd (true≢false (sym e))
number-some (x ∷ f) e = omega arith

-- so many numbers and their tabs
fields-bytes : (fs : List (List ℕ)) → 0 < length fs → every is_number fs ≡ true → 2 * length fs ≤ length (unfields fs) + 1
fields-bytes [] h e = absurd (omega arith)
fields-bytes (f ∷ []) h e = omega (arith, number-some f (and_left (is_number f) true e))
fields-bytes (f ∷ (g ∷ fs)) h e =
    simp length-append
    (omega (
      arith,
      number-some f (and_left (is_number f) (every is_number (g ∷ fs)) e),
      fields-bytes (g ∷ fs) (omega arith) (and_right (is_number f) (every is_number (g ∷ fs)) e),
    ))

module _ (n : ℕ) (l : List ℕ) (e : is_event n l ≡ true) where
  event-values : length (line_values l) ≡ n
  unfolding is_event
  event-values = line_values-length l ∙ eqb-true (length (fields l)) n (and_left (eqb (length (fields l)) n) (every is_number (fields l)) e)

  event-bytes : 2 * length (line_values l) ≤ length l + 1
  unfolding is_event fields
  event-bytes =
      omega (
        arith,
        line_values-length l,
        ap length (unfields-fields l),
        fields-bytes (fields l) (fields-some 9 l) (and_right (eqb (length (fields l)) n) (every is_number (fields l)) e),
      )

module _ (n : ℕ) where
  pub lines-values : (ls : List (List ℕ)) → every (is_event n) ls ≡ true → length (flat_map line_values ls) ≡ length ls * n
  unfolding flat_map
  lines-values [] e = sym (zero-mul n)
  lines-values (l ∷ ls) e =
      simp (length-append, suc-mul)
      (omega
      (arith, event-values n l (and_left (is_event n l) (every (is_event n) ls) e), lines-values ls (and_right (is_event n l) (every (is_event n) ls) e)))

  pub lines-bytes : (ls : List (List ℕ)) → every (is_event n) ls ≡ true → 2 * length (flat_map line_values ls) ≤ length (unlines ls)
  unfolding flat_map
  lines-bytes [] e = omega arith
  lines-bytes (l ∷ ls) e =
      simp length-append
      (omega (arith, event-bytes n l (and_left (is_event n l) (every (is_event n) ls) e), lines-bytes ls (and_right (is_event n l) (every (is_event n) ls) e)))

-- lines left out are bytes left out
unlines-behind : (k : ℕ) (ls : List (List ℕ)) → length (unlines (drop k ls)) ≤ length (unlines ls)
unlines-behind zero ls = omega arith
unlines-behind (suc k) [] = omega arith
unlines-behind (suc k) (l ∷ ls) = simp length-append (omega (arith, unlines-behind k ls))

module _ (headed : Bool) (n : ℕ) (s : List ℕ) (vs : List ℤ) (e : events_of headed n s ≡ list vs) where
  -- the lines of the events
  abbrev listed-lines : List (List ℕ)
  listed-lines = lines (list_part headed (event_part s))

  pub listed_are : (ragged_line false headed n s ≡ 0) × (vs ≡ values (list_part headed (event_part s)))
  listed_are = go (lt_or_ge 0 (ragged_line false headed n s))
    where
      go : (0 < ragged_line false headed n s) ⊎ (ragged_line false headed n s ≤ 0)
          → (ragged_line false headed n s ≡ 0) × (vs ≡ values (list_part headed (event_part s)))
      go (inl l) =
          absurd
          (let q : ragged (ragged_line false headed n s) ≡ list vs = sym (events-bad headed n s l) ∙ e in let z : ◌≡◌ {A = ℕ} 0 1 = cc in omega arith)
      go (inr l) = let q : list (values (list_part headed (event_part s))) ≡ list vs = sym (events-good headed n s l) ∙ e in (omega arith, cc)

  -- the list is complete: n values for each line of events
  pub values-complete : length vs ≡ length listed-lines * n
  unfolding values
  values-complete = rw listed_are.1 (lines-values n listed-lines (list-good headed n s listed_are.0))

  -- a value takes two bytes at least: 65,536 bytes hold at most 32,768
  pub values-few : 2 * length vs ≤ length s
  unfolding values event_part
  values-few =
      let k = lines-bytes n listed-lines (list-good headed n s listed_are.0) in
      let b = ap (λ (ls : List (List ℕ)). length (unlines ls)) (list-lines headed (event_part s)) in
      omega (
        arith,
        ap length listed_are.1,
        length-drop (table_end s + 7) s,
        k,
        b,
        unlines-behind (cond headed 1 0) (lines (event_part s)),
        all-bytes (behind-good false headed n s listed_are.0).1,
      )
    where
      all-bytes : (lines (event_part s) ≡ []) ⊎ (ends_in_lf (event_part s) ≡ true) → length (unlines (lines (event_part s))) ≤ length (event_part s)
      all-bytes (inl q) = rw q (omega arith)
      all-bytes (inr q) = omega (arith, ap length (unlines-lines (event_part s) q))

-- so the answer is never Short where the list has room for half as many values as the input has bytes
pub never_short : (headed : Bool) (n : ℕ) (s : List ℕ) (room : ℕ) → length s ≤ 2 * room → answer_of (events_of headed n s) room ≡ Err Short → ⊥
never_short headed n s room h e = go (events_of headed n s) refl e
  where
    go : (r : Events) → events_of headed n s ≡ r → answer_of r room ≡ Err Short → ⊥
    go (list vs) q f =
        let l : length vs ≤ room = omega (arith, values-few headed n s vs q) in
        let g : ◌≡◌ {A = Result ℕ ListRefusal} (Ok (length vs)) (Err Short) = rw (le-leb (length vs) room l) at f in
        cc
    go (ragged line) q f = cc

-- ── What reading them shows ──

answered-ragged : (es : Events) (room line : ℕ) → answer_of es room ≡ Err (Ragged line) → es ≡ ragged line
answered-ragged (list vs) room line e = absurd (go (leb (length vs) room) e)
  where
    go : (b : Bool) → ◌≡◌ {A = Result ℕ ListRefusal} (cond b (Ok (length vs)) (Err Short)) (Err (Ragged line)) → ⊥
    go true f = cc
    go false f = cc
answered-ragged (ragged l) room line e = cc

answered-values : (es : Events) (room k : ℕ) → answer_of es room ≡ Ok k → (vs : List ℤ) × (es ≡ list vs) × (k ≡ length vs) × (k ≤ room)
answered-values (list vs) room k e = go (passed_or_failed (leb (length vs) room))
  where
    go : (leb (length vs) room ≡ true) ⊎ (leb (length vs) room ≡ false) → (ws : List ℤ) × (list vs ≡ list ws) × (k ≡ length ws) × (k ≤ room)
    go (inl t) =
        let f : ◌≡◌ {A = Result ℕ ListRefusal} (Ok (length vs)) (Ok k) = rw t at e in
        let g : k ≡ length vs = cc in
        let h : length vs ≤ room = leb-true (length vs) room t in
        (vs, refl, g, omega arith)
    go (inr t) = absurd (let f : ◌≡◌ {A = Result ℕ ListRefusal} (Err Short) (Ok k) = rw t at e in cc)
answered-values (ragged l) room k e = absurd cc

-- what was written over the beginning of a list that has room for it
pub written-taken : {A : Type 0} (q d : List A) {x : List A} {m : ℕ} → m ≡ length q → x ≡ over q d → length q ≤ length d → take m x ≡ q
written-taken q d e f h = rw (e, f, over-fits q d h) (take-append_seam q (drop (length q) d))

-- read over the beginning of a list with room for half as many values as the input has bytes, which became x
module _ (headed : Bool) (n : ℕ) (s : List ℕ) (d : List ℤ) {r : Result ℕ ListRefusal} (e : r ≡ answer_of (events_of headed n s) (length d)) where
  -- all values, each as it is kept
  pub read-values : {k : ℕ} → r ≡ Ok k → {x : List ℤ} → x ≡ over (listed (events_of headed n s)) d
      → (vs : List ℤ) × (events_of headed n s ≡ list vs) × (take k x ≡ map clamp vs) × (k ≤ length d)
  read-values q f =
      let v = answered-values (events_of headed n s) (length d) _ (sym e ∙ q) in
      let l = length-map v.0 clamp in
      (v.0, v.1, written-taken (map clamp v.0) d (omega (arith, v.2)) (rw v.1 at f) (omega (arith, v.2, v.3)), v.3)

  pub read-ragged : {line : ℕ} → r ≡ Err (Ragged line) → events_of headed n s ≡ ragged line
  read-ragged q = answered-ragged (events_of headed n s) (length d) _ (sym e ∙ q)

  pub read_short : length s ≤ 2 * length d → r ≡ Err Short → ⊥
  read_short h q = never_short headed n s (length d) h (sym e ∙ q)

-- ── What is kept of a number ──

module _ (f : List ℕ) (h : is_number f ≡ true) where
  -- the value kept is on the scale of an event's values exactly where the number is
  pub kept_on_scale : in_range (negsuc 65535) (pos 65535) (kept (read_number f)) ≡ in_range (negsuc 65535) (pos 65535) (number_value f)
  kept_on_scale = rw (read-value f h) (within-event (number_value f))

  -- and is then the number
  pub kept-is : in_range (negsuc 65535) (pos 65535) (number_value f) ≡ true → kept (read_number f) ≡ number_value f
  kept-is w = rw (read-value f h) (clamp-within (negsuc 65535) (pos 65535) (number_value f) (omega arith) (omega arith) w)
