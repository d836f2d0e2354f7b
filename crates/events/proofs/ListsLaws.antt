-- Laws of several lists: each begins with a line `events` and a column line, and goes on to the next `events`.
use mathlib.Core.Path.{◌≡◌, refl, sym, ◌∙◌, ap, ap₂}
use mathlib.Core.Bool.{Bool, true, false, cond}
use mathlib.Core.Logic.{◌⊎◌, inl, inr}
use mathlib.Core.List.{List, [], ◌∷◌, flat_map}
use Prim.Native.Nat.{ℕ, zero, suc, ◌+◌, ◌-◌, ◌*◌, ◌≤◌, ◌<◌}
use native.Mathlib.Omega.{arith}
use lib.Dec.{eqb}
use lib.ListN.{length, take, drop, length-append, length-drop}
use lib.Seq.{take_all, drop-drop}
use borrow.Author.Tests.{ltb-false, eqb-true}
use Rattle.text.specs.Bytes.{bytes, same, every, before}
use Rattle.text.specs.Lines.{push, parts, lines, unlines}
use Rattle.text.specs.Inner.Counts.{without}
use Rattle.text.specs.Inner.Places.{find_from, line_from}
use Rattle.text.proofs.TestLaws.{and_left, and_right, passed_or_failed, lt_or_ge}
use Rattle.text.proofs.BytesLaws.{same_eq}
use Rattle.text.proofs.LinesLaws.{find_from_lem, lines_cut, lines_end, line-length}
use Rattle.text.proofs.TextTheorems.{lines-without, lines-unlines}
use Rattle.events.specs.Parting.{table_lines, table_end, has_events, table_part, event_part}
use Rattle.events.specs.Listing.{Line, columns, opening, event, read_lines, is_event, is_good, ragged_line, to_first, parted_lines, list_lines}
use Rattle.events.specs.Inner.Answers.{parted_of}
use Rattle.events.specs.declared.parting.Parted.{Parted}
use Rattle.events.proofs.PartingLaws.{is_opening, end_is}
use Rattle.events.proofs.AnswerLaws.{behind-good}
use Rattle.events.proofs.EventTheorems.{table-all, is-line, line-is, inside, event-lines}

-- ── Lines parted ──

-- lines of which the first is a column line or not, parted where a list is opened
abbrev pub parted_from : Bool → List (List ℕ) → List (List (List ℕ))
parted_from headed ls = parted_lines (read_lines true headed ls)

parted-none : (ls : List (List ℕ)) → length ls ≤ before is_opening ls → parted_from false ls ≡ ls ∷ []
parted-none [] h = refl
parted-none (l ∷ ls) h = go (is_opening l) h (parted-none ls)
  where
    go : (b : Bool) → suc (length ls) ≤ cond b 0 (suc (before is_opening ls)) → (length ls ≤ before is_opening ls → parted_from false ls ≡ ls ∷ [])
        → parted_lines (cond b (opening ∷ read_lines true true ls) (event l ∷ read_lines true false ls)) ≡ (l ∷ ls) ∷ []
    go true k r = absurd (omega arith)
    go false k r = rw (r (omega arith))

parted-first : (ls : List (List ℕ)) → before is_opening ls < length ls
    → parted_from false ls ≡ take (before is_opening ls) ls ∷ parted_from true (drop (before is_opening ls + 1) ls)
parted-first [] h = absurd (omega arith)
parted-first (l ∷ ls) h = go (is_opening l) h (parted-first ls)
  where
    go : (b : Bool) → cond b 0 (suc (before is_opening ls)) < suc (length ls)
        → (before is_opening ls < length ls → parted_from false ls ≡ take (before is_opening ls) ls ∷ parted_from true (drop (before is_opening ls + 1) ls))
        → parted_lines (cond b (opening ∷ read_lines true true ls) (event l ∷ read_lines true false ls))
        ≡ take (cond b 0 (suc (before is_opening ls))) (l ∷ ls) ∷ parted_from true (drop (cond b 0 (suc (before is_opening ls)) + 1) (l ∷ ls))
    go true k r = refl
    go false k r =
        let b = before is_opening ls in
        let e : suc (b + 1) ≡ suc b + 1 = omega arith in
        rw (r (omega arith)) (ap (λ (j : ℕ). (l ∷ take b ls) ∷ parted_from true (drop j (l ∷ ls))) e)

-- ── The lines of the table ──

-- the bytes of the first k lines
first-bytes : (s : List ℕ) (k : ℕ) → k < length (lines s) → take (length (unlines (take k (lines s)))) s ≡ unlines (take k (lines s))
unfolding lines
first-bytes [] k h = absurd (omega arith)
first-bytes (x ∷ s) zero h = refl
first-bytes (x ∷ s) (suc k) h = go (passed_or_failed (eqb x 10)) (parts 10 [] s) refl (first-bytes s)
  where
    go : (eqb x 10 ≡ true) ⊎ (eqb x 10 ≡ false) → (ls : List (List ℕ)) → parts 10 [] s ≡ ls
        → ((j : ℕ) → j < length (parts 10 [] s) → take (length (unlines (take j (parts 10 [] s)))) s ≡ unlines (take j (parts 10 [] s)))
        → take (length (unlines (take (suc k) (cond (eqb x 10) ([] ∷ parts 10 [] s) (push x (parts 10 [] s)))))) (x ∷ s)
        ≡ unlines (take (suc k) (cond (eqb x 10) ([] ∷ parts 10 [] s) (push x (parts 10 [] s))))
    go (inl e) ls f r = let g : suc k < suc (length (parts 10 [] s)) = rw e at h in rw e (ap₂ ◌∷◌ (eqb-true x 10 e) (r k (omega arith)))
    go (inr e) [] f r = let g : suc k < 1 = rw (e, f) at h in absurd (omega arith)
    go (inr e) (l ∷ ls) f r =
        let g : suc k < suc (length ls) = rw (e, f) at h in
        let i = rw f at (r (suc k)) in
        rw (e, f) (ap (λ (t : List ℕ). x ∷ t) (i (omega arith)))

table-bytes : (s : List ℕ) → has_events s ≡ true → table_part s ≡ unlines (take (table_lines s) (lines s))
unfolding table_part table_end
table-bytes s h = rw h (first-bytes s (table_lines s) (is-line s h))

none-late : (s : List ℕ) → has_events s ≡ false → length (lines s) ≤ table_lines s
unfolding has_events
none-late s h = ltb-false (table_lines s) (length (lines s)) h

every_take : {A : Type 0} (f : A → Bool) (k : ℕ) (s : List A) → every f s ≡ true → every f (take k s) ≡ true
every_take f zero s h = refl
every_take f (suc k) [] h = refl
every_take f (suc k) (x ∷ s) h = rw (and_left (f x) (every f s) h) (every_take f k s (and_right (f x) (every f s) h))

pub table-lines : (s : List ℕ) → lines (table_part s) ≡ take (table_lines s) (lines s)
table-lines s = go (passed_or_failed (has_events s))
  where
    go : (has_events s ≡ true) ⊎ (has_events s ≡ false) → lines (table_part s) ≡ take (table_lines s) (lines s)
    go (inl h) = rw (table-bytes s h) (lines-unlines (take (table_lines s) (lines s)) (every_take (without 10) (table_lines s) (lines s) (lines-without s)))
    go (inr h) = rw (table-all s h) (sym (take_all (table_lines s) (lines s) (none-late s h)))

-- ── The lists from a place on ──

-- those that lines `events` from place a on begin, if a line begins there
abbrev pub lists_from : List ℕ → ℕ → List (List (List ℕ))
lists_from s a = drop 1 (parted_from false (lines (drop a s)))

-- the line `events` opens one
opening-cut : (s : List ℕ) (a : ℕ) → a < length s → line_from s a ≡ bytes "events" → lines (drop a s) ≡ bytes "events" ∷ lines (drop (a + 7) s)
opening-cut s a l h =
    let k : find_from s a 10 + 1 ≡ a + 7 = omega (arith, line-length s a l, ap length h) in
    lines_cut s a l ∙ rw (h, k)

pub opening-lists : (s : List ℕ) (a : ℕ) → a < length s → line_from s a ≡ bytes "events" → lists_from s a ≡ parted_from true (lines (drop (a + 7) s))
unfolding same
opening-lists s a l h = rw (opening-cut s a l h)

parted-there : (s : List ℕ) → has_events s ≡ true → parted_from false (lines s) ≡ lines (table_part s) ∷ lists_from s (table_end s)
unfolding table_lines event_part
parted-there s h =
    parted-first (lines s) (is-line s h)
    ∙ rw (table-lines s, opening-lists s (table_end s) (inside s h) (line-is s h), event-lines s h)

parted-not : (s : List ℕ) → has_events s ≡ false → parted_from false (lines s) ≡ lines (table_part s) ∷ lists_from s (table_end s)
unfolding table_lines
parted-not s h = rw (table-all s h, lines_end s (table_end s) (omega (arith, end_is s h))) (parted-none (lines s) (none-late s h))

-- the lines before the first `events`, then the lists from it on
parted-text : (s : List ℕ) → parted_from false (lines s) ≡ lines (table_part s) ∷ lists_from s (table_end s)
parted-text s = go (passed_or_failed (has_events s))
  where
    go : (has_events s ≡ true) ⊎ (has_events s ≡ false) → parted_from false (lines s) ≡ lines (table_part s) ∷ lists_from s (table_end s)
    go (inl h) = parted-there s h
    go (inr h) = parted-not s h

-- ── From one list to the next ──

-- where a line begins at place a, it is `events`
abbrev pub Opens : List ℕ → ℕ → Type 0
Opens s a = a < length s → line_from s a ≡ bytes "events"

pub opens-first : (s : List ℕ) → Opens s (table_end s)
opens-first s l = go (passed_or_failed (has_events s))
  where
    go : (has_events s ≡ true) ⊎ (has_events s ≡ false) → line_from s (table_end s) ≡ bytes "events"
    go (inl h) = line-is s h
    go (inr h) = absurd (omega (arith, end_is s h))

pub end_inside : (s : List ℕ) → table_end s ≤ length s
end_inside s = go (passed_or_failed (has_events s))
  where
    go : (has_events s ≡ true) ⊎ (has_events s ≡ false) → table_end s ≤ length s
    go (inl h) = omega (arith, inside s h)
    go (inr h) = omega (arith, end_is s h)

-- what `split` answers of a text parts it so
pub part-is-table : (s : List ℕ) {o : Parted} → o ≡ parted_of s → (take o.table s ≡ table_part s) × (o.table ≡ table_end s)
unfolding parted_of table_part
part-is-table s e = (rw e, rw e)

-- the lists of an input
pub lists-first : (s : List ℕ) → list_lines s ≡ lists_from s (table_end s)
unfolding list_lines
lists-first s = ap (drop 1) (parted-text s)

line-behind : (s : List ℕ) (b a : ℕ) → line_from (drop b s) a ≡ line_from s (b + a)
unfolding line_from find_from
line-behind s b a =
    let x = before (λ (c : ℕ). eqb c 10) (drop (b + a) s) in
    let e : a + x - a ≡ b + a + x - (b + a) = omega arith in
    rw (drop-drop a b s) (ap (λ (k : ℕ). take k (drop (b + a) s)) e)

-- lines of which the first is a column line are parted as those behind it
pub heads_list : (s : List ℕ) (b : ℕ) → parted_from true (lines (drop b s)) ≡ parted_from false (lines (drop (find_from s b 10 + 1) s))
heads_list s b = go (lt_or_ge b (length s))
  where
    go : (b < length s) ⊎ (length s ≤ b) → parted_from true (lines (drop b s)) ≡ parted_from false (lines (drop (find_from s b 10 + 1) s))
    go (inl l) = rw (lines_cut s b l)
    go (inr l) = rw (lines_end s b l, lines_end s (find_from s b 10 + 1) (omega (arith, find_from_lem s b 10)))

module _ (s : List ℕ) (a : ℕ) where
  -- where the lines of events begin, behind the line `events` and the column line
  abbrev pub events_at : ℕ
  events_at = find_from s (a + 7) 10 + 1

  abbrev behind : List ℕ
  behind = drop events_at s

  pub lists-next : a < length s → Opens s a → lists_from s a ≡ lines (table_part behind) ∷ lists_from s (events_at + table_end behind)
  lists-next l h = opening-lists s a l (h l) ∙ heads_list s (a + 7) ∙ parted-text behind ∙ rw (drop-drop (table_end behind) events_at s)

  pub opens-next : Opens s (events_at + table_end behind)
  opens-next l =
      sym (line-behind s events_at (table_end behind))
      ∙ opens-first behind (omega (arith, length-drop events_at s))

-- ── Good lists ──

behind-lines : (n : ℕ) (s : List ℕ) → ragged_line true true n s ≡ 0 → every (is_good n) (read_lines true true (lines (drop (table_end s + 7) s))) ≡ true
unfolding event_part
behind-lines n s z = (behind-good true true n s z).0

-- each line of each list is an event
abbrev pub AllEvents : ℕ → List (List (List ℕ)) → Type 0
AllEvents n lists = every (every (is_event n)) lists ≡ true

parted-events : (n : ℕ) (ls : List Line) → every (is_good n) ls ≡ true → AllEvents n (parted_lines ls)
parted-events n [] h = refl
parted-events n (columns l ∷ ls) h = parted-events n ls h
parted-events n (opening ∷ ls) h = parted-events n ls h
parted-events n (event l ∷ ls) h = go (parted_lines ls) (parted-events n ls (and_right (is_event n l) (every (is_good n) ls) h))
  where
    good : is_event n l ≡ true
    good = and_left (is_event n l) (every (is_good n) ls) h

    go : (ps : List (List (List ℕ))) → AllEvents n ps → AllEvents n (to_first l ps)
    go [] r = rw good
    go (p ∷ ps) r = rw good r

pub lists-good : (n : ℕ) (s : List ℕ) → ragged_line true true n s ≡ 0 → AllEvents n (list_lines s)
lists-good n s z = rw (lists-first s) (go (passed_or_failed (has_events s)))
  where
    go : (has_events s ≡ true) ⊎ (has_events s ≡ false) → AllEvents n (lists_from s (table_end s))
    go (inl h) =
        rw (opening-lists s (table_end s) (inside s h) (line-is s h))
        (parted-events n (read_lines true true (lines (drop (table_end s + 7) s))) (behind-lines n s z))
    go (inr h) = rw (lines_end s (table_end s) (omega (arith, end_is s h))) refl

-- ── How many lists ──

-- the bytes of parted lines, with seven for each list
abbrev list_bytes : List (List (List ℕ)) → ℕ
list_bytes ps = 7 * length ps + length (flat_map unlines ps)

first-bytes-more : (l : List ℕ) (ps : List (List (List ℕ))) → 1 ≤ length ps → list_bytes (to_first l ps) ≡ length l + 1 + list_bytes ps
unfolding flat_map
first-bytes-more l [] h = absurd (omega arith)
first-bytes-more l (p ∷ ps) h = simp length-append (omega (arith, length-append (unlines p) (flat_map unlines ps)))

pub parted-some : (ls : List Line) → 1 ≤ length (parted_lines ls)
parted-some [] = omega arith
parted-some (columns l ∷ ls) = parted-some ls
parted-some (opening ∷ ls) = omega arith
parted-some (event l ∷ ls) = go (parted_lines ls) (parted-some ls)
  where
    go : (ps : List (List (List ℕ))) → 1 ≤ length ps → 1 ≤ length (to_first l ps)
    go [] h = omega arith
    go (p ∷ ps) h = omega arith

-- between the lists stand lines `events`, and before each but the table's a column line
parted-bytes : (headed : Bool) (ls : List (List ℕ)) → list_bytes (parted_from headed ls) ≤ length (unlines ls) + 7
unfolding flat_map
parted-bytes headed [] = omega arith
parted-bytes true (l ∷ ls) = simp length-append (omega (arith, parted-bytes false ls))
parted-bytes false (l ∷ ls) = go (passed_or_failed (is_opening l)) (parted-bytes true ls) (parted-bytes false ls)
  where
    go : (is_opening l ≡ true) ⊎ (is_opening l ≡ false) → list_bytes (parted_from true ls) ≤ length (unlines ls) + 7
        → list_bytes (parted_from false ls) ≤ length (unlines ls) + 7 → list_bytes (parted_from false (l ∷ ls)) ≤ length (unlines (l ∷ ls)) + 7
    go (inl e) r q = rw e (simp length-append (omega (arith, ap length (same_eq (bytes "events") l e))))
    go (inr e) r q =
        rw e
        (simp length-append (omega (arith, first-bytes-more l (parted_from false ls) (parted-some (read_lines true false ls)))))

pub unlines-length : (s : List ℕ) → length (unlines (lines s)) ≤ length s + 1
unfolding lines
unlines-length [] = omega arith
unlines-length (x ∷ s) = go (eqb x 10) (parts 10 [] s) (unlines-length s)
  where
    go : (b : Bool) (ls : List (List ℕ)) → length (unlines ls) ≤ length s + 1 → length (unlines (cond b ([] ∷ ls) (push x ls))) ≤ suc (length s) + 1
    go true ls h = omega arith
    go false [] h = omega arith
    go false (l ∷ ls) h = omega arith

-- each list takes the bytes of its lines, and seven for its line `events`
pub lists-bytes : (s : List ℕ) → 7 * length (list_lines s) + length (flat_map unlines (list_lines s)) ≤ length s + 1
unfolding list_lines flat_map
lists-bytes s = go (parted_from false (lines s)) (parted-bytes false (lines s))
  where
    go : (ps : List (List (List ℕ))) → list_bytes ps ≤ length (unlines (lines s)) + 7
        → 7 * length (drop 1 ps) + length (flat_map unlines (drop 1 ps)) ≤ length s + 1
    go [] r = omega (arith, unlines-length s)
    go (p ∷ ps) r = let e = length-append (unlines p) (flat_map unlines ps) in omega (arith, unlines-length s)

pub lists-few : (s : List ℕ) → 7 * length (list_lines s) ≤ length s + 1
lists-few s = omega (arith, lists-bytes s)
