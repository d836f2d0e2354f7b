-- Laws of lines that are not `events`, put before that line and the events of an input without its column line: they part the new input, and the same values
-- are listed.
use mathlib.Core.Path.{◌≡◌, refl, sym, ◌∙◌, ap}
use mathlib.Core.Bool.{Bool, true, false, not}
use mathlib.Core.Logic.{◌⊎◌, inl, inr}
use mathlib.Core.List.{List, [], ◌∷◌, ◌++◌, append_assoc}
use Prim.Native.Nat.{ℕ, zero, suc, ◌+◌, ◌-◌, ◌≤◌, ◌<◌}
use native.Mathlib.Omega.{arith}
use lib.Dec.{eqb}
use lib.IntN.{ℤ}
use lib.ListN.{length, get_or, drop, length-append, drop_of_length-le}
use lib.Seq.{take-append_seam, get_or-append-add, drop-drop, drop_at}
use borrow.Author.Tests.{lt-ltb, not-true}
use Rattle.text.specs.Bytes.{bytes, same, every, before}
use Rattle.text.specs.Inner.Counts.{without}
use Rattle.text.specs.Lines.{parts, lines, unlines, ends_in_lf}
use Rattle.text.proofs.TestLaws.{true≢false, and_left, and_right, lt_or_ge}
use Rattle.events.specs.Parting.{table_lines, has_events, table_end, table_part, events_ended, event_part}
use Rattle.events.specs.Listing.{opening, list, read_lines, is_event, is_good, bad_line, ragged_line, values, list_part, events_of}
use Rattle.events.proofs.BadLine.{bad-is}
use Rattle.events.proofs.AnswerLaws.{behind-good, list-lines, list-good, events-listed}
use Rattle.events.proofs.EventTheorems.{listed_are}
use Rattle.tables.proofs.TextLaws.{part-first}

-- a line that is not `events`
abbrev pub is_other : List ℕ → Bool
is_other line = not (same (bytes "events") line)

-- the line `events`, its LF, and the events
abbrev pub opened : List ℕ → List ℕ
opened part = bytes "events" ++ (10 ∷ part)

opened-lines : (part : List ℕ) → lines (opened part) ≡ bytes "events" ∷ lines part
unfolding lines
opened-lines part = part-first 10 [] (bytes "events") part refl

-- ---- the lines of events behind a column line

end_next : (x y : ℕ) (s : List ℕ) → ends_in_lf (x ∷ (y ∷ s)) ≡ ends_in_lf (y ∷ s)
unfolding ends_in_lf
end_next x y s =
    let a : suc (suc (length s)) - 1 ≡ suc (length s) = omega arith in
    let b : suc (length s) - 1 ≡ length s = omega arith in
    rw (a, b)

-- the end of a text that ends in LF does so too, or has no line
end_behind : (k : ℕ) (s : List ℕ) → ends_in_lf s ≡ true → (lines (drop k s) ≡ []) ⊎ (ends_in_lf (drop k s) ≡ true)
unfolding lines
end_behind zero s e = inr e
end_behind (suc k) [] e = inl refl
end_behind (suc k) (x ∷ []) e = inl (rw (drop_of_length-le {A = ℕ} [] {i = k} (omega arith)))
end_behind (suc k) (x ∷ (y ∷ s)) e = end_behind k (y ∷ s) (sym (end_next x y s) ∙ e)

list-ended : (part : List ℕ) → (lines part ≡ []) ⊎ (ends_in_lf part ≡ true) → (lines (list_part true part) ≡ []) ⊎ (ends_in_lf (list_part true part) ≡ true)
unfolding list_part
list-ended part (inl e) = inl (list-lines true part ∙ ap (drop 1) e)
list-ended part (inr e) = end_behind (before (λ (c : ℕ). eqb c 10) part + 1) part e

-- where every line is an event, none is read as a bad one
read-good : (n : ℕ) (ls : List (List ℕ)) → every (is_event n) ls ≡ true → (k : ℕ) → is_good n (get_or (read_lines false false ls) k opening) ≡ true
read-good n [] e k = refl
read-good n (l ∷ ls) e zero = and_left (is_event n l) (every (is_event n) ls) e
read-good n (l ∷ ls) e (suc k) = read-good n ls (and_right (is_event n l) (every (is_event n) ls) e) k

-- so the lines behind a column line have no bad one where the input has none
list_unbroken : (n : ℕ) (input : List ℕ) → ragged_line false true n input ≡ 0 → bad_line false false n (list_part true (event_part input)) ≤ 0
list_unbroken n input z = go (lt_or_ge 0 bad)
  where
    part : List ℕ
    part = list_part true (event_part input)

    bad : ℕ
    bad = bad_line false false n part

    none : (is_good n (get_or (read_lines false false (lines part)) (bad - 1) opening) ≡ false) ⊎ ((bad ≡ length (lines part)) × (ends_in_lf part ≡ false))
        → (lines part ≡ []) ⊎ (ends_in_lf part ≡ true) → 0 < bad → ⊥
    none (inl e) f l = true≢false (sym (read-good n (lines part) (list-good true n input z) (bad - 1)) ∙ e)
    none (inr e) (inl f) l = omega (arith, e.0, ap length f)
    none (inr e) (inr f) l = true≢false (sym f ∙ e.1)

    go : (0 < bad) ⊎ (bad ≤ 0) → bad ≤ 0
    go (inl l) = absurd (none (bad-is false false n part l) (list-ended (event_part input) (behind-good false true n input z).1) l)
    go (inr l) = l

module _ (ls : List (List ℕ)) (whole : every (without 10) ls ≡ true) (other : every is_other ls ≡ true) where
  -- ---- behind such lines

  lines-behind : (r : List ℕ) → lines (unlines ls ++ r) ≡ ls ++ lines r
  unfolding lines
  lines-behind r = go ls whole
    where
      go : (ks : List (List ℕ)) → every (without 10) ks ≡ true → parts 10 [] (unlines ks ++ r) ≡ ks ++ parts 10 [] r
      go [] e = refl
      go (k ∷ ks) e =
          ap (parts 10 []) (append_assoc k (10 ∷ unlines ks) r)
          ∙ part-first 10 [] k (unlines ks ++ r) (and_left (without 10 k) (every (without 10) ks) e)
          ∙ ap (λ (l : List (List ℕ)). k ∷ l) (go ks (and_right (without 10 k) (every (without 10) ks) e))

  before-behind : (ks : List (List ℕ)) → before (same (bytes "events")) (ls ++ ks) ≡ length ls + before (same (bytes "events")) ks
  before-behind ks = go ls other
    where
      go : (js : List (List ℕ)) → every is_other js ≡ true → before (same (bytes "events")) (js ++ ks) ≡ length js + before (same (bytes "events")) ks
      go [] e = omega arith
      go (j ∷ js) e =
          let f = not-true (same (bytes "events") j) (and_left (is_other j) (every is_other js) e) in
          rw f (omega (arith, go js (and_right (is_other j) (every is_other js) e)))

  -- ---- with the line `events` and what follows

  module _ (part : List ℕ) where
    joined-lines : lines (unlines ls ++ opened part) ≡ ls ++ (bytes "events" ∷ lines part)
    joined-lines = lines-behind (opened part) ∙ rw (opened-lines part)

    joined-count : table_lines (unlines ls ++ opened part) ≡ length ls
    unfolding table_lines same
    joined-count = rw (joined-lines, before-behind (bytes "events" ∷ lines part)) (omega arith)

    joined_has : has_events (unlines ls ++ opened part) ≡ true
    unfolding has_events
    joined_has =
        rw (joined-count, joined-lines, length-append ls (bytes "events" ∷ lines part))
        (lt-ltb (length ls) (length ls + suc (length (lines part))) (omega arith))

    joined_end : table_end (unlines ls ++ opened part) ≡ length (unlines ls)
    unfolding table_end
    joined_end = rw (joined_has, joined-count, joined-lines, take-append_seam ls (bytes "events" ∷ lines part))

    joined-part : table_part (unlines ls ++ opened part) ≡ unlines ls
    unfolding table_part
    joined-part = rw joined_end (take-append_seam (unlines ls) (opened part))

    joined-ended : events_ended (unlines ls ++ opened part) ≡ true
    unfolding events_ended
    joined-ended = rw (joined_end, get_or-append-add (unlines ls) (opened part) 6 0)

    joined-events : event_part (unlines ls ++ opened part) ≡ part
    unfolding event_part
    joined-events = rw (
      joined_end,
      ← drop-drop 7 (length (unlines ls)) (unlines ls ++ opened part),
      drop_at (unlines ls) (opened part)
          (length (unlines ls)) refl,
    )

    joined-listed : (n : ℕ) → bad_line false false n part ≤ 0 → events_of false n (unlines ls ++ opened part) ≡ list (values part)
    unfolding list_part
    joined-listed n h =
        let X = unlines ls ++ opened part in
        events-listed false n X joined_has joined-ended (rw joined-events h) ∙ rw joined-events

  -- with the events of an input that are listed, without its column line: the lines stand in the table's place, and the same values are listed
  pub rejoined : (n : ℕ) (input : List ℕ) (vs : List ℤ) → events_of true n input ≡ list vs
      → (table_part (unlines ls ++ opened (list_part true (event_part input))) ≡ unlines ls)
      × (events_of false n (unlines ls ++ opened (list_part true (event_part input))) ≡ list vs)
  rejoined n input vs good =
      let part = list_part true (event_part input) in
      let listed = listed_are true n input vs good in
      (joined-part part, joined-listed part n (list_unbroken n input listed.0) ∙ ap list (sym listed.1))
