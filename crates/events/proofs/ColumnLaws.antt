-- Laws of the column lines: they are found line by line.
use mathlib.Core.Path.{◌≡◌, refl, ◌∙◌, ap}
use mathlib.Core.Bool.{Bool, true, false, cond, ◌&&◌}
use mathlib.Core.Logic.{◌⊎◌, inl, inr}
use mathlib.Core.List.{List, [], ◌∷◌, ◌++◌}
use Prim.Native.Nat.{ℕ, ◌+◌, ◌≤◌, ◌<◌}
use native.Mathlib.Nat.{eq-or-lt_of_le}
use native.Mathlib.Omega.{arith}
use lib.Dec.{ltb, eqb}
use lib.ListN.{length, drop}
use borrow.Author.Tests.{lt-ltb, le-ltb}
use Rattle.std.specs.Prelude.{Some, None}
use Rattle.text.proofs.TestLaws.{and_false}
use Rattle.text.specs.Lines.{push, parts, lines}
use Rattle.text.specs.Inner.Places.{find_from, line_from}
use Rattle.text.proofs.LinesLaws.{find_inside, parts-cut-at, parts-last-at}
use Rattle.events.specs.Parting.{has_events, events_ended, event_part}
use Rattle.events.specs.Listing.{opening, event, opens, read_lines, columns_read, column_lines}
use Rattle.events.specs.Inner.Answers.{parted_of}
use Rattle.events.specs.Inner.Columns.{columns_from, pieces_from}
use Rattle.events.specs.declared.parting.Parted.{Parted}
use Rattle.events.proofs.PartingLaws.{ended-there, start-there, start-missing}

-- ── Lines with what stands behind the last LF ──

module _ (s : List ℕ) (a : ℕ) where
  -- the first from place a on, and those behind it
  pub pieces_next : a ≤ length s → pieces_from s a ≡ line_from s a ∷ pieces_from s (find_from s a 10 + 1)
  unfolding pieces_from line_from
  pieces_next l = rw (le-ltb (length s) a l) (go (eq-or-lt_of_le (find_inside s a 10 l)))
    where
      go : (find_from s a 10 ≡ length s) ⊎ (find_from s a 10 < length s)
          → parts 10 ([] ∷ []) (drop a s) ≡ line_from s a ∷ cond (ltb (length s) (find_from s a 10 + 1)) [] (parts 10 ([] ∷ []) (drop (find_from s a 10 + 1) s))
      go (inl e) = rw (lt-ltb (length s) (find_from s a 10 + 1) (omega arith)) (parts-last-at s a 10 l e)
      go (inr h) = rw (le-ltb (length s) (find_from s a 10 + 1) (omega arith)) (parts-cut-at s a 10 ([] ∷ []) h)

  pub pieces_none : length s < a → pieces_from s a ≡ []
  unfolding pieces_from
  pieces_none l = rw (lt-ltb (length s) a l)

pieces_all : (s : List ℕ) → pieces_from s 0 ≡ parts 10 ([] ∷ []) s
unfolding pieces_from
pieces_all s = rw (le-ltb (length s) 0 (omega arith))

-- they are the lines and, where nothing stands behind the last LF, an empty one
pub pieces_lines : (s : List ℕ) → (last : Bool) × (parts 10 ([] ∷ []) s ≡ lines s ++ cond last ([] ∷ []) [])
unfolding lines
pieces_lines [] = (true, refl)
pieces_lines (x ∷ s) = go (eqb x 10) (pieces_lines s)
  where
    go : (b : Bool) → (last : Bool) × (parts 10 ([] ∷ []) s ≡ parts 10 [] s ++ cond last ([] ∷ []) [])
        → (last : Bool) × (cond b ([] ∷ parts 10 ([] ∷ []) s) (push x (parts 10 ([] ∷ []) s))
        ≡ cond b ([] ∷ parts 10 [] s) (push x (parts 10 [] s)) ++ cond last ([] ∷ []) [])
    go true (last, e) = (last, ap (λ (ls : List (List ℕ)). [] ∷ ls) e)
    go false (last, e) = pushed last (parts 10 [] s) e
      where
        pushed : (last : Bool) (ls : List (List ℕ)) → parts 10 ([] ∷ []) s ≡ ls ++ cond last ([] ∷ []) []
            → (last : Bool) × (push x (parts 10 ([] ∷ []) s) ≡ push x ls ++ cond last ([] ∷ []) [])
        pushed true [] f = (false, rw f)
        pushed false [] f = (false, rw f)
        pushed true (l ∷ ls) f = (true, rw f)
        pushed false (l ∷ ls) f = (false, rw f)

-- ── Column lines from a place on ──

not-columns : (b : Bool) (l : List ℕ) (several : Bool) (ls : List (List ℕ))
    → columns_read (cond b (opening ∷ read_lines several true ls) (event l ∷ read_lines several false ls)) ≡ columns_read (read_lines several b ls)
not-columns true l several ls = refl
not-columns false l several ls = refl

module _ (several : Bool) (s : List ℕ) (a : ℕ) where
  -- a column line
  pub columns-here : a ≤ length s → columns_from several true s a ≡ line_from s a ∷ columns_from several false s (find_from s a 10 + 1)
  unfolding columns_from
  columns-here l = rw (pieces_next s a l)

  -- another line
  pub columns-past : a ≤ length s → columns_from several false s a ≡ columns_from several (opens several (line_from s a)) s (find_from s a 10 + 1)
  unfolding columns_from
  columns-past l = rw (pieces_next s a l) (not-columns (opens several (line_from s a)) (line_from s a) several (pieces_from s (find_from s a 10 + 1)))

  pub columns_end : (next : Bool) → length s < a → columns_from several next s a ≡ []
  unfolding columns_from
  columns_end next l = rw (pieces_none s a l)

-- where there is one list, no further line is a column line
events-only : (ls : List (List ℕ)) → columns_read (read_lines false false ls) ≡ []
events-only [] = refl
events-only (l ∷ ls) = events-only ls

-- ── The column lines of an input ──

module _ (several : Bool) (input : List ℕ) where
  pub columns-opened : (has_events input && events_ended input) ≡ true → column_lines several input ≡ columns_from several true (event_part input) 0
  unfolding column_lines columns_from
  columns-opened h = rw (h, pieces_all (event_part input))

  pub columns-not : (has_events input && events_ended input) ≡ false → column_lines several input ≡ []
  unfolding column_lines
  columns-not h = rw h

-- by what `split` answers
module _ (input : List ℕ) {o : Parted} (p : o ≡ parted_of input) where
  pub opened-is : {a : ℕ} → o.start ≡ Some a → (has_events input && events_ended input) ≡ true
  opened-is f = let e = (start-there input p f).0 in rw (e, ended-there input e)

  pub unopened-is : o.start ≡ None → (has_events input && events_ended input) ≡ false
  unopened-is f = rw (start-missing input p f) (and_false (has_events input))

  module _ (several : Bool) where
    pub columns-split : {a : ℕ} → o.start ≡ Some a → {part : List ℕ} → part ≡ drop a input → column_lines several input ≡ columns_from several true part 0
    columns-split f h = columns-opened several input (opened-is f) ∙ rw ((start-there input p f).1, ← h)

    pub columns-unsplit : o.start ≡ None → column_lines several input ≡ []
    columns-unsplit f = columns-not several input (unopened-is f)

-- one list has one, the line behind `events`
pub columns-one : (input : List ℕ) → (has_events input && events_ended input) ≡ true → column_lines false input ≡ line_from (event_part input) 0 ∷ []
unfolding columns_from
columns-one input h =
    let part = event_part input in
    columns-opened false input h ∙ columns-here false part 0 (omega arith)
    ∙ ap (λ (ls : List (List ℕ)). line_from part 0 ∷ ls) (events-only (pieces_from part (find_from part 0 10 + 1)))
