-- Laws of sums over lists, of a number of each list's tally, and of an input with one list.
use mathlib.Core.Path.{◌≡◌, refl, sym, ap, ap₂, ◌∙◌}
use mathlib.Core.Bool.{Bool, true, false, cond}
use mathlib.Core.Logic.{◌⊎◌, inl, inr}
use mathlib.Core.List.Memᴰ.{head as here}
use mathlib.Core.List.Memᴰ.{tail as there}
use mathlib.Core.List.{List, [], ◌∷◌, ◌++◌, map, flat_map, append-nil}
use Prim.Native.Nat.{ℕ, ◌+◌, ◌%◌, ◌≤◌, ◌<◌}
use native.Mathlib.Omega.{arith}
use lib.IntN.{ℤ}
use lib.ListN.{length, drop, length-map}
use Rattle.text.specs.Bytes.{same, every}
use Rattle.text.specs.Inner.Counts.{without}
use Rattle.text.specs.Lines.{parts, lines, unlines, ends_in_lf}
use Rattle.text.proofs.TestLaws.{and_left, and_right, passed_or_failed}
use Rattle.text.proofs.TextTheorems.{unlines-lines, lines-without}
use Rattle.text.proofs.LinesLaws.{lines_cut, lines_end}
use Rattle.counter.specs.declared.Tally.{Tally}
use Rattle.counter.specs.Counting.{no_tally, count_of}
use Rattle.tallies.specs.Sums.{together, total}
use Rattle.tallies.proofs.SumLaws.{none-count, together-count}
use Rattle.tables.specs.Table.{◌∈◌, sum_of}
use Rattle.tables.specs.Compile.{plan_of}
use Rattle.tables.proofs.SumLaws.{sum_same}
use Rattle.tables.proofs.TextLaws.{part-first}
use Rattle.events.specs.Parting.{table_end, has_events, events_ended, event_part}
use Rattle.events.specs.Listing.{Line, columns, opening, event, read_lines, columns_read, bad_line, ragged_line, column_lines, list, line_values, values, list_part, events_of}
use Rattle.events.specs.Listing.{to_first, parted_lines, list_lines, value_lists}
use Rattle.events.proofs.PartingLaws.{is_opening, end_is}
use Rattle.events.proofs.AnswerLaws.{unragged, behind-good, list-lines, events-good}
use Rattle.events.proofs.EventTheorems.{inside, line-is}
use Rattle.events.proofs.ColumnLaws.{pieces_lines}
use Rattle.events.proofs.ListsLaws.{parted_from, parted-some, opening-lists, lists-first}
use Rattle.sheet.specs.Sheet.{with_sum, count_in, list_tallies}

-- ---- lists of values

-- each list has complete events, of n values
abbrev pub Complete : ℕ → List (List ℤ) → Type 0
Complete n lists = (values : List ℤ) → values ∈ lists → length values % n ≡ 0

-- ---- lists made from lists

pub sum-map : {A B : Type 0} (f : B → ℕ) (g : A → B) (l : List A) → sum_of f (map g l) ≡ sum_of (λ x. f (g x)) l
sum-map f g [] = refl
sum-map f g (x ∷ l) = rw (sum-map f g l)

map-twice : {A B C : Type 0} (f : B → C) (g : A → B) (h : A → C) (l : List A) → ((x : A) → x ∈ l → f (g x) ≡ h x) → map f (map g l) ≡ map h l
map-twice f g h [] e = refl
map-twice f g h (x ∷ l) e = ap₂ ◌∷◌ (e x (here refl)) (map-twice f g h l (λ y m. e y (there m)))

-- ---- a number of a sum of tallies is the sum of the tallies' numbers

abbrev pub Adds : (Tally → ℕ) → Type 0
Adds number = (ts : List Tally) → number (total ts) ≡ sum_of number ts

pub taken-adds : Adds (λ t. t.taken)
unfolding total together no_tally
taken-adds [] = refl
taken-adds (t ∷ ts) = rw (taken-adds ts)

pub unclaimed-adds : Adds (λ t. t.unclaimed)
unfolding total together no_tally
unclaimed-adds [] = refl
unclaimed-adds (t ∷ ts) = rw (unclaimed-adds ts)

pub spoilt-adds : Adds (λ t. t.spoilt)
unfolding total together no_tally
spoilt-adds [] = refl
spoilt-adds (t ∷ ts) = rw (spoilt-adds ts)

pub count-adds : (r : ℕ) → r < 64 → Adds (count_in r)
unfolding total
count-adds r h [] = none-count r
count-adds r h (t ∷ ts) = together-count t (total ts) r h ∙ rw (count-adds r h ts)

-- a number that adds up, and is f of each list
pub record Known (table : List ℕ) (lists : List (List ℤ)) (number : Tally → ℕ) (f : List ℤ → ℕ) : Type 0 where
  pub adds : Adds number
  pub each : (vs : List ℤ) → vs ∈ lists → number (count_of (plan_of table) vs).tally ≡ f vs

-- of each list, and their sum
abbrev pub all_listed : (List ℤ → ℕ) → List (List ℤ) → List ℕ
all_listed f lists = map f lists ++ (sum_of f lists ∷ [])

module _ {table : List ℕ} {lists : List (List ℤ)} {number : Tally → ℕ} {f : List ℤ → ℕ} (known : Known table lists number f) where
  abbrev tally_by : List ℤ → Tally
  tally_by vs = (count_of (plan_of table) vs).tally

  pub number-summed : number (total (list_tallies table lists)) ≡ sum_of f lists
  unfolding list_tallies
  number-summed = known.adds (map tally_by lists) ∙ sum-map number tally_by lists ∙ sum_same _ f lists known.each

  pub number-listed : with_sum number (list_tallies table lists) ≡ all_listed f lists
  unfolding list_tallies
  number-listed = ap₂ (λ (ns : List ℕ) (n : ℕ). ns ++ (n ∷ [])) (map-twice number tally_by f lists known.each) number-summed

-- ---- lines parted into one list

to-first-length : (l : List ℕ) (ps : List (List (List ℕ))) → 1 ≤ length ps → length (to_first l ps) ≡ length ps
to-first-length l [] h = absurd (omega arith)
to-first-length l (p ∷ ps) h = refl

-- are that list, without its column line
parted-one : (headed : Bool) (ls : List (List ℕ)) → length (parted_from headed ls) ≡ 1 → parted_from headed ls ≡ drop (cond headed 1 0) ls ∷ []
parted-one true [] h = refl
parted-one false [] h = refl
parted-one true (l ∷ ls) h = parted-one false ls h
parted-one false (l ∷ ls) h = go (is_opening l) h (parted-some (read_lines true true ls)) (parted-some (read_lines true false ls)) (parted-one false ls)
  where
    go : (b : Bool) → length (parted_lines (cond b (opening ∷ read_lines true true ls) (event l ∷ read_lines true false ls))) ≡ 1
        → 1 ≤ length (parted_from true ls) → 1 ≤ length (parted_from false ls) → (length (parted_from false ls) ≡ 1 → parted_from false ls ≡ ls ∷ [])
        → parted_lines (cond b (opening ∷ read_lines true true ls) (event l ∷ read_lines true false ls)) ≡ (l ∷ ls) ∷ []
    go true k s t r = absurd (omega arith)
    go false k s t r = rw (r (omega (arith, to-first-length l (parted_from false ls) t)))

-- they are read alike where there may be several lists and where there is one; so is an empty line behind them
abbrev behind_last : Bool → List (List ℕ)
behind_last last = cond last ([] ∷ []) []

last-alike : (headed last : Bool) → read_lines true headed (behind_last last) ≡ read_lines false headed (behind_last last)
unfolding same
last-alike true true = refl
last-alike true false = refl
last-alike false true = refl
last-alike false false = refl

read_alike : (headed last : Bool) (ls : List (List ℕ)) → length (parted_from headed ls) ≡ 1
    → read_lines true headed (ls ++ behind_last last) ≡ read_lines false headed (ls ++ behind_last last)
read_alike headed last [] h = last-alike headed last
read_alike true last (l ∷ ls) h = ap (λ (rs : List Line). columns l ∷ rs) (read_alike false last ls h)
read_alike false last (l ∷ ls) h = go (is_opening l) h (parted-some (read_lines true true ls))
    (parted-some (read_lines true false ls)) (read_alike false last ls)
  where
    go : (b : Bool) → length (parted_lines (cond b (opening ∷ read_lines true true ls) (event l ∷ read_lines true false ls))) ≡ 1
        → 1 ≤ length (parted_from true ls) → 1 ≤ length (parted_from false ls)
        → (length (parted_from false ls) ≡ 1 → read_lines true false (ls ++ behind_last last) ≡ read_lines false false (ls ++ behind_last last))
        → cond b (opening ∷ read_lines true true (ls ++ behind_last last)) (event l ∷ read_lines true false (ls ++ behind_last last))
        ≡ event l ∷ read_lines false false (ls ++ behind_last last)
    go true k s t r = absurd (omega arith)
    go false k s t r = rw (r (omega (arith, to-first-length l (parted_from false ls) t)))

-- ---- the lists of an input are the lines behind `events`, parted

lists-opened : (input : List ℕ) → has_events input ≡ true → list_lines input ≡ parted_from true (lines (event_part input))
unfolding event_part
lists-opened input h = lists-first input ∙ opening-lists input (table_end input) (inside input h) (line-is input h)

-- ---- each list has one column line

last-column : (headed : Bool) → length (columns_read (read_lines true headed ([] ∷ []))) + cond headed 0 1 ≡ 1
unfolding same
last-column true = refl
last-column false = refl

-- lines of which the last ends in LF, with the empty one behind it
columns-each : (headed : Bool) (ls : List (List ℕ))
    → length (columns_read (read_lines true headed (ls ++ ([] ∷ [])))) + cond headed 0 1 ≡ length (parted_from headed ls)
columns-each headed [] = last-column headed ∙ go headed
  where
    go : (b : Bool) → 1 ≡ length (parted_from b [])
    go true = refl
    go false = refl
columns-each true (l ∷ ls) = omega (arith, columns-each false ls)
columns-each false (l ∷ ls) = go (is_opening l) (columns-each true ls) (columns-each false ls) (parted-some (read_lines true false ls))
  where
    more : List (List ℕ)
    more = ls ++ ([] ∷ [])

    go : (b : Bool) → length (columns_read (read_lines true true more)) + 0 ≡ length (parted_from true ls)
        → length (columns_read (read_lines true false more)) + 1 ≡ length (parted_from false ls) → 1 ≤ length (parted_from false ls)
        → length (columns_read (cond b (opening ∷ read_lines true true more) (event l ∷ read_lines true false more))) + 1
        ≡ length (parted_lines (cond b (opening ∷ read_lines true true ls) (event l ∷ read_lines true false ls)))
    go true e f s = omega arith
    go false e f s = omega (arith, to-first-length l (parted_from false ls) s)

unlined_pieces : (ls : List (List ℕ)) → every (without 10) ls ≡ true → parts 10 ([] ∷ []) (unlines ls) ≡ ls ++ ([] ∷ [])
unlined_pieces [] e = refl
unlined_pieces (l ∷ ls) e =
    part-first 10 ([] ∷ []) l (unlines ls) (and_left (without 10 l) (every (without 10) ls) e)
    ∙ ap (λ (ps : List (List ℕ)). l ∷ ps) (unlined_pieces ls (and_right (without 10 l) (every (without 10) ls) e))

ended_pieces : (s : List ℕ) → (lines s ≡ []) ⊎ (ends_in_lf s ≡ true) → parts 10 ([] ∷ []) s ≡ lines s ++ ([] ∷ [])
ended_pieces s (inr e) = ap (parts 10 ([] ∷ [])) (sym (unlines-lines s e)) ∙ unlined_pieces (lines s) (lines-without s)
ended_pieces [] (inl e) = rw e
ended_pieces (x ∷ s) (inl e) = absurd (omega (arith, ap length (sym e ∙ lines_cut (x ∷ s) 0 (omega arith))))

-- so of an input without a bad line
pub lists-headed : (n : ℕ) (input : List ℕ) → ragged_line true true n input ≡ 0 → length (column_lines true input) ≡ length (list_lines input)
unfolding column_lines
lists-headed n input good = go (unragged true true n input good)
  where
    go : (has_events input ≡ false) ⊎ ((has_events input ≡ true) × (events_ended input ≡ true) × (bad_line true true n (event_part input) ≡ 0))
        → length (column_lines true input) ≡ length (list_lines input)
    go (inl h) =
        let none : list_lines input ≡ [] = lists-first input ∙ rw (lines_end input (table_end input) (omega (arith, end_is input h))) in
        rw (h, none)
    go (inr h) =
        let pieces = ended_pieces (event_part input) (behind-good true true n input good).1 in
        let lists = lists-opened input h.0 in
        let each = columns-each true (lines (event_part input)) in
        rw (h.0, h.1, pieces, lists) (omega (arith, each))

-- ---- an input without a further `events`

module _ (input : List ℕ) (few : length (list_lines input) ≤ 1) where
  abbrev behind : List (List ℕ)
  behind = lines (event_part input)

  module _ (h : has_events input ≡ true) where
    parted_once : length (parted_from true behind) ≡ 1
    parted_once = omega (arith, few, ap length (lists-opened input h), parted-some (read_lines true true behind))

    pub one-list-there : list_lines input ≡ drop 1 behind ∷ []
    one-list-there = lists-opened input h ∙ parted-one true behind parted_once

  -- the lowest bad line is that where one list is read
  bad-alike : (n : ℕ) → length (parted_from true behind) ≡ 1 → bad_line true true n (event_part input) ≡ bad_line false true n (event_part input)
  unfolding bad_line
  bad-alike n h = let e = rw append-nil at (read_alike true false behind h) in rw e

  pub same_line : (n : ℕ) → ragged_line true true n input ≡ ragged_line false true n input
  unfolding ragged_line
  same_line n = go (passed_or_failed (has_events input))
    where
      go : (has_events input ≡ true) ⊎ (has_events input ≡ false) → ragged_line true true n input ≡ ragged_line false true n input
      go (inr h) = rw h
      go (inl h) = rw (bad-alike n (parted_once h))

  -- and so are the column lines
  pub same_columns : column_lines true input ≡ column_lines false input
  unfolding column_lines
  same_columns = go (passed_or_failed (has_events input))
    where
      go : (has_events input ≡ true) ⊎ (has_events input ≡ false) → column_lines true input ≡ column_lines false input
      go (inr h) = rw h
      go (inl h) =
          let pieces = pieces_lines (event_part input) in
          rw (pieces.1, read_alike true pieces.0 behind (parted_once h))

-- ---- an input with one list: it has the events that the input has where one list is read

module _ (n : ℕ) (input : List ℕ) (good : ragged_line true true n input ≡ 0) (vs : List ℤ) (one : value_lists input ≡ vs ∷ []) where
  listed-values : map (flat_map line_values) (list_lines input) ≡ vs ∷ []
  unfolding value_lists
  listed-values = one

  pub one-there : length (list_lines input) ≤ 1
  one-there = omega (arith, length-map (list_lines input) (flat_map line_values), ap length listed-values)

  none-there : has_events input ≡ false → ⊥
  none-there h =
      let none : list_lines input ≡ [] = lists-first input ∙ rw (lines_end input (table_end input) (omega (arith, end_is input h))) in
      let z = rw none at listed-values in
      omega (arith, ap length z)

  its_values : has_events input ≡ true → values (list_part true (event_part input)) ≡ vs
  unfolding values
  its_values h =
      let e = rw (one-list-there input one-there h) at listed-values in
      rw (list-lines true (event_part input)) (let f : flat_map line_values (drop 1 (lines (event_part input))) ≡ vs = cc in f)

  pub one-events : events_of true n input ≡ list vs
  one-events = go (passed_or_failed (has_events input))
    where
      go : (has_events input ≡ true) ⊎ (has_events input ≡ false) → events_of true n input ≡ list vs
      go (inr h) = absurd (none-there h)
      go (inl h) = events-good true n input (omega (arith, same_line input one-there n, good)) ∙ ap list (its_values h)
