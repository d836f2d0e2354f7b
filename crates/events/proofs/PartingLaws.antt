-- Laws of specs/Parting.
use mathlib.Core.Path.{◌≡◌, refl, sym, ◌∙◌, ap, ap₂}
use mathlib.Core.Bool.{Bool, true, false, cond, ◌&&◌}
use mathlib.Core.Logic.{◌⊎◌, inl, inr}
use mathlib.Core.List.{List, [], ◌∷◌}
use Prim.Native.Nat.{ℕ, suc, ◌+◌, ◌≤◌, ◌<◌}
use native.Mathlib.Omega.{arith}
use native.Mathlib.Nat.{zero-add}
use lib.Dec.{ltb, eqb}
use lib.ListN.{length, get_or, take, drop, drop_of_length-le, get_or-eq_default}
use lib.Pointwise.{pointwise}
use borrow.Author.Tests.{lt-ltb, le-ltb, eqb-true}
use Rattle.std.specs.Prelude.{Some, None}
use Rattle.std.proofs.lemmas.Option.{cond_some}
use Rattle.std.specs.Bool.{then_some}
use Rattle.text.specs.Bytes.{bytes, same}
use Rattle.text.specs.Lines.{push, parts, lines, unlines}
use Rattle.text.specs.Inner.Places.{starts_from, line_starts, line_from}
use Rattle.text.proofs.TestLaws.{lt_or_ge, passed_or_failed}
use Rattle.text.proofs.BytesLaws.{before_le}
use Rattle.text.proofs.LinesLaws.{starts-at, starts-length}
use Rattle.events.specs.Parting.{table_lines, table_end, has_events, events_ended, event_part}
use Rattle.events.specs.Inner.Answers.{events_line, events_start, parted_of, opening_of}
use Rattle.events.specs.declared.parting.Parted.{Parted}
use Rattle.events.specs.declared.parting.Opening.{Opening}
use Rattle.events.proofs.SearchLaws.{Passed, found_number, found_below, found-place, missing_number, missing_count, missing_place}

-- a text has at most as many lines as bytes
pub lines_le : (s : List ℕ) → length (lines s) ≤ length s
unfolding lines
lines_le [] = omega arith
lines_le (x ∷ s) = go (eqb x 10) (parts 10 [] s) (lines_le s)
  where
    go : (b : Bool) (ls : List (List ℕ)) → length ls ≤ length s → length (cond b ([] ∷ ls) (push x ls)) ≤ suc (length s)
    go true ls h = omega arith
    go false [] h = omega arith
    go false (l ∷ ls) h = omega arith

-- the table ends where line `table_lines` begins
pub end_at : (s : List ℕ) → table_end s ≡ get_or (line_starts s) (table_lines s) (length s)
unfolding table_end has_events line_starts
end_at s = go (lt_or_ge (table_lines s) (length (lines s)))
  where
    go : (table_lines s < length (lines s)) ⊎ (length (lines s) ≤ table_lines s)
        → cond (ltb (table_lines s) (length (lines s))) (length (unlines (take (table_lines s) (lines s)))) (length s)
        ≡ get_or (starts_from 0 (lines s)) (table_lines s) (length s)
    go (inl h) = rw (lt-ltb (table_lines s) (length (lines s)) h) (sym (starts-at 0 (lines s) (table_lines s) (length s) h ∙ zero-add _))
    go (inr h) =
        rw (le-ltb (table_lines s) (length (lines s)) h)
        (sym (get_or-eq_default (starts_from 0 (lines s)) (length s) (omega (arith, starts-length 0 (lines s)))))

-- without the line `events` it is at the end, and nothing stands behind it
module _ (s : List ℕ) (h : has_events s ≡ false) where
  pub end_is : table_end s ≡ length s
  unfolding table_end
  end_is = rw h

  pub events_no_part : event_part s ≡ []
  unfolding event_part
  events_no_part = drop_of_length-le s {i = table_end s + 7} (omega (arith, end_is))

-- the line `events`
abbrev pub is_opening : List ℕ → Bool
is_opening = same (bytes "events")

module _ (s : List ℕ) (a k : ℕ) (p : Passed is_opening s a k) where
  pub opening-found : a < length s → is_opening (line_from s a) ≡ true → record { at = a; line = Some (k + 1) } ≡ opening_of s
  unfolding opening_of events_line has_events table_lines
  opening-found l h =
      let n = found_number is_opening s a k p l h in
      sym (rw (end_at s, found-place is_opening s a k p l h, n, lt-ltb k (length (lines s)) (found_below is_opening s a k p l h)))

  pub opening_missing : length s ≤ a → record { at = length s; line = None } ≡ opening_of s
  unfolding opening_of events_line has_events table_lines
  opening_missing l =
      let n = missing_number is_opening s a k p l in
      sym (rw (end_at s, missing_place is_opening s a k p l, n, le-ltb k (length (lines s)) (omega (arith, missing_count is_opening s a k p l))))

then_is : {A : Type 0} (b : Bool) (x : A) → then_some b x ≡ cond b (Some x) None
then_is true x = refl
then_is false x = refl

-- the answer made of what the search found
pub parted-is : (s : List ℕ) (o : Opening) (b : Bool) → o ≡ opening_of s → b ≡ eqb (get_or s (o.at + 6) 0) 10
    → record { table = o.at; line = o.line; start = then_some b (o.at + 7) } ≡ parted_of s
unfolding opening_of parted_of events_start events_ended
parted-is s o b e f = rw (then_is b (o.at + 7), f, e)

-- the line `events` is a line of the input
pub table_lines_le : (s : List ℕ) → table_lines s ≤ length s
unfolding table_lines
table_lines_le s = omega (arith, before_le is_opening (lines s), lines_le s)

-- an LF where that line would end shows that it is there
pub ended-there : (s : List ℕ) → events_ended s ≡ true → has_events s ≡ true
unfolding events_ended
ended-there s e = go (passed_or_failed (has_events s))
  where
    go : (has_events s ≡ true) ⊎ (has_events s ≡ false) → has_events s ≡ true
    go (inl h) = h
    go (inr h) =
        let b : get_or s (table_end s + 6) 0 ≡ 10 = eqb-true (get_or s (table_end s + 6) 0) 10 e in
        let z : get_or s (table_end s + 6) 0 ≡ 0 = get_or-eq_default s 0 (omega (arith, end_is s h)) in
        absurd (omega arith)

-- an Option that a test made None
test_failed : {A : Type 0} (b : Bool) (x : A) → cond b (Some x) None ≡ None → b ≡ false
test_failed true x e = absurd cc
test_failed false x e = refl

-- by what `split` answers
module _ (s : List ℕ) {o : Parted} (p : o ≡ parted_of s) where
  pub line-there : {k : ℕ} → o.line ≡ Some k → (has_events s ≡ true) × (table_lines s + 1 ≡ k)
  unfolding parted_of events_line
  line-there e = cond_some (has_events s) _ _ (sym (ap (λ (q : Parted). q.line) p) ∙ e)

  pub line-missing : o.line ≡ None → has_events s ≡ false
  unfolding parted_of events_line
  line-missing e = test_failed (has_events s) _ (sym (ap (λ (q : Parted). q.line) p) ∙ e)

  pub start-there : {a : ℕ} → o.start ≡ Some a → (events_ended s ≡ true) × (event_part s ≡ drop a s)
  unfolding parted_of events_start event_part
  start-there e =
      let m = cond_some (events_ended s) _ _ (sym (ap (λ (q : Parted). q.start) p) ∙ e) in
      (m.0, rw m.1)

  pub start-missing : o.start ≡ None → events_ended s ≡ false
  unfolding parted_of events_start
  start-missing e = test_failed (events_ended s) _ (sym (ap (λ (q : Parted). q.start) p) ∙ e)

  pub part-is : event_part s ≡ drop (o.table + 7) s
  unfolding parted_of event_part
  part-is = sym (ap (λ (q : Parted). drop (q.table + 7) s) p)

eqb-sym : (x y : ℕ) → eqb x y ≡ eqb y x
eqb-sym x y = go (passed_or_failed (eqb x y)) (passed_or_failed (eqb y x))
  where
    go : (eqb x y ≡ true) ⊎ (eqb x y ≡ false) → (eqb y x ≡ true) ⊎ (eqb y x ≡ false) → eqb x y ≡ eqb y x
    go (inl e) g = rw (eqb-true x y e)
    go (inr e) (inl g) = rw (eqb-true y x g)
    go (inr e) (inr g) = e ∙ sym g

-- the line is the quoted text, as `==` tells it
pub same_as : (l t : List ℕ) → pointwise eqb l t ≡ same t l
unfolding same
same_as [] [] = refl
same_as [] (y ∷ t) = refl
same_as (x ∷ l) [] = refl
same_as (x ∷ l) (y ∷ t) = ap₂ ◌&&◌ (eqb-sym x y) (same_as l t)
