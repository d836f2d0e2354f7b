-- The input of a report: its table, its column line, how many values an event has, and the values that are counted.
use mathlib.Core.Path.{◌≡◌, refl, sym, ap, ◌∙◌}
use mathlib.Core.Bool.{Bool, true, false, cond, ◌&&◌}
use mathlib.Core.Logic.{◌⊎◌, inl, inr}
use mathlib.Core.List.{List, [], ◌∷◌, map}
use Prim.Native.Nat.{ℕ, ◌<◌, ◌≤◌}
use native.Mathlib.Omega.{arith}
use Rattle.std.specs.Prelude.{Some, None, Result, Ok, Err}
use lib.Dec.{leb, eqb}
use lib.IntN.{ℤ}
use lib.ListN.{length, take, drop, length-map}
use lib.Seq.{take-append_seam}
use borrow.Author.Tests.{lt-ltb, le-ltb, le-leb, eqb-true}
use Rattle.plans.specs.Refusals.{passed}
use Rattle.text.specs.Inner.Places.{line_from}
use Rattle.text.specs.Numbers.{clamp}
use Rattle.text.specs.Output.{over}
use Rattle.text.proofs.OutputLaws.{over-fits}
use Rattle.text.proofs.TestLaws.{passed_or_failed}
use Rattle.counter.specs.Counting.{Counting}
use Rattle.gates.specs.Gate.{regions}
use Rattle.tables.specs.Head.{dimensions, gates}
use Rattle.tables.specs.Refusals.{table_verdict}
use Rattle.tables.specs.Compile.{plan_of}
use Rattle.tables.specs.Columns.{right_line, columns_verdict}
use Rattle.tables.proofs.ColumnLaws.{right-passes}
use Rattle.tables.proofs.ColumnTheorems.{right-line-is}
use Rattle.compiler.proofs.VerdictLaws.{verdict-numbered}
use Rattle.events.specs.Parting.{has_events, events_ended, table_part, event_part}
use Rattle.events.specs.Listing.{Events, list, ragged, column_lines, events_of}
use Rattle.events.specs.Inner.Answers.{parted_of, listed, answer_of}
use Rattle.events.specs.Printing.{refused_line, unless_refused}
use Rattle.events.specs.declared.parting.Parted.{Parted}
use Rattle.events.specs.declared.listing.ListRefusal.{ListRefusal}
use Rattle.events.specs.declared.listing.ListRefusal.TheVariants.{Ragged, Short}
use Rattle.events.proofs.PartingLaws.{start-there}
use Rattle.events.proofs.EventTheorems.{values-few}
use Rattle.events.proofs.CountedLaws.{count_clamped}
use Rattle.events.proofs.ColumnLaws.{opened-is, unopened-is, columns-not, columns-one}
use Rattle.report.specs.Report.{counted_lines, events_lines, printed, report_of}
use Rattle.report.specs.Inner.ColumnLine.{column_line}

-- ---- over 65,536 bytes, or not

module _ (input : List ℕ) where
  pub report_long : 65536 < length input → report_of input ≡ refused_line 1 0
  unfolding report_of
  report_long h = rw (lt-ltb 65536 (length input) h)

  pub report_printed : length input ≤ 65536
      → report_of input ≡ printed (table_part input) (column_lines false input) (events_of true (length (dimensions (table_part input))) input)
  unfolding report_of
  report_printed h = rw (le-ltb 65536 (length input) h)

-- ---- the table

pub table_is : (input : List ℕ) {o : Parted} → o ≡ parted_of input → take o.table input ≡ table_part input
unfolding parted_of table_part
table_is input e = rw e

-- ---- the column line

-- from how the input is parted
module _ (input : List ℕ) {o : Parted} (e : o ≡ parted_of input) where
  pub column-opened : {a : ℕ} → o.start ≡ Some a → {part line : List ℕ} → part ≡ drop a input → line ≡ line_from part 0 → line ≡ column_line input
  unfolding column_line
  column-opened f g h = h ∙ rw (opened-is input e f, (start-there input e f).1, g)

  pub column-none : o.start ≡ None → {line : List ℕ} → line ≡ right_line (take o.table input) → line ≡ column_line input
  unfolding column_line
  column-none f h = h ∙ rw (unopened-is input e f, table_is input e)

module _ (input : List ℕ) where
  -- of an accepted table: where no list is opened, the right line stands for none
  column-verdict : table_verdict 4096 (table_part input) ≡ passed
      → columns_verdict (table_part input) (column_line input ∷ []) ≡ columns_verdict (table_part input) (column_lines false input)
  unfolding column_line
  column-verdict accepted = go (passed_or_failed (has_events input && events_ended input))
    where
      go : ((has_events input && events_ended input) ≡ true) ⊎ ((has_events input && events_ended input) ≡ false)
          → columns_verdict (table_part input)
          (cond (has_events input && events_ended input) (line_from (event_part input) 0) (right_line (table_part input)) ∷ [])
          ≡ columns_verdict (table_part input) (column_lines false input)
      go (inl e) = rw (e, columns-one input e)
      go (inr e) =
          rw (e, columns-not false input e) (right-passes (table_part input) (right_line (table_part input)) (right-line-is 4096 (table_part input) accepted))

  -- a refused table does not look at it
  column-printed : (es : Events) → printed (table_part input) (column_line input ∷ []) es ≡ printed (table_part input) (column_lines false input) es
  unfolding printed
  column-printed es = go (passed_or_failed (eqb (table_verdict 4096 (table_part input)).number 0))
    where
      go : (eqb (table_verdict 4096 (table_part input)).number 0 ≡ true) ⊎ (eqb (table_verdict 4096 (table_part input)).number 0 ≡ false)
          → unless_refused (table_verdict 4096 (table_part input))
          (unless_refused (columns_verdict (table_part input) (column_line input ∷ [])) (events_lines (table_part input) es))
          ≡ unless_refused (table_verdict 4096 (table_part input))
          (unless_refused (columns_verdict (table_part input) (column_lines false input)) (events_lines (table_part input) es))
      go (inl e) =
          let z = verdict-numbered 4096 (table_part input) (eqb-true (table_verdict 4096 (table_part input)).number 0 e) in
          rw (column-verdict z)
      go (inr e) = rw e

-- ---- the values

module _ (n : ℕ) (input : List ℕ) (h : length input ≤ 65536) where
  -- 65,536 bytes hold at most 32,768 values
  pub listed-few : length (listed (events_of true n input)) ≤ 32768
  listed-few = go (events_of true n input) refl
    where
      go : (es : Events) → events_of true n input ≡ es → length (listed es) ≤ 32768
      go (list vs) e = omega (arith, values-few true n input vs e, length-map vs clamp)
      go (ragged line) e = omega arith

-- ---- what reading the events answered

-- counting the values as they are kept prints what counting the values does
kept-printed : (table : List ℕ) (columns : List (List ℕ)) (vs : List ℤ) → printed table columns (list (map clamp vs)) ≡ printed table columns (list vs)
unfolding printed
kept-printed table columns vs =
    ap (λ (c : Counting). unless_refused (table_verdict 4096 table) (unless_refused (columns_verdict table columns) (counted_lines (regions (gates table)) c)))
    (count_clamped (plan_of table) vs)

-- the events that an answer tells of
module _ (room : ℕ) where
  is-list : (es : Events) (k : ℕ) → answer_of es room ≡ Ok k
      → (k ≡ length (listed es)) × ((table : List ℕ) (columns : List (List ℕ)) → printed table columns (list (listed es)) ≡ printed table columns es)
  is-list (list vs) k e = (go (leb (length vs) room) e ∙ sym (length-map vs clamp), λ table columns. kept-printed table columns vs)
    where
      go : (b : Bool) → cond b (Ok (length vs)) (Err Short) ≡ Ok k → k ≡ length vs
      go true f = cc
      go false f = absurd (cc)
  is-list (ragged line) k e = absurd (cc)

  is-ragged : (es : Events) (line : ℕ) → answer_of es room ≡ Err (Ragged line) → es ≡ ragged line
  is-ragged (list vs) line e = go (leb (length vs) room) e
    where
      go : (b : Bool) → cond b (Ok (length vs)) (Err Short) ≡ Err (Ragged line) → list vs ≡ ragged line
      go true f = absurd (cc)
      go false f = absurd (cc)
  is-ragged (ragged l) line e = cc

  not_short : (es : Events) → length (listed es) ≤ room → answer_of es room ≡ Err Short → ⊥
  not_short (list vs) h e =
      let l = length-map vs clamp in
      let f : ◌≡◌ {A = Result ℕ ListRefusal} (Ok (length vs)) (Err Short) = rw (le-leb (length vs) room (omega arith)) at e in
      cc
  not_short (ragged line) h e = cc

-- events read over the beginning of a list of 32,768, which became x
module _ (n : ℕ) (input : List ℕ) (h : length input ≤ 65536) (d x : List ℤ) (room : length d ≡ 32768) (a : Result ℕ ListRefusal)
    (e : a ≡ answer_of (events_of true n input) (length d)) (f : x ≡ over (listed (events_of true n input)) d) where
  pub never_short : a ≡ Err Short → ⊥
  never_short q = not_short (length d) (events_of true n input) (omega (arith, room, listed-few n input h)) (sym e ∙ q)

  module _ (k : ℕ) (q : a ≡ Ok k) where
    pub values-room : k ≤ 32768
    values-room = omega (arith, (is-list (length d) (events_of true n input) k (sym e ∙ q)).0, listed-few n input h)

    values_are : take k x ≡ listed (events_of true n input)
    values_are =
        let v = listed (events_of true n input) in
        let l : k ≡ length v = (is-list (length d) (events_of true n input) k (sym e ∙ q)).0 in
        rw (l, f, over-fits v d (omega (arith, room, listed-few n input h))) (take-append_seam v (drop (length v) d))

    pub values_listed : (table : List ℕ) (columns : List (List ℕ)) → printed table columns (list (take k x)) ≡ printed table columns (events_of true n input)
    values_listed table columns = rw values_are ((is-list (length d) (events_of true n input) k (sym e ∙ q)).1 table columns)

  pub line-ragged : (line : ℕ) → a ≡ Err (Ragged line) → (table : List ℕ) (columns : List (List ℕ))
      → printed table columns (ragged line) ≡ printed table columns (events_of true n input)
  line-ragged line q table columns = ap (printed table columns) (sym (is-ragged (length d) (events_of true n input) line (sym e ∙ q)))

-- ---- the whole

pub input-printed : (input table line : List ℕ) (n : ℕ) (es : Events) → length input ≤ 65536
    → table ≡ table_part input → line ≡ column_line input → n ≡ length (dimensions table)
    → printed table (line ∷ []) es ≡ printed table (line ∷ []) (events_of true n input) → printed table (line ∷ []) es ≡ report_of input
input-printed input table line n es h e l f g =
    g ∙ rw (f, e, l) (column-printed input (events_of true (length (dimensions (table_part input))) input) ∙ sym (report_printed input h))
