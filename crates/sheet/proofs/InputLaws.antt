-- What compiling the table and reading the lists of an input answer, and what is printed then.
use mathlib.Core.Path.{◌≡◌, sym, ap, ◌∙◌}
use mathlib.Core.Bool.{true, false}
use mathlib.Core.List.{List}
use Prim.Native.Nat.{ℕ, ◌<◌, ◌≤◌}
use native.Mathlib.Omega.{arith}
use lib.Dec.{eqb}
use lib.IntN.{ℤ}
use lib.ListN.{length, take}
use borrow.Author.Tests.{lt-ltb, le-ltb}
use Rattle.plans.specs.Refusals.{Verdict, passed, refused}
use Rattle.gates.specs.Gate.{regions}
use Rattle.tables.specs.Head.{dimensions, gates}
use Rattle.tables.specs.Refusals.{table_verdict}
use Rattle.tables.specs.Columns.{columns_verdict}
use Rattle.tables.specs.Compile.{Compiling, plan_of, uncompiled, compile_of}
use Rattle.tables.proofs.Acceptance.{passed-accepted}
use Rattle.tables.proofs.CompileLaws.{compiled-verdict, compiled-regions, compiled-plan}
use Rattle.compiler.proofs.VerdictLaws.{words-fit, length-kept, refused-number}
use Rattle.events.specs.Parting.{table_part}
use Rattle.events.specs.Listing.{ragged_line, column_lines, value_lists}
use Rattle.events.specs.Printing.{refused_line}
use Rattle.events.proofs.ListsLaws.{lists-few}
use Rattle.sheet.specs.Sheet.{sheet_lines, sheet_printed, sheet_of}
use Rattle.sheet.specs.Inner.Counts.{CountedLists}
use Rattle.sheet.specs.Inner.Numbers.{lines_by}
use Rattle.sheet.specs.declared.counting.Counts.{Counts}
use Rattle.sheet.proofs.SheetLaws.{sheet_written}

-- ---- over 65,536 bytes, or not

pub sheet_long : (input : List ℕ) → 65536 < length input → sheet_of input ≡ refused_line 1 0
unfolding sheet_of
sheet_long input h = rw (lt-ltb 65536 (length input) h)

-- ---- what compiling answered, with room for 4,096 words

module _ (text : List ℕ) (slice after : List ℤ) (room : length slice ≡ 4096) where
  module _ {words m : ℕ} (h : ◌≡◌ {A = Compiling} (record { verdict = passed; words = words; regions = m; slice = after }) (compile_of text slice)) where
    in_room : table_verdict (length slice) text ≡ passed
    in_room = sym (ap (λ (c : Compiling). c.verdict) h ∙ compiled-verdict text slice)

    pub written-accepted : table_verdict 4096 text ≡ passed
    written-accepted = rw room at in_room

    pub written-regions : m ≡ length (regions (gates text))
    written-regions = ap (λ (c : Compiling). c.regions) h ∙ compiled-regions text slice in_room

    pub written-inside : words ≤ length after
    written-inside =
        omega (
          arith,
          words-fit text slice,
          length-kept text slice,
          ap (λ (c : Compiling). c.words) h,
          ap (λ (c : Compiling). length c.slice) h,
        )

    pub written-plan : take words after ≡ plan_of text
    written-plan =
        let fits = (passed-accepted (length slice) text in_room).slice_fits in
        ap (λ (c : Compiling). take c.words c.slice) h ∙ compiled-plan text slice in_room fits

  pub refused-printed : {v : Verdict} → uncompiled after v ≡ compile_of text slice → (columns : List (List ℕ)) (line : ℕ) (lists : List (List ℤ))
      → refused_line v.number v.place ≡ sheet_printed text columns line lists
  unfolding sheet_printed
  refused-printed {v} h columns line lists =
      let z : eqb v.number 0 ≡ false = refused-number text slice h in
      let e : table_verdict 4096 text ≡ v = sym (rw room at (ap (λ (c : Compiling). c.verdict) h ∙ compiled-verdict text slice)) in
      rw (e, z)

-- ---- what is printed of an accepted table

module _ (input table : List ℕ) (short : length input ≤ 65536) (is : table ≡ table_part input) where
  pub input-printed : {n : ℕ} → n ≡ length (dimensions table)
      → sheet_printed table (column_lines true input) (ragged_line true true n input) (value_lists input) ≡ sheet_of input
  unfolding sheet_of
  input-printed e = rw (le-ltb 65536 (length input) short, e, is)

  module _ (accepted : table_verdict 4096 table ≡ passed) (line : ℕ) where
    abbrev printed : List ℕ
    printed = sheet_printed table (column_lines true input) line (value_lists input)

    -- by what testing the column lines of all lists said
    pub wrong-printed : {field : ℕ} → refused 31 field ≡ columns_verdict table (column_lines true input) → refused_line 31 field ≡ printed
    unfolding sheet_printed
    wrong-printed v = rw (accepted, ← v)

    module _ (right : passed ≡ columns_verdict table (column_lines true input)) where
      pub ragged-printed : {k : ℕ} → line ≡ k → 0 < line → refused_line 23 k ≡ printed
      unfolding sheet_printed
      ragged-printed e h = rw (accepted, ← right, lt-ltb 0 line h, e)

      good-printed : line ≡ 0 → sheet_lines table (value_lists input) ≡ printed
      unfolding sheet_printed
      good-printed h = rw (accepted, ← right, le-ltb 0 line (omega arith))

      pub lists-printed : line ≡ 0 → {n : ℕ} → n ≡ length (dimensions table) → line ≡ ragged_line true true n input → (d x : List ℕ) → length d ≡ 627254
          → (c : Counts) → CountedLists (plan_of table) input d c x → lines_by table x c.lists c.total ≡ printed
      lists-printed h {n} f g d x room c counted =
          let good : ragged_line true true n input ≡ 0 = omega (arith, g) in
          sheet_written table input d x accepted (rw f at good) c counted (omega (arith, lists-few input, room)) ∙ good-printed h
