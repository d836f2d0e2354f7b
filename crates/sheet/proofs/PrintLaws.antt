-- Laws of the lines of a sheet: a line is written field behind field.
use mathlib.Core.Path.{◌≡◌, refl, sym, ◌∙◌}
use mathlib.Core.List.{List, [], ◌∷◌, ◌++◌, flat_map, append_assoc, append-nil}
use Prim.Native.Nat.{ℕ, ◌+◌, ◌*◌, ◌<◌, ◌≤◌}
use native.Mathlib.Numerals.{add-one}
use native.Mathlib.Omega.{arith}
use lib.ListN.{length, get_or, drop, length-append, length-take, length-drop, take-append-drop}
use borrow.Author.Tests.{lt-ltb}
use Rattle.text.specs.Bounded.{tab}
use Rattle.text.specs.Bytes.{bytes}
use Rattle.text.specs.Output.{over}
use Rattle.text.specs.Inner.Writing.{over_from}
use Rattle.text.proofs.BoundedLaws.{length-tab}
use Rattle.text.proofs.OutputLaws.{decimal-length, over-length}
use Rattle.counter.specs.declared.Tally.{Tally}
use Rattle.gates.specs.Gate.{Region, regions}
use Rattle.tables.specs.Table.{nth_region}
use Rattle.tables.specs.Head.{gates}
use Rattle.stepwriter.specs.Inner.Parents.{number_of_parent}
use Rattle.events.specs.Printing.{number_field, numbers_text, numbers_line, count_line}
use Rattle.events.proofs.PrintingLaws.{Written, WrittenFrom, written-more, from_more}
use Rattle.report.specs.Report.{region_lines}
use Rattle.report.proofs.ReportLaws.{lines_next}
use Rattle.sheet.specs.Inner.Columns.{column_of}
use Rattle.sheet.specs.Inner.Numbers.{count_by, numbers_by, summaries_by, lines_by}

-- ---- writing from an index on

from-none : (a : ℕ) (d : List ℕ) → d ≡ over_from a [] d
unfolding over_from over
from-none a d = sym (take-append-drop a d)

pub from-length : (a : ℕ) (q d : List ℕ) → length (over_from a q d) ≡ length d
unfolding over_from
from-length a q d = simp length-append (omega (arith, over-length q (drop a d), length-take a d, length-drop a d))

-- ---- fields of numbers

pub field_short : (x : ℕ) {c : ℕ} → c ≡ length (number_field x) → c ≤ 21
field_short x e = omega (arith, decimal-length x)

fields-length : (xs : List ℕ) → length (flat_map number_field xs) ≤ 21 * length xs
unfolding flat_map
fields-length [] = omega arith
fields-length (x ∷ xs) = simp length-append (omega (arith, decimal-length x, fields-length xs))

fields_append : (xs ys : List ℕ) → flat_map number_field (xs ++ ys) ≡ flat_map number_field xs ++ flat_map number_field ys
unfolding flat_map
fields_append [] ys = refl
fields_append (x ∷ xs) ys = rw (fields_append xs ys) (sym (append_assoc (number_field x) (flat_map number_field xs) (flat_map number_field ys)))

text_append : (xs ys : List ℕ) → numbers_text (xs ++ ys) ≡ flat_map number_field xs ++ numbers_text ys
unfolding flat_map
text_append [] ys = refl
text_append (x ∷ xs) ys = rw (text_append xs ys) (sym (append_assoc (number_field x) (flat_map number_field xs) (numbers_text ys)))

-- ---- a column

module _ (columns : List ℕ) (r : ℕ) where
  pub column-length : (k : ℕ) → length (flat_map number_field (column_of columns k r)) ≤ 21 * k
  unfolding column_of
  column-length k =
      let f : ℕ → ℕ = λ j. get_or columns (j * 67 + r) 0 in
      omega (arith, length-tab f k, fields-length (tab f k))

  column-more : (j : ℕ) → flat_map number_field (column_of columns (j + 1) r)
      ≡ flat_map number_field (column_of columns j r) ++ number_field (get_or columns (j * 67 + r) 0)
  unfolding column_of flat_map
  column-more j = rw (add-one, fields_append, append-nil)

  pub column-none : (at : ℕ) (d : List ℕ) → WrittenFrom at (flat_map number_field (column_of columns 0 r)) d 0 d
  unfolding column_of flat_map
  column-none at d = (refl, from-none at d)

  pub column-next : (at j : ℕ) (d : List ℕ) {x y : List ℕ} {n b c : ℕ} → WrittenFrom at (flat_map number_field (column_of columns j r)) d b x
      → n ≡ get_or columns (j * 67 + r) 0 → WrittenFrom (at + b) (number_field n) x c y
      → WrittenFrom at (flat_map number_field (column_of columns (j + 1) r)) d (b + c) y
  column-next at j d w e v = rw (column-more j, ← e) (from_more at (flat_map number_field (column_of columns j r)) d _ w v)

-- ---- a line

module _ (at : ℕ) (name xs d : List ℕ) where
  pub listed-written : {x y z : List ℕ} {a b c : ℕ} (s : ℕ) → WrittenFrom at name d a x → WrittenFrom (at + a) (flat_map number_field xs) x b y
      → WrittenFrom (at + (a + b)) (number_field s) y c z → WrittenFrom at (name ++ (flat_map number_field xs ++ number_field s)) d (a + b + c) z
  listed-written s u v w =
      rw append_assoc at (from_more at (name ++ flat_map number_field xs) d (number_field s) (from_more at name d (flat_map number_field xs) u v) w)

  module _ {x : List ℕ} {a : ℕ} (s : ℕ) (u : WrittenFrom at (name ++ (flat_map number_field xs ++ number_field s)) d a x) where
    pub summary_written : {y : List ℕ} {b : ℕ} → WrittenFrom (at + a) (10 ∷ []) x b y → WrittenFrom at (numbers_line name (xs ++ (s ∷ []))) d (a + b) y
    summary_written v =
        let p = name ++ (flat_map number_field xs ++ number_field s) in
        let q : p ++ (10 ∷ []) ≡ numbers_line name (xs ++ (s ∷ [])) = rw (text_append xs (s ∷ [])) (simp append_assoc) in
        rw q at (from_more at p d (10 ∷ []) u v)

    pub region-written : {y z l : List ℕ} {b c e : ℕ} (m n : ℕ) → WrittenFrom (at + a) (number_field m) x b y
        → WrittenFrom (at + (a + b)) (number_field n) y c z → WrittenFrom (at + (a + b + c)) (10 ∷ []) z e l
        → WrittenFrom at (numbers_line name (xs ++ (s ∷ m ∷ n ∷ []))) d (a + b + c + e) l
    region-written m n v w t =
        let p = name ++ (flat_map number_field xs ++ number_field s) in
        let q : ((p ++ number_field m) ++ number_field n) ++ (10 ∷ []) ≡ numbers_line name (xs ++ (s ∷ m ∷ n ∷ [])) =
        rw (text_append xs (s ∷ m ∷ n ∷ [])) (simp append_assoc) in
        let f = from_more at p d (number_field m) u v in
        let g = from_more at (p ++ number_field m) d (number_field n) f w in
        rw q at (from_more at ((p ++ number_field m) ++ number_field n) d (10 ∷ []) g t)

-- ---- the regions

pub count_low : (t : Tally) (r : ℕ) → r < 64 → count_by t r ≡ get_or t.counts r 0
unfolding count_by
count_low t r h = rw (lt-ltb r 64 h)

pub region-next : (rs : List Region) (columns : List ℕ) (k : ℕ) (t : Tally) (d : List ℕ) (r at : ℕ) {x y name : List ℕ} {c parent : ℕ}
    → Written (region_lines rs (numbers_by rs columns k t) r) d at x → name ≡ (nth_region rs r).name → parent ≡ number_of_parent rs (nth_region rs r).parent
    → WrittenFrom at (numbers_line name (column_of columns k r ++ (get_or t.counts r 0 ∷ get_or t.counts r 0 ∷ count_by t parent ∷ []))) x c y
    → Written (region_lines rs (numbers_by rs columns k t) (r + 1)) d (at + c) y
unfolding numbers_by
region-next rs columns k t d r at w e f v = lines_next rs (numbers_by rs columns k t) d r at w e (rw f at v)

-- ---- the lines that follow the regions

pub summaries-written : (at : ℕ) (p q r d : List ℕ) {x y z : List ℕ} {a b c : ℕ} → WrittenFrom at p d a x → WrittenFrom (at + a) q x b y
    → WrittenFrom (at + (a + b)) r y c z → WrittenFrom at (p ++ (q ++ (r ++ []))) d (a + b + c) z
summaries-written at p q r d u v w =
    let e : (p ++ q) ++ r ≡ p ++ (q ++ (r ++ [])) = append_assoc p q r ∙ rw (append-nil r) in
    rw e at (from_more at (p ++ q) d r (from_more at p d q u v) w)

-- ---- a whole sheet

pub events-short : (n : ℕ) {c : ℕ} → c ≡ length (count_line (bytes "events") n) → c ≤ 28
unfolding count_line
events-short n e = rw e (simp length-append (omega (arith, decimal-length n)))

pub sheet_written : (text columns : List ℕ) (k : ℕ) (t : Tally) (d : List ℕ) (m : ℕ) {x y z : List ℕ} {a b c : ℕ} → m ≡ length (regions (gates text))
    → Written (region_lines (regions (gates text)) (numbers_by (regions (gates text)) columns k t) m) d a x → WrittenFrom a (summaries_by columns k t) x b y
    → WrittenFrom (a + b) (count_line (bytes "events") (t.taken + t.spoilt)) y c z → Written (lines_by text columns k t) d (a + b + c) z
unfolding lines_by count_line
sheet_written text columns k t d m e u v w =
    let rs = regions (gates text) in
    let p = region_lines rs (numbers_by rs columns k t) (length rs) in
    written-more (p ++ summaries_by columns k t) d _ (written-more p d (summaries_by columns k t) (rw e at u) v) w
