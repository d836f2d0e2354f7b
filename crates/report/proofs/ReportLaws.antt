-- Laws of specs/Report: the lines one behind the other, and how long a report is.
use mathlib.Core.Path.{◌≡◌, refl}
use mathlib.Core.Bool.{Bool, true, false, cond}
use mathlib.Core.Logic.{◌⊎◌, inl, inr}
use mathlib.Core.List.{List, ◌++◌}
use Prim.Native.Nat.{ℕ, zero, suc, ◌+◌, ◌*◌, ◌<◌, ◌≤◌}
use native.Mathlib.Nat.{mul-suc}
use native.Mathlib.Numerals.{add-one}
use native.Mathlib.Omega.{arith}
use lib.Dec.{ltb, eqb}
use lib.ListN.{length, get_or, length-append}
use borrow.Author.Tests.{eqb-true}
use Rattle.plans.specs.Refusals.{Verdict}
use Rattle.text.specs.Bytes.{bytes}
use Rattle.text.specs.Output.{over}
use Rattle.text.proofs.OutputLaws.{decimal-length}
use Rattle.text.proofs.TestLaws.{passed_or_failed}
use Rattle.counter.specs.declared.Tally.{Tally}
use Rattle.counter.specs.Counting.{count_of}
use Rattle.gates.specs.Gate.{Region, regions}
use Rattle.tables.specs.Table.{nth_region}
use Rattle.tables.specs.Head.{dimensions, gates}
use Rattle.tables.specs.Refusals.{table_verdict}
use Rattle.tables.specs.Compile.{plan_of}
use Rattle.tables.specs.Columns.{columns_verdict}
use Rattle.tables.proofs.Acceptance.{Accepted}
use Rattle.events.specs.Parting.{table_part}
use Rattle.events.specs.Listing.{Events, list, ragged, column_lines, events_of}
use Rattle.events.specs.Printing.{numbers_line, count_line, taken_line, spoilt_line, refused_line, unless_refused}
use Rattle.events.proofs.PrintingLaws.{Written, WrittenFrom, written-more}
use Rattle.report.specs.Report.{region_line, region_lines, count_numbers, tally_lines, events_lines, printed, report_of}
use Rattle.report.specs.Inner.Short.{Short}
use Rattle.compiler.proofs.VerdictLaws.{number-accepted}
use Rattle.report.proofs.AcceptedLaws.{names-short}

-- ---- how long the lines are

count-length : (name : List ℕ) (n : ℕ) → length (count_line name n) ≤ length name + 22
unfolding count_line
count-length name n = simp length-append (omega (arith, decimal-length n))

taken-length : (n : ℕ) → length (taken_line n) ≤ 27
unfolding taken_line
taken-length n = count-length (bytes "taken") n

spoilt-length : (n : ℕ) → length (spoilt_line n) ≤ 28
unfolding spoilt_line
spoilt-length n = count-length (bytes "spoilt") n

pub taken-short : (n : ℕ) {k : ℕ} → k ≡ length (taken_line n) → k ≤ 27
taken-short n e = omega (arith, taken-length n)

pub spoilt-short : (n : ℕ) {k : ℕ} → k ≡ length (spoilt_line n) → k ≤ 28
spoilt-short n e = omega (arith, spoilt-length n)

pub refused-length : (number place : ℕ) → length (refused_line number place) ≤ 50
unfolding refused_line
refused-length number place = simp length-append (omega (arith, decimal-length number, decimal-length place))

-- ---- regions with short names

module _ (rs : List Region) (numbers : ℕ → List ℕ) where
  pub lines_more : (k : ℕ) → region_lines rs numbers (k + 1) ≡ region_lines rs numbers k ++ region_line rs numbers k
  unfolding region_lines
  lines_more k = rw add-one

  -- where none of the lines is longer than so much
  pub lines-length : (most m k : ℕ) → ((r : ℕ) → r < m → length (region_line rs numbers r) ≤ most) → k ≤ m → length (region_lines rs numbers k) ≤ most * k
  unfolding region_lines
  lines-length most m zero s h = omega arith
  lines-length most m (suc k) s h =
      let i : most * suc k ≡ most * k + most = mul-suc most k in
      simp length-append (omega (arith, i, lines-length most m k s (omega arith), s k (omega arith)))

-- the same numbers of each region make the same lines
pub lines_same : (rs : List Region) (f g : ℕ → List ℕ) (k : ℕ) → ((r : ℕ) → r < k → f r ≡ g r) → region_lines rs f k ≡ region_lines rs g k
unfolding region_lines region_line
lines_same rs f g zero e = refl
lines_same rs f g (suc k) e = rw (lines_same rs f g k (λ r h. e r (omega arith)), e k (omega arith))

pub line-length : (rs : List Region) (counts : List ℕ) (m : ℕ) → Short rs m → (r : ℕ) → r < m → length (region_line rs (count_numbers counts) r) ≤ 38
unfolding region_line count_line
line-length rs counts m s r h = omega (arith, count-length (nth_region rs r).name (get_or counts r 0), s r h)

-- ---- the lines written one behind the other over d

module _ (rs : List Region) (numbers : ℕ → List ℕ) (d : List ℕ) where
  pub lines_none : Written (region_lines rs numbers 0) d 0 d
  unfolding region_lines over
  lines_none = (refl, refl)

  pub lines_next : (r at : ℕ) {x : List ℕ} → Written (region_lines rs numbers r) d at x → {y name : List ℕ} {c : ℕ} → name ≡ (nth_region rs r).name
      → WrittenFrom at (numbers_line name (numbers r)) x c y → Written (region_lines rs numbers (r + 1)) d (at + c) y
  unfolding region_line
  lines_next r at w e v = rw (lines_more rs numbers r, ← e) (written-more (region_lines rs numbers r) d _ w v)

module _ (rs : List Region) (counts d : List ℕ) (r at : ℕ) {x : List ℕ} (w : Written (region_lines rs (count_numbers counts) r) d at x) where
  pub count_next : {y name : List ℕ} {n c : ℕ} → name ≡ (nth_region rs r).name → n ≡ get_or counts r 0 → WrittenFrom at (count_line name n) x c y
      → Written (region_lines rs (count_numbers counts) (r + 1)) d (at + c) y
  unfolding count_line
  count_next e f v = lines_next rs (count_numbers counts) d r at w e (rw f at v)

  pub lines-short : (m : ℕ) → Short rs m → r ≤ m → at ≤ 38 * r
  lines-short m s h = omega (arith, w.0, lines-length rs (count_numbers counts) 38 m r (line-length rs counts m s) h)

-- the lines of the regions, then `taken`, `spoilt`
pub tally-written : (rs : List Region) (t : Tally) (d : List ℕ) (m : ℕ) {x y z : List ℕ} {a b c : ℕ} → m ≡ length rs
    → Written (region_lines rs (count_numbers t.counts) m) d a x
    → WrittenFrom a (taken_line t.taken) x b y → WrittenFrom (a + b) (spoilt_line t.spoilt) y c z → Written (tally_lines rs t) d (a + b + c) z
unfolding tally_lines
tally-written rs t d m e u v w =
    let p = region_lines rs (count_numbers t.counts) (length rs) in
    written-more (p ++ taken_line t.taken) d _ (written-more p d (taken_line t.taken) (rw e at u) v) w

tally-length : (rs : List Region) (t : Tally) → length rs ≤ 64 → Short rs (length rs) → length (tally_lines rs t) ≤ 2487
unfolding tally_lines
tally-length rs t h s =
    let lines = lines-length rs (count_numbers t.counts) 38 (length rs) (length rs) (line-length rs t.counts (length rs) s) (omega arith) in
    simp length-append (omega (arith, lines, taken-length t.taken, spoilt-length t.spoilt))

-- ---- a report has at most 4,096 bytes, so that it is never cut in a slice of so many

pub unless-fits : (most : ℕ) (v : Verdict) (lines : List ℕ) → 50 ≤ most → (v.number ≡ 0 → length lines ≤ most) → length (unless_refused v lines) ≤ most
unless-fits most v lines h f = go (passed_or_failed (eqb v.number 0))
  where
    go : (eqb v.number 0 ≡ true) ⊎ (eqb v.number 0 ≡ false) → length (unless_refused v lines) ≤ most
    go (inl e) = rw e (f (eqb-true v.number 0 e))
    go (inr e) = rw e (omega (arith, refused-length v.number v.place))

module _ (table : List ℕ) (a : Accepted 4096 table) where
  events-fit : (es : Events) → length (events_lines table es) ≤ 4096
  events-fit (ragged line) = omega (arith, refused-length 23 line)
  events-fit (list values) =
      let c = count_of (plan_of table) values in
      unless-fits 4096 c.verdict (tally_lines (regions (gates table)) c.tally) (omega arith)
      (λ e. omega (arith, tally-length (regions (gates table)) c.tally a.rules.few (names-short 4096 table a)))

printed-fits : (table : List ℕ) (columns : List (List ℕ)) (es : Events) → length (printed table columns es) ≤ 4096
unfolding printed
printed-fits table columns es =
    unless-fits 4096 (table_verdict 4096 table) (unless_refused (columns_verdict table columns) (events_lines table es)) (omega arith)
    (λ e.
    unless-fits 4096 (columns_verdict table columns) (events_lines table es) (omega arith) (λ f. events-fit table (number-accepted 4096 table e) es))

pub report_fits : (input : List ℕ) → length (report_of input) ≤ 4096
unfolding report_of
report_fits input = go (ltb 65536 (length input))
  where
    go : (b : Bool)
        → length (cond b (refused_line 1 0)
        (printed (table_part input) (column_lines false input) (events_of true (length (dimensions (table_part input))) input))) ≤ 4096
    go true = omega (arith, refused-length 1 0)
    go false = printed-fits (table_part input) (column_lines false input) (events_of true (length (dimensions (table_part input))) input)
