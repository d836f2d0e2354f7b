-- Laws of specs/Running: the lines of a run one behind the other, and how long they are.
use mathlib.Core.Path.{◌≡◌, refl, ◌∙◌}
use mathlib.Core.List.{List, [], ◌++◌, append_assoc}
use Prim.Native.Nat.{ℕ, ◌+◌, ◌≤◌}
use native.Mathlib.Numerals.{add-one}
use native.Mathlib.Omega.{arith}
use lib.ListN.{length, get_or, length-append}
use Rattle.text.specs.Bytes.{bytes}
use Rattle.text.specs.Output.{decimal, over, Writes}
use Rattle.text.specs.Inner.Writing.{WritesFrom}
use Rattle.text.proofs.OutputLaws.{decimal-length}
use Rattle.text.proofs.WritingLaws.{over-from}
use Rattle.counter.specs.declared.Tally.{Tally}
use Rattle.events.specs.Printing.{count_line, taken_line, spoilt_line}
use Rattle.events.proofs.PrintingLaws.{Written, WrittenFrom, written-more}
use Rattle.runreport.specs.Running.{number_line, number_lines, numbered_tally, unread_text}

-- ---- how long the lines are

pub count-length : (name : List ℕ) (n : ℕ) → length (count_line name n) ≤ length name + 22
unfolding count_line
count-length name n = simp length-append (omega (arith, decimal-length n))

pub taken-short : (n : ℕ) {k : ℕ} → k ≡ length (taken_line n) → k ≤ 27
unfolding taken_line
taken-short n e = omega (arith, count-length (bytes "taken") n)

pub spoilt-short : (n : ℕ) {k : ℕ} → k ≡ length (spoilt_line n) → k ≤ 28
unfolding spoilt_line
spoilt-short n e = omega (arith, count-length (bytes "spoilt") n)

pub number_short : (n : ℕ) {k : ℕ} → k ≡ length (decimal n) → k ≤ 20
number_short n e = omega (arith, decimal-length n)

pub count-short : (n : ℕ) {k : ℕ} → k ≡ length (count_line [] n) → k ≤ 22
count-short n e = omega (arith, count-length [] n)

-- ---- one line

-- what is written from the beginning on
pub written-first : (q d : List ℕ) {y : List ℕ} {c : ℕ} → WritesFrom 0 q d y c → Writes q d y c
unfolding over
written-first q d w = (w.0, over-from [] d d _ q 0 refl refl w.1)

pub unread_written : (line : ℕ) (d : List ℕ) {y : List ℕ} {c : ℕ} → WritesFrom 0 (count_line (bytes "unread") line) d y c → Writes (unread_text line) d y c
unfolding unread_text
unread_written line d w = written-first (count_line (bytes "unread") line) d w

-- ---- the lines of the regions

-- a number and a count behind it are a line
line-parts : (r n : ℕ) → decimal r ++ count_line [] n ≡ count_line (decimal r) n
unfolding count_line
line-parts r n = refl

module _ (counts d : List ℕ) where
  pub lines_none : Written (number_lines counts 0) d 0 d
  unfolding number_lines over
  lines_none = (refl, refl)

  pub lines-written : (r : ℕ) {n a c e : ℕ} {x y z : List ℕ} → Written (number_lines counts r) d a x → WrittenFrom a (decimal r) x c y
      → n ≡ get_or counts r 0 → WrittenFrom (a + c) (count_line [] n) y e z → Written (number_lines counts (r + 1)) d (a + c + e) z
  unfolding number_lines number_line
  lines-written r {n} w₁ w₂ g w₃ =
      let q : (number_lines counts r ++ decimal r) ++ count_line [] n ≡ number_lines counts r ++ count_line (decimal r) (get_or counts r 0) =
      append_assoc (number_lines counts r) (decimal r) (count_line [] n) ∙ rw (line-parts r n, g) in
      let v₂ = written-more (number_lines counts r) d (decimal r) w₁ w₂ in
      rw add-one (rw q at (written-more (number_lines counts r ++ decimal r) d (count_line [] n) v₂ w₃))

-- the lines of the regions, then `taken`, `spoilt`
pub tally-written : (k : ℕ) (t : Tally) (d : List ℕ) {a b c : ℕ} {x y z : List ℕ} → Written (number_lines t.counts k) d a x
    → WrittenFrom a (taken_line t.taken) x b y → WrittenFrom (a + b) (spoilt_line t.spoilt) y c z → Written (numbered_tally k t) d (a + b + c) z
unfolding numbered_tally
tally-written k t d w₁ w₂ w₃ =
    written-more (number_lines t.counts k ++ taken_line t.taken) d (spoilt_line t.spoilt)
    (written-more (number_lines t.counts k) d (taken_line t.taken) w₁ w₂) w₃
