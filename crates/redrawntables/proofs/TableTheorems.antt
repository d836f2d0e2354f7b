-- A table with polygon lines redrawn, any of them and each in its own way, answers as the first. The claims stand in specs/Claim.
use mathlib.Core.Path.{◌≡◌, refl, sym, ◌∙◌}
use mathlib.Core.Bool.{Bool, true, false}
use mathlib.Core.Logic.{◌⊎◌, inl, inr}
use mathlib.Core.List.{List, [], ◌∷◌}
use Prim.Native.Nat.{ℕ, zero, suc, ◌<◌}
use native.Mathlib.Omega.{arith}
use lib.Dec.{eqb}
use lib.IntN.{ℤ}
use lib.ListN.{length, get_or, set}
use Rattle.plans.specs.Refusals.{passed}
use Rattle.plans.specs.Form.{today}
use Rattle.counter.specs.Counting.{Counting, count_of}
use Rattle.text.specs.Lines.{fields, ends_in_lf}
use Rattle.text.proofs.TestLaws.{passed_or_failed}
use Rattle.gates.specs.declared.LineKind.TheVariants.{Poly}
use Rattle.gates.specs.Kinds.{line_kind}
use Rattle.tables.specs.Head.{dimensions, gate_lines, gates, reordered}
use Rattle.tables.specs.Refusals.{table_verdict}
use Rattle.tables.specs.Compile.{plan_of, Compiling, compile_of}
use Rattle.tables.specs.Columns.{is_right}
use Rattle.tables.specs.TableCount.{counted_by, count_table_of}
use Rattle.tables.proofs.GateLaws.{orderly}
use Rattle.tables.proofs.Acceptance.{Accepted, passed-accepted}
use Rattle.tables.proofs.CompileLaws.{compiled-regions, plan-passes}
use Rattle.tables.proofs.TableCountLaws.{table-refused, columns-refused, table_counted}
use Rattle.redrawn.proofs.PlanLaws.{PlanRedrawn, judge_redrawn, count-redrawn}
use Rattle.redrawntables.specs.Lines.{redrawn_line, redrawn_table, kept, drawn, LinesRedrawn, Along, done, more}
use Rattle.redrawntables.specs.Claim.{SameCounting, SameByTable}
use Rattle.redrawntables.proofs.AlikeLaws.{GateAlike, along-length, regions-alike, names-alike, parents_alike, member_alike, outline-alike, unclaimed-alike}
use Rattle.redrawntables.proofs.CompiledLaws.{plan-alike}
use Rattle.redrawntables.proofs.VerdictLaws.{dimensions-redrawn, gate_lines_lem, gates-redrawn, verdict-redrawn}

-- ---- an accepted table

-- two compilings that report as many words and regions, and one counting
same-counted : (slice : List ℤ) (c d : Compiling) (k : Counting) → d.words ≡ c.words → d.regions ≡ c.regions
    → SameCounting (counted_by slice c k) (counted_by slice d k)
same-counted slice c d k w n = go (passed_or_failed (eqb k.verdict.number 0))
  where
    go : (eqb k.verdict.number 0 ≡ true) ⊎ (eqb k.verdict.number 0 ≡ false) → SameCounting (counted_by slice c k) (counted_by slice d k)
    go (inl e) = record { verdict = rw e; words = rw e w; regions = rw e n; tally = rw e }
    go (inr e) = record { verdict = rw e; words = rw e; regions = rw e; tally = rw e }

module _ (slice : ℕ) (text : List ℕ) (e : table_verdict slice text ≡ passed) (ks : List (List ℕ)) (r : LinesRedrawn (gate_lines text) ks) where
  abbrev again : List ℕ
  again = reordered text ks

  a : Accepted slice text
  a = passed-accepted slice text e

  pub alike : Along GateAlike (gates text) (gates again)
  alike = gates-redrawn text a.ends ks r a.lines_good

  plans : PlanRedrawn (plan_of text) (plan_of again)
  unfolding plan_of
  plans =
      rw (dimensions-redrawn text a.ends ks r) (plan-alike (regions-alike alike) (orderly (gates text) a.rules) (length (dimensions text)))

  right-same : (columns : List ℕ) → is_right again columns ≡ is_right text columns
  unfolding is_right
  right-same columns = rw (dimensions-redrawn text a.ends ks r)

  module _ (columns : List ℕ) (lent_slice values : List ℤ) (f : table_verdict (length lent_slice) text ≡ passed) where
    g : table_verdict (length lent_slice) again ≡ passed
    g = verdict-redrawn text a.ends ks r (length lent_slice) ∙ f

    words_same : (compile_of again lent_slice).words ≡ (compile_of text lent_slice).words
    unfolding compile_of
    words_same = rw (f, g) plans.size

    regions-same : (compile_of again lent_slice).regions ≡ (compile_of text lent_slice).regions
    regions-same = compiled-regions again lent_slice g ∙ along-length (regions-alike alike) ∙ sym (compiled-regions text lent_slice f)

    count_same : count_of (plan_of again) values ≡ count_of (plan_of text) values
    count_same = count-redrawn plans (plan-passes slice text a) today (λ kind known. known) values

    counted-redrawn : SameCounting (count_table_of text columns lent_slice values) (count_table_of again columns lent_slice values)
    counted-redrawn = go (passed_or_failed (is_right text columns))
      where
        go : (is_right text columns ≡ true) ⊎ (is_right text columns ≡ false)
            → SameCounting (count_table_of text columns lent_slice values) (count_table_of again columns lent_slice values)
        go (inl right) =
            rw (table_counted text columns lent_slice values f right, table_counted again columns lent_slice values g (right-same columns ∙ right), count_same)
            (same-counted lent_slice (compile_of text lent_slice) (compile_of again lent_slice) (count_of (plan_of text) values) words_same regions-same)
        go (inr wrong) =
            let same_head = dimensions-redrawn text a.ends ks r in
            rw
            (columns-refused text columns lent_slice values f wrong, columns-refused again columns lent_slice values g (right-same columns ∙ wrong), same_head)
            (record { verdict = refl; words = refl; regions = refl; tally = refl })

  pub lines-redrawn : SameByTable text again
  lines-redrawn = record {
    accepted = verdict-redrawn text a.ends ks r;
    dimensions_same = dimensions-redrawn text a.ends ks r;
    names_same = names-alike (regions-alike alike);
    parents_same = parents_alike (regions-alike alike);
    members = λ event n. member_alike event alike n;
    outlines = λ event n. outline-alike event alike n;
    unclaimed_same = λ event. unclaimed-alike event alike;
    judged = judge_redrawn plans (plan-passes slice text a);
    counted = counted-redrawn;
  }

-- ---- a table that is refused is refused alike, with nothing written
pub refused-redrawn : (text columns : List ℕ) (slice values : List ℤ) → ends_in_lf text ≡ true → (ks : List (List ℕ)) → LinesRedrawn (gate_lines text) ks
    → eqb (table_verdict (length slice) text).number 0 ≡ false
    → count_table_of (reordered text ks) columns slice values ≡ count_table_of text columns slice values
refused-redrawn text columns slice values ends ks r e =
    let v = verdict-redrawn text ends ks r (length slice) in
    table-refused (reordered text ks) columns slice values (rw v e) ∙ rw v (sym (table-refused text columns slice values e))

-- ---- one line

all-kept : (ls : List (List ℕ)) → LinesRedrawn ls ls
all-kept [] = done
all-kept (l ∷ ls) = more kept (all-kept ls)

pub one-drawn : (k : ℕ) (back : Bool) (ls : List (List ℕ)) (i : ℕ) → i < length ls → line_kind (fields (get_or ls i [])) ≡ Poly
    → LinesRedrawn ls (set ls i (redrawn_line k back (get_or ls i [])))
one-drawn k back [] i h e = absurd (omega arith)
one-drawn k back (l ∷ ls) zero h e = more (drawn k back e) (all-kept ls)
one-drawn k back (l ∷ ls) (suc i) h e = more kept (one-drawn k back ls i (omega arith) e)

-- the vertices of one `poly` line, from any vertex on and in either direction
module _ (text : List ℕ) (i : ℕ) (h : i < length (gate_lines text)) (poly : line_kind (fields (get_or (gate_lines text) i [])) ≡ Poly)
    (k : ℕ) (back : Bool) where
  line-drawn : LinesRedrawn (gate_lines text) (set (gate_lines text) i (redrawn_line k back (get_or (gate_lines text) i [])))
  line-drawn = one-drawn k back (gate_lines text) i h poly

  -- that line of the table is the line redrawn, and every other one stays; `fields-line` says which fields it has
  pub line-there : ends_in_lf text ≡ true
      → gate_lines (redrawn_table k back text i) ≡ set (gate_lines text) i (redrawn_line k back (get_or (gate_lines text) i []))
  unfolding redrawn_table
  line-there ends = gate_lines_lem text ends _ line-drawn

  pub line-verdict : ends_in_lf text ≡ true → (slice : ℕ) → table_verdict slice (redrawn_table k back text i) ≡ table_verdict slice text
  unfolding redrawn_table
  line-verdict ends = verdict-redrawn text ends _ line-drawn

  pub line-redrawn : (slice : ℕ) → table_verdict slice text ≡ passed → SameByTable text (redrawn_table k back text i)
  unfolding redrawn_table
  line-redrawn slice e = lines-redrawn slice text e _ line-drawn
