-- A table with polygon lines redrawn and its lines in another order: by name the counts of a tally and the bits of a judgement are those of the first
-- table.
use mathlib.Core.Path.{◌≡◌, refl, sym, ap, ◌∙◌}
use mathlib.Core.Bool.{Bool, true}
use mathlib.Core.List.Permᴰ
use mathlib.Core.List.{List}
use Prim.Native.Nat.{ℕ, ◌%◌}
use lib.IntN.{ℤ}
use lib.ListN.{length}
use Rattle.plans.specs.Indices.{how_many}
use Rattle.plans.specs.Refusals.{passed}
use Rattle.plans.proofs.IndexLaws.{how_many-same}
use Rattle.counter.specs.Counting.{event_at}
use Rattle.counter.specs.Judging.{judge_of}
use Rattle.gates.specs.Gate.{Event, Region, regions}
use Rattle.tables.specs.Table.{◌∈◌}
use Rattle.tables.specs.Head.{LineOrder, gate_lines, gates, reordered}
use Rattle.tables.specs.Members.{member, unclaimed}
use Rattle.tables.specs.Refusals.{table_verdict}
use Rattle.tables.specs.Compile.{plan_of}
use Rattle.tables.specs.Columns.{is_right}
use Rattle.tables.specs.TableCount.{TableCounting, count_table_of}
use Rattle.tables.specs.Demand.{dims, event_count, count_of_name, Demand3}
use Rattle.tables.specs.Judging.{JudgedByName}
use Rattle.tables.proofs.Acceptance.{Accepted, passed-accepted}
use Rattle.tables.proofs.ReorderLaws.{own-order}
use Rattle.tables.proofs.OrderedAgain.{ordered-again}
use Rattle.tables.proofs.JudgingLaws.{judged_by_name}
use Rattle.tables.proofs.Demand.{demand_3}
use Rattle.redrawntables.specs.Lines.{LinesRedrawn}
use Rattle.redrawntables.specs.Claim.{SameByTable, FoundByName, SameTally, SameJudgement}
use Rattle.redrawntables.proofs.AlikeLaws.{along-to, regions-alike}
use Rattle.redrawntables.proofs.VerdictLaws.{verdict-redrawn}
use Rattle.redrawntables.proofs.TableTheorems.{alike, lines-redrawn}

-- text is the accepted table, drawn_text the same with polygon lines redrawn, again that one with its gate lines in another order
module _ (text : List ℕ) (e : table_verdict 4096 text ≡ passed) (ks : List (List ℕ)) (r : LinesRedrawn (gate_lines text) ks)
    (js : List (List ℕ)) (order : LineOrder (reordered text ks) js) where
  abbrev drawn_text : List ℕ
  drawn_text = reordered text ks

  abbrev again : List ℕ
  again = reordered drawn_text js

  a : Accepted 4096 text
  a = passed-accepted 4096 text e

  accepted : table_verdict 4096 drawn_text ≡ passed
  accepted = verdict-redrawn text a.ends ks r 4096 ∙ e

  same : SameByTable text drawn_text
  same = lines-redrawn 4096 text e ks r

  same_n : dims drawn_text ≡ dims text
  same_n = ap length same.dimensions_same

  -- the table's own order of lines
  itself : reordered text (gate_lines text) ≡ text
  itself = own-order 4096 text a (gate_lines text) (Permᴰ.refl (gate_lines text))

  -- a region has one of its name in the table redrawn
  named : {x : Region} → x ∈ regions (gates text) → (y : Region) × (y ∈ regions (gates drawn_text)) × (y.name ≡ x.name)
  named m = let f = along-to (regions-alike (alike 4096 text e ks r)) m in (f.0, f.1, f.2.name)

  found-again : FoundByName text again
  found-again x m =
      let y = named m in
      let f = (ordered-again drawn_text accepted js order).found y.0 y.1 in
      (rw y.2 at f.0, rw (← y.2) (ap (λ (z : Region). z.name) f.1))

  -- ---- counting

  module _ (columns : List ℕ) (right : is_right text columns ≡ true) (slice values : List ℤ) (room : length slice ≡ 4096)
      (complete : length values % dims text ≡ 0) where
    abbrev c : TableCounting
    c = count_table_of text columns slice values

    abbrev d : TableCounting
    d = count_table_of again columns slice values

    own : Demand3 text text values c
    own = demand_3 text columns slice values text e (gate_lines text) (Permᴰ.refl (gate_lines text)) (sym itself) right room complete

    right-drawn : is_right drawn_text columns ≡ true
    unfolding is_right
    right-drawn = rw same.dimensions_same right

    other : Demand3 drawn_text again values d
    other = demand_3 again columns slice values drawn_text accepted js order refl right-drawn room (rw same_n complete)

    -- how many listed events the lines of the two tables say it of
    said_same : (f g : Event → Bool) → ((event : Event) → f event ≡ g event)
        → how_many (λ j. f (event_at (dims drawn_text) values j)) (event_count drawn_text values)
        ≡ how_many (λ j. g (event_at (dims text) values j)) (event_count text values)
    said_same f g h =
        rw same_n (how_many-same (λ j. f (event_at (dims text) values j)) (λ j. g (event_at (dims text) values j)) (event_count text values)
        (λ j _. h (event_at (dims text) values j)))

    count_same : (x : Region) → x ∈ regions (gates text) → count_of_name again d.tally x.name ≡ count_of_name text c.tally x.name
    count_same x m =
        let y = named m in
        let its-count : count_of_name again d.tally x.name
        ≡ how_many (λ j. member (gates drawn_text) (event_at (dims drawn_text) values j) x.name) (event_count drawn_text values) =
        rw y.2 at (other.by_name y.0 y.1) in
        its-count
        ∙ said_same (λ event. member (gates drawn_text) event x.name) (λ event. member (gates text) event x.name) (λ event. same.members event x.name)
        ∙ sym (own.by_name x m)

    pub redrawn_in_any-order : SameTally text again c d
    redrawn_in_any-order = record {
      unrefused = (own.unrefused, other.unrefused);
      taken = other.all_taken ∙ rw same_n (sym own.all_taken);
      spoilt = other.all_spoilt ∙ rw same_n (sym own.all_spoilt);
      unclaimed_same =
          other.all_unclaimed ∙ said_same (unclaimed (gates drawn_text)) (unclaimed (gates text)) same.unclaimed_same ∙ sym own.all_unclaimed;
      found = found-again;
      by_name = count_same;
    }

  -- ---- judging

  pub redrawn-judged_by_name : (event : Event) → length event ≡ dims text
      → SameJudgement text again (judge_of (plan_of text) event) (judge_of (plan_of again) event)
  redrawn-judged_by_name event long =
      let own : JudgedByName text text event (judge_of (plan_of text) event) =
      rw itself at (judged_by_name text e (gate_lines text) (Permᴰ.refl (gate_lines text)) event long) in
      let other = judged_by_name drawn_text accepted js order event (long ∙ sym same_n) in
      record {
        verdict = other.verdict_is ∙ sym own.verdict_is;
        found = found-again;
        member_bit = λ x m.
            let y = named m in
            rw y.2 at (other.member_bit y.0 y.1) ∙ same.members event x.name ∙ sym (own.member_bit x m);
        outline_bit = λ x m.
            let y = named m in
            rw y.2 at (other.outline_bit y.0 y.1) ∙ same.outlines event x.name ∙ sym (own.outline_bit x m);
      }
