-- Laws of testing column lines one behind the other: the first wrong one decides.
use mathlib.Core.Path.{◌≡◌, refl, sym, ap, ◌∙◌}
use mathlib.Core.Bool.{Bool, true, false, not, cond, ◌&&◌}
use mathlib.Core.Logic.{◌⊎◌, inl, inr}
use mathlib.Core.List.{List, [], ◌∷◌, ◌++◌}
use Prim.Native.Nat.{ℕ, ◌+◌, ◌<◌, ◌≤◌}
use native.Mathlib.Omega.{arith}
use lib.ListN.{length}
use Rattle.plans.specs.Refusals.{Verdict, passed, refused}
use Rattle.text.specs.Inner.Places.{find_from, line_from}
use Rattle.text.proofs.TestLaws.{passed_or_failed}
use Rattle.text.proofs.LinesLaws.{find_inside}
use Rattle.tables.specs.Columns.{is_right, columns_verdict}
use Rattle.tables.proofs.ColumnTheorems.{verdict-right}
use Rattle.events.specs.Listing.{opens}
use Rattle.events.specs.Inner.Columns.{columns_from}
use Rattle.events.proofs.ColumnLaws.{columns-here, columns-past, columns_end}

-- the column lines of all lists are tested by those from place a on
pub record Tested (table part : List ℕ) (a : ℕ) (headed : Bool) : Type 0 where
  pub inside : a ≤ length part + 1
  pub rest : columns_verdict table (columns_from true true part 0) ≡ columns_verdict table (columns_from true headed part a)

-- a line where it is a column line
abbrev as_columns : Bool → List ℕ → List (List ℕ)
as_columns headed line = cond headed (line ∷ []) []

module _ (table part : List ℕ) where
  pub tested-none : Tested table part 0 true
  tested-none = record { inside = omega arith; rest = refl }

  -- the line at place a, and those behind it
  line_first : (a : ℕ) (headed : Bool) → a ≤ length part
      → columns_from true headed part a
      ≡ as_columns headed (line_from part a) ++ columns_from true (not headed && opens true (line_from part a)) part (find_from part a 10 + 1)
  line_first a true l = columns-here true part a l
  line_first a false l = columns-past true part a l

  -- behind a line that is no wrong column line the others decide
  right_then : (headed : Bool) (line : List ℕ) (more : List (List ℕ)) → columns_verdict table (as_columns headed line) ≡ passed
      → columns_verdict table (as_columns headed line ++ more) ≡ columns_verdict table more
  right_then false line more e = refl
  right_then true line more e = rw ((verdict-right table line).0 e)

  -- a wrong one decides
  wrong_then : (headed : Bool) (line : List ℕ) (more : List (List ℕ)) (field : ℕ) → columns_verdict table (as_columns headed line) ≡ refused 31 field
      → columns_verdict table (as_columns headed line ++ more) ≡ refused 31 field
  wrong_then false line more field e = absurd (let z : ◌≡◌ {A = ℕ} 0 31 = ap (λ (v : Verdict). v.number) e in omega arith)
  wrong_then true line more field e = go (passed_or_failed (is_right table line))
    where
      go : (is_right table line ≡ true) ⊎ (is_right table line ≡ false) → columns_verdict table (line ∷ more) ≡ refused 31 field
      go (inl t) = absurd (let z : ◌≡◌ {A = ℕ} 0 31 = ap (λ (v : Verdict). v.number) (sym ((verdict-right table line).1 t) ∙ e) in omega arith)
      go (inr t) = rw t (rw t at e)

  module _ (a : ℕ) (headed : Bool) (p : Tested table part a headed) (l : a ≤ length part) where
    pub tested-more : passed ≡ columns_verdict table (as_columns headed (line_from part a)) → {e : ℕ} → e ≡ find_from part a 10
        → Tested table part (e + 1) (not headed && opens true (line_from part a))
    tested-more is f =
        record {
          inside = omega (arith, f, find_inside part a 10 l);
          rest = p.rest ∙ ap (columns_verdict table) (line_first a headed l) ∙ right_then headed (line_from part a) _ (sym is) ∙ rw f;
        }

    pub tested-wrong : {field : ℕ} → refused 31 field ≡ columns_verdict table (as_columns headed (line_from part a))
        → refused 31 field ≡ columns_verdict table (columns_from true true part 0)
    tested-wrong {field} is =
        sym (p.rest ∙ ap (columns_verdict table) (line_first a headed l) ∙ wrong_then headed (line_from part a) _ field (sym is))

  pub tested-all : (a : ℕ) (headed : Bool) → Tested table part a headed → length part < a → passed ≡ columns_verdict table (columns_from true true part 0)
  tested-all a headed p l = sym (p.rest ∙ ap (columns_verdict table) (columns_end true part a headed l))
