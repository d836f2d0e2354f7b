-- Floats of an earlier issue (02: "A float of the first issue refuses every compiled plan that holds kind 7"): what they know of a table, and what they refuse.
use Rattle.std.specs.Prelude.{◌≡◌, true, false, List, ℕ, ◌<◌, ℤ}
use Rattle.plans.specs.Refusals.{passed, refused}
use Rattle.plans.specs.Form.{Float, first, kind_at, check_for}
use Rattle.plans.specs.NewWords.{new_word, NewToFirst}
use Rattle.counter.specs.Counting.{no_tally, count_for}
use Rattle.gates.specs.Gate.{Region, regions}
use Rattle.tables.specs.Table.{◌∈◌}
use Rattle.tables.specs.Head.{gates}
use Rattle.tables.specs.Steps.{shape_kind}
use Rattle.tables.specs.Compile.{Compiling}
use Rattle.tables.specs.TableCount.{lent}

-- nothing in a table is new to a float: it knows the kind of each region's step; later requests add to what may be new
abbrev pub KnownTo : Float → List ℕ → Type 0
KnownTo f text = (r : Region) → r ∈ regions (gates text) → f.knows (shape_kind r.shape) ≡ true

-- a float refuses a plan by 22 at a word that is new to it, before which none is, and never counts by it
pub record RefusedAsNew (f : Float) (p : List ℤ) (place : ℕ) : Type 0 where
  pub is_new : new_word f p place ≡ true
  pub none_before : (i : ℕ) → i < place → new_word f p i ≡ false
  pub refuses : check_for f p ≡ refused 22 place
  pub never_counts : (values : List ℤ) → count_for f p values ≡ record { verdict = refused 22 place; tally = no_tally }

-- the claim, of what compiling a table gave: where it was not refused and the table has an ellipse with decimals or an ellipsoid, the words reported are
-- refused so by a float of the first issue, at the word of such a kind
abbrev pub FirstFloatRefuses : List ℕ → Compiling → Type 0
FirstFloatRefuses text c =
    c.verdict ≡ passed → (r : Region) → r ∈ regions (gates text) → NewToFirst (shape_kind r.shape)
    → (place : ℕ) × RefusedAsNew first (lent c.words c.slice) place × NewToFirst (kind_at (lent c.words c.slice) place)
