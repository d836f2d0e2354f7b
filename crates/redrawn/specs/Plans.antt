-- A plan with polygons redrawn, and what is claimed of it.
use Rattle.std.specs.Prelude.{◌≡◌, Bool, List, ◌++◌, ℕ, ◌+◌, ◌<◌, take, drop, ℤ}
use Rattle.plans.specs.Refusals.{passed}
use Rattle.plans.specs.Form.{kind_at, body_at, next_at, steps_end, step_count, check_of}
use Rattle.plans.specs.declared.Kind.TheVariants.{Polygon}
use Rattle.counter.specs.Judging.{judge_of}
use Rattle.counter.specs.Counting.{count_of}
use Rattle.redrawn.specs.Redrawing.{redrawn}

-- the body of a polygon: two dimensions, then the vertices
unfoldable pub redrawn_body : ℕ → Bool → List ℤ → List ℤ
redrawn_body k back body = take 2 body ++ redrawn k back (drop 2 body)

-- the place of step i, which is the word after the i steps before it; the first one stands at word 2
unfoldable pub place_of : List ℤ → ℕ → ℕ
place_of p i = steps_end i p 2

-- the plan with the body of the step at a place redrawn: the words before the body, the body, the words after it
unfoldable pub redrawn_at : ℕ → Bool → List ℤ → ℕ → List ℤ
redrawn_at k back p at = take (at + 4) p ++ (redrawn_body k back (body_at p at) ++ drop (next_at p at) p)

-- with the body of step i
unfoldable pub redrawn_plan : ℕ → Bool → List ℤ → ℕ → List ℤ
redrawn_plan k back p i = redrawn_at k back p (place_of p i)

-- q is p with any number of polygons redrawn, one after another
pub data Redrawings (p : List ℤ) : List ℤ → Type 0 where
  unchanged : Redrawings p p
  one_more : {q : List ℤ} → Redrawings p q → (i : ℕ) → i < step_count q → kind_at q (place_of q i) ≡ Polygon
      → (k : ℕ) (back : Bool) → Redrawings p (redrawn_plan k back q i)

-- q passes, judges every event as p does, refusals and both sets of bits, and counts every list as p does, refusals and every number of the tally
pub record SameByPlan (p q : List ℤ) : Type 0 where
  pub passes : check_of q ≡ passed
  pub judged : (event : List ℤ) → judge_of q event ≡ judge_of p event
  pub counted : (events : List ℤ) → count_of q events ≡ count_of p events
