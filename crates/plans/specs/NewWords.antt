-- What of a plan is new to a float (02: "refuses .. at the first such kind's word if nothing before it is new too"): later requests add here.
use Rattle.std.specs.Prelude.{◌≡◌, Bool, false, not, ◌&&◌, cond, ◌⊎◌, List, ℕ, zero, suc, ℤ, length, ltb, eqb}
use Rattle.plans.specs.Indices.{first_bad}
use Rattle.plans.specs.Form.{Float, kind_at, next_at, step_count}
use Rattle.plans.specs.declared.Kind.{Kind}
use Rattle.plans.specs.declared.Kind.TheVariants.{DecimalEllipse, Ellipsoid}

-- what has come since the first issue: ellipses with decimals (kind 7) and ellipsoids (kind 8)
abbrev pub NewToFirst : Kind → Type 0
NewToFirst kind = (kind ≡ DecimalEllipse) ⊎ (kind ≡ Ellipsoid)

-- of the steps that are left, from a place on: the word of a kind that the float does not know
unfoldable pub new_step_word : Float → ℕ → List ℤ → ℕ → ℕ → Bool
new_step_word f zero p at i = false
new_step_word f (suc left) p at i =
    cond (ltb i (next_at p at)) (eqb i at && not (f.knows (kind_at p at)))
    (new_step_word f left p (next_at p at) i)

-- whether word i of a plan is new to a float
unfoldable pub new_word : Float → List ℤ → ℕ → Bool
new_word f p i = new_step_word f (step_count p) p 2 i

unfoldable pub old_word : Float → List ℤ → ℕ → Bool
old_word f p i = not (new_word f p i)

-- the lowest new word, or the plan's length where nothing is new
unfoldable pub lowest_new : Float → List ℤ → ℕ
lowest_new f p = first_bad (old_word f p) 0 (length p)

unfoldable pub holds_new : Float → List ℤ → Bool
holds_new f p = ltb (lowest_new f p) (length p)
