-- `put_plan`: the first line and those of the steps before the ones that are left are written.
use mathlib.Core.Path.{◌≡◌}
use mathlib.Core.List.{List, map}
use Prim.Native.Nat.{ℕ, ◌*◌, ◌-◌, ◌≤◌}
use lib.IntN.{ℤ}
use lib.ListN.{length}
use Rattle.text.specs.Lines.{unlines}
use Rattle.plans.specs.Form.{step_count, steps_end}
use Rattle.planreport.specs.PlanText.{words_line, step_parts, plan_text}
use Rattle.planreport.proofs.ProgressLaws.{Progress}
use Rattle.planreport.proofs.printing.put_plan.Given as goal

-- the lines of the steps that are left
abbrev pub left_text : ℕ → List ℤ → ℕ → List ℕ
left_text left plan word = unlines (map words_line (step_parts left plan word))

abbrev pub invariant-loop : goal.invariant-loop
invariant-loop l =
    (l.at ≤ 22 * l.word) × (steps_end (step_count l.plan - l.counter) l.plan l.word ≡ length l.plan)
    × Progress (plan_text l.plan) l.fn.out l.at l.out (left_text (step_count l.plan - l.counter) l.plan l.word)
