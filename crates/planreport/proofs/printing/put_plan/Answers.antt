-- `put_plan`: the first line and those of the steps before the ones that are left are written.
use mathlib.Core.Path.{◌≡◌, ◌∙◌}
use mathlib.Core.List.{List, ◌++◌, [], ◌∷◌}
use Prim.Native.Nat.{ℕ, ◌+◌, ◌-◌, ◌≤◌, ◌<◌}
use native.Mathlib.Omega.{arith}
use lib.IntN.{ℤ}
use lib.ListN.{length}
use Rattle.plans.specs.Form.{step_count, steps_end}
use Rattle.plans.specs.Words.{part}
use Rattle.runreport.proofs.RunLaws.{count-is}
use Rattle.planreport.specs.PlanText.{words_line, plan_text}
use Rattle.planreport.proofs.ProgressLaws.{progress_first, progress_more, progress_all}
use Rattle.planreport.proofs.TextLaws.{plan-few, head-length, plan-first, plan-ends, place_inside, next_end, step-inside, step-next, step-length, steps-more, steps-none}
use Rattle.planreport.proofs.printing.put_plan.Invariants.{left_text}
use Rattle.planreport.proofs.printing.put_plan.Goals as goal
use Rattle.planreport.proofs.printing.put_plan.Goals.{After-number_at-m}

pub put_line-at-requires : goal.put_line-at-requires
put_line-at-requires c =
    rw (c.part_at.ensures, head-length _ c.requires) (omega arith, omega arith)

pub loop-init : goal.loop-init
loop-init c =
    let p = c.args.plan.now in
    let short = rw (c.part_at.ensures, head-length p c.requires) at c.put_line-at.ensures.upper_bound in
    let first = rw c.part_at.ensures at c.put_line-at.ensures.writes in
    let all : step_count p - 0 ≡ step_count p = omega arith in
    rw all (
      omega arith,
      plan-ends p c.requires,
      progress_first (plan_text p) c.args.out.now (words_line (part p 0 2) ++ (10 ∷ [])) (left_text (step_count p) p 2) (plan-first p c.requires) first,
    )

pub overflow_add-word : goal.overflow_add-word
overflow_add-word c =
    let plan = c.args.plan.now in
    omega (arith, place_inside plan (step_count plan - c.loop.counter) c.loop.word c.loop.invariant.1, plan-few plan c.requires)

-- ---- a turn of the loop, when the length of its step is read

module _ (turn : After-number_at-m) where
  abbrev plan : List ℤ
  plan = turn.args.plan.now

  abbrev left : ℕ
  left = step_count plan - turn.loop.counter

  abbrev word : ℕ
  word = turn.loop.word

  -- how many words the step has
  abbrev size : ℕ
  size = 4 + turn.number_at-m.result

  ends : steps_end left plan word ≡ length plan
  ends = turn.loop.invariant.1

  some : 0 < left
  some = omega (arith, count-is plan turn.number_at-end.ensures, turn.loop-test.true)

  fewer : step_count plan - (turn.loop.counter + 1) ≡ left - 1
  fewer = omega arith

  few : length plan ≤ 4096
  few = plan-few plan turn.requires

  inside : word + size ≤ length plan
  inside = step-inside plan left word ends some turn.number_at-m.ensures

  long : length (part plan word size) ≡ size
  long = step-length plan left word ends some turn.number_at-m.ensures

pub overflow_add-m : goal.overflow_add-m
overflow_add-m c = omega (arith, inside c, few c)

pub put_line_from-at-requires : goal.put_line_from-at-requires
put_line_from-at-requires c =
    let turn = (goal.at.put_line_from-at-requires c).After-number_at-m in
    let size_is = long turn in
    let fits = inside turn in
    let most = few turn in
    rw c.part_at-in-loop.ensures (omega arith, omega arith)

pub overflow_add-at : goal.overflow_add-at
overflow_add-at c =
    let turn = (goal.at.overflow_add-at c).After-number_at-m in
    let short = rw (c.part_at-in-loop.ensures, long turn) at c.put_line_from-at.ensures.upper_bound in
    omega (arith, inside turn, few turn, c.loop.invariant.0, short)

pub overflow_add-word-in-loop : goal.overflow_add-word-in-loop
overflow_add-word-in-loop c =
    let turn = (goal.at.overflow_add-word-in-loop c).After-number_at-m in
    omega (arith, inside turn, few turn)

pub loop-preserved : goal.loop-preserved
loop-preserved c =
    let turn = (goal.at.loop-preserved c).After-number_at-m in
    let m = c.number_at-m.ensures in
    let short = rw (c.part_at-in-loop.ensures, long turn) at c.put_line_from-at.ensures.upper_bound in
    let written = rw c.part_at-in-loop.ensures at c.put_line_from-at.ensures.writes_from in
    rw (fewer turn) (
      omega (arith, c.loop.invariant.0, short),
      rw (step-next (plan turn) (left turn) (word turn) (ends turn) (some turn) m) (next_end (plan turn) (left turn) (word turn) (ends turn) (some turn)),
      progress_more _ c.args.out.now _ _ c.loop.invariant.2 (steps-more (plan turn) (left turn) (word turn) (ends turn) (some turn) m) written,
    )

pub returns : goal.returns
returns c =
    let plan = c.args.plan.now in
    let left = step_count plan - c.loop.counter in
    let none : left ≤ 0 = omega (arith, count-is plan c.number_at-end.ensures, c.loop-test.false) in
    progress_all _ _ (rw (steps-none plan left c.loop.word none) at c.loop.invariant.2)
