-- `step_at`: by its kind, as `step_of` is.
use mathlib.Core.Path.{◌≡◌, ◌∙◌, ap, sym}
use mathlib.Core.List.{List}
use Prim.Native.Nat.{ℕ, ◌-◌, ◌≤◌}
use native.Mathlib.Omega.{arith}
use lib.IntN.{ℤ}
use lib.ListN.{length, take, drop}
use Rattle.plans.specs.Words.{word, number}
use Rattle.plans.specs.Form.{body_at}
use Rattle.plans.specs.Kinds.{kind_of}
use Rattle.plans.specs.declared.Kind.{Kind}
use Rattle.counter.specs.Inner.Steps.{step_of, step_at, StepShaped}
use Rattle.counter.specs.declared.steps.Head.{Head}
use Rattle.counter.proofs.SoundLaws.{kind-below, four-inside}
use Rattle.counter.proofs.StepLaws.{body_is, body-places, step_is, step-ready, plane-ready, space_ready}
use Rattle.counter.proofs.steps.step_at.Goals as goal
use Rattle.counter.proofs.steps.step_at.Goals.{After-head_at-head}

pub number_in-requires : goal.number_in-requires
number_in-requires c =
    let h = four-inside c.requires.1 in
    let k = kind-below c.requires.1 in
    (omega arith, omega arith)

-- the kind, the header and the body that the code reads, and what is known of them
module _ (after-head-at : After-head_at-head) where
  abbrev plan : List ℤ
  plan = after-head-at.args.plan.now

  abbrev place : ℕ
  place = after-head-at.args.at

  abbrev kind : Kind
  kind = after-head-at.kind_of-kind.result

  abbrev head : Head
  head = after-head-at.head_at-head.result

  abbrev body : List ℤ
  body = take (head.end - head.start) (drop head.start plan)

  kind-read : kind ≡ kind_of (number (word plan place))
  kind-read = after-head-at.kind_of-kind.ensures ∙ ap kind_of after-head-at.number_in.ensures

  body-read : body ≡ body_at plan place
  body-read = body_is plan place after-head-at.head_at-head.ensures

  places : (head.start ≤ head.end) × (head.end ≤ length plan)
  places = body-places plan place after-head-at.head_at-head.ensures after-head-at.requires.1

  -- where the kind is told
  module _ {told : Kind} (is : kind ≡ told) where
    step : step_of told head body ≡ step_at plan place
    step = step_is plan place (sym is ∙ kind-read) body-read after-head-at.head_at-head.ensures

    ready : StepShaped (step_of told head body) after-head-at.requires.0 body
    ready = step-ready plan place (sym is ∙ kind-read) body-read after-head-at.requires.1 head

pub offset_bounds-plan-start : goal.offset_bounds-plan-start
offset_bounds-plan-start c =
    let b = places c in
    let g = c.well_formed in
    omega arith

pub slice_bounds-body-count : goal.slice_bounds-body-count
slice_bounds-body-count c = (places c).0

pub slice_bounds-body-start : goal.slice_bounds-body-start
slice_bounds-body-start c = let b = places c in omega arith

pub slice_bounds-body-end : goal.slice_bounds-body-end
slice_bounds-body-end c = let b = places c in omega arith

-- ---- a row for each kind
pub returns-in-Box : goal.returns-in-Box
returns-in-Box c = step (goal.at.returns-in-Box c).After-head_at-head c.in-Box.is

pub plane_of-requires : goal.plane_of-requires
plane_of-requires c =
    let after-head_at-head = (goal.at.plane_of-requires c).After-head_at-head in
    let polygon = ready after-head_at-head c.in-Polygon.is in
    plane-ready c.requires.1 (body after-head_at-head) polygon.0 polygon.1

pub returns-in-Polygon : goal.returns-in-Polygon
returns-in-Polygon c = rw c.plane_of.ensures (step (goal.at.returns-in-Polygon c).After-head_at-head c.in-Polygon.is)

pub plane_of-requires-in-Ellipse : goal.plane_of-requires-in-Ellipse
plane_of-requires-in-Ellipse c =
    let after-head_at-head = (goal.at.plane_of-requires-in-Ellipse c).After-head_at-head in
    let ellipse = ready after-head_at-head c.in-Ellipse.is in
    plane-ready c.requires.1 (body after-head_at-head) ellipse.0 (let eight = ellipse.1 in omega arith)

pub oval_of-requires : goal.oval_of-requires
oval_of-requires c = (ready (goal.at.oval_of-requires c).After-head_at-head c.in-Ellipse.is).1

pub returns-in-Ellipse : goal.returns-in-Ellipse
returns-in-Ellipse c =
    rw (c.plane_of-in-Ellipse.ensures, c.oval_of.ensures) (step (goal.at.returns-in-Ellipse c).After-head_at-head c.in-Ellipse.is)

pub returns-in-And : goal.returns-in-And
returns-in-And c = step (goal.at.returns-in-And c).After-head_at-head c.in-And.is

pub returns-in-Or : goal.returns-in-Or
returns-in-Or c = step (goal.at.returns-in-Or c).After-head_at-head c.in-Or.is

pub returns-in-Not : goal.returns-in-Not
returns-in-Not c = step (goal.at.returns-in-Not c).After-head_at-head c.in-Not.is

pub plane_of-requires-in-DecimalEllipse : goal.plane_of-requires-in-DecimalEllipse
plane_of-requires-in-DecimalEllipse c =
    let after-head_at-head = (goal.at.plane_of-requires-in-DecimalEllipse c).After-head_at-head in
    let ellipse = ready after-head_at-head c.in-DecimalEllipse.is in
    plane-ready c.requires.1 (body after-head_at-head) ellipse.0 (let eight = ellipse.1 in omega arith)

pub oval_of-requires-in-DecimalEllipse : goal.oval_of-requires-in-DecimalEllipse
oval_of-requires-in-DecimalEllipse c = (ready (goal.at.oval_of-requires-in-DecimalEllipse c).After-head_at-head c.in-DecimalEllipse.is).1

pub returns-in-DecimalEllipse : goal.returns-in-DecimalEllipse
returns-in-DecimalEllipse c =
    rw (c.plane_of-in-DecimalEllipse.ensures, c.oval_of-in-DecimalEllipse.ensures)
    (step (goal.at.returns-in-DecimalEllipse c).After-head_at-head c.in-DecimalEllipse.is)

pub space_of-requires : goal.space_of-requires
space_of-requires c =
    let after-head_at-head = (goal.at.space_of-requires c).After-head_at-head in
    let ellipsoid = ready after-head_at-head c.in-Ellipsoid.is in
    space_ready c.requires.1 (body after-head_at-head) ellipsoid.0 (let thirteen = ellipsoid.1 in omega arith)

pub solid_of-requires : goal.solid_of-requires
solid_of-requires c = (ready (goal.at.solid_of-requires c).After-head_at-head c.in-Ellipsoid.is).1

pub returns-in-Ellipsoid : goal.returns-in-Ellipsoid
returns-in-Ellipsoid c =
    rw (c.space_of.ensures, c.solid_of.ensures) (step (goal.at.returns-in-Ellipsoid c).After-head_at-head c.in-Ellipsoid.is)

pub returns-in-Unknown : goal.returns-in-Unknown
returns-in-Unknown c = step (goal.at.returns-in-Unknown c).After-head_at-head c.in-Unknown.is
