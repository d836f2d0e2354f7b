-- A polygon line that is redrawn earns the same refusal or none, and where it is accepted its gate is alike.
use mathlib.Core.Path.{◌≡◌, refl, sym, ap, ◌∙◌}
use mathlib.Core.Bool.{Bool, true, false, cond, ◌&&◌}
use mathlib.Core.Option.{Option}
use mathlib.Core.List.Permᴰ
use mathlib.Core.List.{List, [], ◌∷◌, map, Permᴰ}
use Prim.Native.Nat.{ℕ, zero, suc, ◌+◌, ◌-◌, ◌%◌, ◌<◌, ◌≤◌}
use native.Mathlib.Omega.{arith}
use native.Mathlib.Decide.{dec_lt}
use lib.IntN.{ℤ, pos, negsuc}
use lib.ListN.{length, get_or, drop, length-drop, length-map, get_or-map}
use lib.Seq.{get_or-drop, ext_get_or}
use borrow.Author.Tests.{le-ltb}
use Rattle.plans.specs.Kinds.{kind_number}
use Rattle.plans.specs.declared.Kind.TheVariants.{Polygon}
use Rattle.plans.proofs.IndexLaws.{any_same}
use Rattle.plans.proofs.KindLaws.{by_both}
use Rattle.text.specs.Bytes.{bytes, same}
use Rattle.text.specs.Bounded.{tab, least}
use Rattle.text.proofs.BoundedLaws.{length-tab, get_or-tab, least_above, least_le, least_default}
use Rattle.counter.specs.Positions.{is_on_outline}
use Rattle.gates.specs.declared.LineKind.{LineKind}
use Rattle.gates.specs.declared.LineKind.TheVariants.{Rect, Poly, Ellip, DecimalEllip}
use Rattle.gates.specs.declared.Rule.TheVariants.{Coordinate}
use Rattle.gates.specs.Kinds.{field_at, carries_point, kind_named, line_kind, step_kind, dimension_of, value_of}
use Rattle.gates.specs.Rules.{poly_rule, rule_of, no_refusal, number_refusal, is_dimension, repeated, dimension_passes, field_refusal, fields_refusal}
use Rattle.gates.specs.Refusal.{kind_refusal, line_refusal}
use Rattle.gates.specs.Gate.{Name, Event, Leaf, poly, leaf, one}
use Rattle.gates.specs.Meaning.{value_under, vertices_of, in_poly, holds, parent_of, gate_of}
use Rattle.gates.specs.Encoding.{axes_word, leaf_kind, leaf_words}
use Rattle.gates.specs.Outlines.{on_poly, outline_holds}
use Rattle.gates.proofs.AcceptedLaws.{Accepted, accepted, rule_body}
use Rattle.gates.proofs.LeafLaws.{axes_numbered, axes_value}
use Rattle.redrawn.specs.Redrawing.{redrawn}
use Rattle.redrawn.specs.Plans.{redrawn_body}
use Rattle.redrawn.proofs.ElementLaws.{map-redrawn, elements_permuted, Each, each_permuted, each_at, each_of}
use Rattle.redrawn.proofs.OutlineTheorems.{inside-redrawn, position-redrawn}
use Rattle.redrawn.proofs.StepLaws.{BodyRedrawn, drawn as body-drawn}
use Rattle.redrawntables.specs.Lines.{redrawn_fields, done, more}
use Rattle.redrawntables.proofs.FieldLaws.{length_fields, field_before, vertices-redrawn}
use Rattle.redrawntables.proofs.AlikeLaws.{drawn, RegionAlike, GateAlike}

-- ---- the kind: `poly` is one whatever stands in the fields behind it

ellipse-other : (d : Bool) → cond d DecimalEllip Ellip ≡ Poly → ⊥
ellipse-other true h = let n : ◌≡◌ {A = ℕ} 7 2 = ap (λ (kind : LineKind). kind_number (step_kind kind)) h in omega arith
ellipse-other false h = let n : ◌≡◌ {A = ℕ} 3 2 = ap (λ (kind : LineKind). kind_number (step_kind kind)) h in omega arith

kind-any : (d e : Bool) (x : List ℕ) → kind_named d x ≡ Poly → kind_named e x ≡ Poly
unfolding kind_named
kind-any d e x h = go (same x (bytes "rect")) (same x (bytes "poly")) (same x (bytes "ellip")) _ h
  where
    go : (a b c : Bool) (rest : LineKind) → cond a Rect (cond b Poly (cond c (cond d DecimalEllip Ellip) rest)) ≡ Poly
        → cond a Rect (cond b Poly (cond c (cond e DecimalEllip Ellip) rest)) ≡ Poly
    go true b c rest h = h
    go false true c rest h = h
    go false false true rest h = absurd (ellipse-other d h)
    go false false false rest h = h

pub kind-redrawn : (k : ℕ) (back : Bool) (fs : List (List ℕ)) → line_kind fs ≡ Poly → line_kind (redrawn_fields k back fs) ≡ Poly
kind-redrawn k back fs h = rw (field_before k back fs 0 (omega arith))
    (kind-any (carries_point fs) (carries_point (redrawn_fields k back fs)) (field_at fs 0) h)

-- ---- the refusals

vertex_rule : (fs : List (List ℕ)) (i : ℕ) → rule_of Poly fs (5 + i) ≡ Coordinate
unfolding poly_rule
vertex_rule fs i =
    let e : 5 + i ≡ 3 + (2 + i) = omega arith in
    rw e (rule_body Poly fs (2 + i) ∙ rw (le-ltb (2 + i) 2 (omega arith)))

-- what a vertex earns, by itself
vertex_refusal : (head fs : List (List ℕ)) (i : ℕ) → field_refusal head Poly fs (5 + i) ≡ number_refusal (negsuc 65535) (pos 65535) (get_or (drop 5 fs) i [])
unfolding field_refusal
vertex_refusal head fs i = rw (vertex_rule fs i, get_or-drop 5 fs i [])

-- two lines with the same fields before the vertices, and the fields of the vertices in another order
module _ (head fs gs : List (List ℕ)) (size : length gs ≡ length fs) (same-before : (i : ℕ) → i < 5 → field_at gs i ≡ field_at fs i)
    (permuted : Permᴰ (drop 5 fs) (drop 5 gs)) where
  before-refusal : (i : ℕ) → i < 5 → field_refusal head Poly gs i ≡ field_refusal head Poly fs i
  unfolding field_refusal dimension_passes repeated rule_of
  before-refusal i h =
      let e = same-before i h in
      let f = same-before (i - 1) (omega arith) in
      let r = any_same (λ j. is_dimension (rule_of Poly gs j) && same (field_at gs j) (field_at fs i))
      (λ j. is_dimension (rule_of Poly fs j) && same (field_at fs j) (field_at fs i)) i (λ j l. rw (same-before j (omega arith))) in
      rw (e, f, r)

  -- where no field of the one earns less than m, none of the other does
  module _ (m : ℕ) (all-earn : (i : ℕ) → i < length fs → m ≤ field_refusal head Poly fs i) where
    Earns : List ℕ → Type 0
    Earns x = m ≤ number_refusal (negsuc 65535) (pos 65535) x

    vertices-earn : Each Earns (drop 5 gs)
    unfolding Earns
    vertices-earn =
        each_permuted Earns permuted (each_of Earns (drop 5 fs) [] (λ i h.
        let n = length-drop 5 fs in
        rw (vertex_refusal head fs i) at (all-earn (5 + i) (omega arith))))

    others-earn : (i : ℕ) → i < length gs → m ≤ field_refusal head Poly gs i
    unfolding Earns
    others-earn i h = go (dec_lt i 5)
      where
        go : Dec (i < 5) → m ≤ field_refusal head Poly gs i
        go (yes l) = rw (before-refusal i l) (all-earn i (omega arith))
        go (no l) =
            let e : i ≡ 5 + (i - 5) = omega arith in
            let n = length-drop 5 gs in
            rw (e, vertex_refusal head gs (i - 5)) (each_at Earns vertices-earn [] (i - 5) (omega arith))

  least-earned : fields_refusal head Poly fs ≤ fields_refusal head Poly gs
  unfolding fields_refusal
  least-earned =
      let m = least (field_refusal head Poly fs) no_refusal (length fs) in
      least_above (field_refusal head Poly gs) no_refusal (length gs) m (least_default (field_refusal head Poly fs) no_refusal (length fs))
      (others-earn m (λ i h. least_le (field_refusal head Poly fs) no_refusal (length fs) i h))

module _ (head : List (List ℕ)) (k : ℕ) (back : Bool) (fs : List (List ℕ)) where
  rest-permuted : Permᴰ (drop 5 fs) (drop 5 (redrawn_fields k back fs))
  rest-permuted = rw (vertices-redrawn k back fs) (elements_permuted k back (drop 5 fs))

  fields-refusal-redrawn : fields_refusal head Poly (redrawn_fields k back fs) ≡ fields_refusal head Poly fs
  fields-refusal-redrawn =
      let n = length_fields k back fs in
      let up = least-earned head fs (redrawn_fields k back fs) n (field_before k back fs) rest-permuted in
      let down = least-earned head (redrawn_fields k back fs) fs (sym n) (λ i h. sym (field_before k back fs i h)) (Permᴰ.symm rest-permuted) in
      omega arith

  -- of every `poly` line, accepted or not: the same refusal, or none
  pub line-refusal-redrawn : line_kind fs ≡ Poly → line_refusal head (redrawn_fields k back fs) ≡ line_refusal head fs
  unfolding line_refusal kind_refusal
  line-refusal-redrawn h = rw (h, kind-redrawn k back fs h, length_fields k back fs, fields-refusal-redrawn)

-- ---- the events it holds, and those on its outline

-- a polygon's vertices are the values of its fields from 5 on
vertices_are : (fs : List (List ℕ)) → vertices_of fs ≡ map value_of (drop 5 fs)
vertices_are fs =
    let value : ℕ → ℤ = λ i. value_of (field_at fs (5 + i)) in
    let n = length-tab value (length fs - 5) in
    ext_get_or (value_of []) (tab value (length fs - 5)) (map value_of (drop 5 fs)) (n ∙ sym (length-map (drop 5 fs) value_of ∙ length-drop 5 fs))
    (λ i h. get_or-tab value (value_of []) (length fs - 5) i (omega arith) ∙ sym (get_or-map value_of (drop 5 fs) i [] ∙ ap value_of (get_or-drop 5 fs i [])))

-- two dimensions, then the vertices
words_are : (head fs : List (List ℕ)) → 5 ≤ length fs
    → leaf_words (poly head fs) ≡ pos (dimension_of head (field_at fs 3)) ∷ (pos (dimension_of head (field_at fs 4)) ∷ map value_of (drop 5 fs))
words_are head fs five =
    let n = length-tab (axes_word 2 head fs) (length fs - 3) in
    let m : length (map value_of (drop 5 fs)) ≡ length fs - 5 = length-map (drop 5 fs) value_of ∙ length-drop 5 fs in
    ext_get_or (value_of []) (tab (axes_word 2 head fs) (length fs - 3))
    (pos (dimension_of head (field_at fs 3)) ∷ (pos (dimension_of head (field_at fs 4)) ∷ map value_of (drop 5 fs)))
    (omega arith) (λ i h. get_or-tab (axes_word 2 head fs) (value_of []) (length fs - 3) i (omega arith) ∙ at i)
  where
    at : (i : ℕ) → axes_word 2 head fs i
        ≡ get_or (pos (dimension_of head (field_at fs 3)) ∷ (pos (dimension_of head (field_at fs 4)) ∷ map value_of (drop 5 fs))) i (value_of [])
    at zero = axes_numbered 2 head fs 0 (omega arith)
    at (suc zero) = axes_numbered 2 head fs 1 (omega arith)
    at (suc (suc i)) =
        let e : 3 + suc (suc i) ≡ 5 + i = omega arith in
        axes_value 2 head fs (suc (suc i)) (omega arith)
        ∙ ap (λ (j : ℕ). value_of (field_at fs j)) e ∙ sym (get_or-map value_of (drop 5 fs) i [] ∙ ap value_of (get_or-drop 5 fs i []))

module _ (head : List (List ℕ)) (k : ℕ) (back : Bool) (fs : List (List ℕ)) (a : Accepted head Poly fs) where
  shape_is : (5 ≤ length fs) × (length (drop 5 fs) % 2 ≡ 0)
  shape_is =
      let s = by_both 2 8 514 (length fs - 3) a.shape in
      let n = length-drop 5 fs in
      (omega (arith, s.0), omega (arith, s.0, s.2))

  abbrev values : List ℤ
  values = map value_of (drop 5 fs)

  values-redrawn : map value_of (drop 5 (redrawn_fields k back fs)) ≡ redrawn k back values
  values-redrawn = rw (vertices-redrawn k back fs) (map-redrawn value_of k back (drop 5 fs))

  values-whole : length values % 2 ≡ 0
  values-whole = rw (length-map (drop 5 fs) value_of) shape_is.1

  three : field_at (redrawn_fields k back fs) 3 ≡ field_at fs 3
  three = field_before k back fs 3 (omega arith)

  four : field_at (redrawn_fields k back fs) 4 ≡ field_at fs 4
  four = field_before k back fs 4 (omega arith)

  pub poly_holds : (e : Event) → in_poly head (redrawn_fields k back fs) e ≡ in_poly head fs e
  unfolding in_poly
  poly_holds e =
      rw (three, four, vertices_are (redrawn_fields k back fs), values-redrawn, vertices_are fs)
      (inside-redrawn k back values values-whole (value_under head e (field_at fs 3)) (value_under head e (field_at fs 4)))

  pub poly_outline : (e : Event) → on_poly head (redrawn_fields k back fs) e ≡ on_poly head fs e
  unfolding on_poly
  poly_outline e =
      rw (three, four, vertices_are (redrawn_fields k back fs), values-redrawn, vertices_are fs)
      (ap is_on_outline (position-redrawn k back values values-whole (value_under head e (field_at fs 3)) (value_under head e (field_at fs 4))))

  other-words : leaf_words (poly head (redrawn_fields k back fs))
      ≡ pos (dimension_of head (field_at fs 3)) ∷ (pos (dimension_of head (field_at fs 4)) ∷ redrawn k back values)
  other-words =
      let five = shape_is.0 in
      let n = length_fields k back fs in
      words_are head (redrawn_fields k back fs) (omega arith) ∙ rw (values-redrawn, three, four)

  -- the body of its step is the body of before, redrawn in the same way
  pub line-words : leaf_words (poly head (redrawn_fields k back fs)) ≡ redrawn_body k back (leaf_words (poly head fs))
  unfolding redrawn_body
  line-words = other-words ∙ sym (ap (redrawn_body k back) (words_are head fs shape_is.0))

  words-redrawn : BodyRedrawn Polygon (leaf_words (poly head fs)) (leaf_words (poly head (redrawn_fields k back fs)))
  words-redrawn = rw (words_are head fs shape_is.0, other-words) (body-drawn k back values-whole)

-- ---- the gate

leaf-alike : (n : Name) (p : Option Name) (l m : Leaf) → ((e : Event) → holds m e ≡ holds l e) → ((e : Event) → outline_holds m e ≡ outline_holds l e)
    → leaf_kind m ≡ leaf_kind l → BodyRedrawn (leaf_kind l) (leaf_words l) (leaf_words m)
    → GateAlike (record { name = n; parent = p; body = one (leaf l) }) (record { name = n; parent = p; body = one (leaf m) })
leaf-alike n p l m h o s b =
    let r : RegionAlike (record { name = n; parent = p; shape = leaf l }) (record { name = n; parent = p; shape = leaf m }) =
    record { name = refl; parent = refl; shape = drawn s b; holds = λ w e. rw (h e); outline = o } in
    record { own = refl; refers = refl; parts = more r done }

pub line-alike : (head : List (List ℕ)) (k : ℕ) (back : Bool) (fs : List (List ℕ)) → line_kind fs ≡ Poly → line_refusal head fs ≡ no_refusal
    → GateAlike (gate_of head fs) (gate_of head (redrawn_fields k back fs))
unfolding line_refusal gate_of
line-alike head k back fs h good =
    let a = accepted head Poly fs (rw h at good) in
    rw (h, kind-redrawn k back fs h, field_before k back fs 1 (omega arith), field_before k back fs 2 (omega arith))
    (leaf-alike (field_at fs 1) (parent_of (field_at fs 2)) (poly head fs) (poly head (redrawn_fields k back fs))
    (poly_holds head k back fs a) (poly_outline head k back fs a) refl (words-redrawn head k back fs a))
