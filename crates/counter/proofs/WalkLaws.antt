-- The walk over the edges: what it holds after each of them, and at the end. Of the definition this is said by `walked_next`, `walked-carried` and
-- `walked_all`; of the code by the contracts of `walk`, for every end of a stretch, and `long_walk`, and by the invariants `Inv-loop` of their proofs.
use mathlib.Core.Path.{◌≡◌, refl, sym, ap, ap₂, ◌∙◌}
use mathlib.Core.Bool.{Bool, true, false, cond, ◌&&◌, ◌||◌, or_assoc, or-false}
use mathlib.Core.List.{List, [], ◌∷◌, ◌++◌, foldr}
use Prim.Native.Nat.{ℕ, zero, suc, ◌+◌, ◌-◌, ◌*◌, ◌/◌, ◌%◌, ◌<◌, ◌≤◌}
use native.Mathlib.Omega.{arith}
use native.Mathlib.Nat.{add-zero}
use native.Mathlib.Decide.{dec_lt}
use lib.ListN.{length, take, drop, get_or, length-take}
use lib.Seq.{take-suc, take_all, take-add, drop-drop, drop-cons, get_or-drop}
use lib.IntN.{ℤ, pos, ◌+ℤ◌, ◌-ℤ◌, ◌*ℤ◌, +ℤ_idl, +ℤ_idr, +ℤ_assoc}
use lib.Signed.{lt_z}
use Rattle.integers.specs.Equality.{eq_z}
use Rattle.integers.specs.Inner.Bounds.{In}
use Rattle.integers.proofs.Bounds.{in_lit, in_le, in_add, in_sub}
use Rattle.counter.specs.Polygon.{Edge, edge, side, between, on_edge, crossing, edges_from, edges, on_some, crossings, on_outline, winding}
use Rattle.counter.specs.Positions.{polygon_position}
use Rattle.counter.specs.Walk.{over, walked, past, found}
use Rattle.counter.specs.Inner.Ranges.{OnScale}
use Rattle.counter.specs.Inner.Walks.{SeenFrom, Near, PastEdge, one_of, turn_for, vertex_before, beyond, four_beyond, Apart}
use Rattle.counter.specs.declared.Position.TheVariants.{Outside, Inside, OnOutline}
use Rattle.counter.specs.declared.polygon.Offset.{Offset}
use Rattle.std.proofs.Common.{Option, None, Some}
use Rattle.integers.proofs.Booleans.{cond-case}
use Rattle.integers.proofs.Equality.{eq_z-true}
use Rattle.plans.proofs.IndexLaws.{and_both}
use Rattle.counter.proofs.PolygonLaws.{side-seen, between-seen, turn-line, turn_aside, turn_in, difference_in, one_in, crossing-apart, on_edge-apart, apart-beyond}

-- ---- a sum over two lists of edges, one behind the other
module _ {B : Type 0} (none : B) (plus : B → B → B) (f : Edge → B) (none_left : (b : B) → plus none b ≡ b)
    (associative : (a b c : B) → plus (plus a b) c ≡ plus a (plus b c)) where
  abbrev total : List Edge → B
  total es = foldr (λ e t. plus (f e) t) none es

  total_append : (es fs : List Edge) → total (es ++ fs) ≡ plus (total es) (total fs)
  total_append [] fs = sym (none_left (total fs))
  total_append (e ∷ es) fs = ap (λ (b : B). plus (f e) b) (total_append es fs) ∙ sym (associative (f e) (total es) (total fs))

module _ (x y : ℤ) where
  on_append : (es fs : List Edge) → on_some (es ++ fs) x y ≡ (on_some es x y || on_some fs x y)
  unfolding on_some
  on_append = total_append false ◌||◌ (λ e. on_edge e x y) (λ b. refl) or_assoc

  crossings_append : (es fs : List Edge) → crossings (es ++ fs) x y ≡ crossings es x y +ℤ crossings fs x y
  unfolding crossings
  crossings_append = total_append (pos 0) ◌+ℤ◌ (λ e. crossing e x y) +ℤ_idl +ℤ_assoc

  -- past one edge more
  over-next : (es : List Edge) (e : Edge) → over (es ++ (e ∷ [])) x y ≡ past e x y (over es x y)
  unfolding over on_some crossings
  over-next es e =
      ap₂ (λ (o : Bool) (z : ℤ). cond o None (Some z)) (on_append es (e ∷ []))
      (crossings_append es (e ∷ []) ∙ ap (λ (z : ℤ). crossings es x y +ℤ z) (+ℤ_idr (crossing e x y)))
      ∙ go (on_some es x y)
    where
      go : (o : Bool)
          → cond (o || (on_edge e x y || false)) None (Some (crossings es x y +ℤ crossing e x y)) ≡ past e x y (cond o None (Some (crossings es x y)))
      go true = refl
      go false = rw (or-false (on_edge e x y))

  -- what is carried stays carried, whatever comes behind
  over-carried : (es fs : List Edge) → over es x y ≡ None → over (es ++ fs) x y ≡ None
  unfolding over
  over-carried es fs e = go (on_some es x y) refl e
    where
      go : (o : Bool) → on_some es x y ≡ o → cond o None (Some (crossings es x y)) ≡ None
          → cond (on_some (es ++ fs) x y) None (Some (crossings (es ++ fs) x y)) ≡ None
      go true q e = rw (on_append es fs, q)
      go false q e = absurd (let z : ◌≡◌ {A = ℕ} 0 1 = cc in omega arith)

-- ---- after k edges
module _ (v : List ℤ) (x y : ℤ) where
  -- before the first
  pub walked_start : walked v x y 0 ≡ Some (pos 0)
  unfolding walked over on_some crossings
  walked_start = refl

  -- after each: what it held, past that edge
  pub walked_next : (k : ℕ) (d : Edge) → k < length (edges v) → walked v x y (suc k) ≡ past (get_or (edges v) k d) x y (walked v x y k)
  unfolding walked
  walked_next k d h = ap (λ (es : List Edge). over es x y) (take-suc (edges v) k d h) ∙ over-next x y (take k (edges v)) (get_or (edges v) k d)

  -- carried stays carried
  pub walked-carried : (k m : ℕ) → walked v x y k ≡ None → walked v x y (k + m) ≡ None
  unfolding walked
  walked-carried k m e =
      ap (λ (es : List Edge). over es x y) (take-add k m (edges v)) ∙ over-carried x y (take k (edges v)) (take m (drop k (edges v))) e

  -- after all: the answer of the test
  pub walked-done : (k : ℕ) → length (edges v) ≤ k → found (walked v x y k) ≡ polygon_position v x y
  unfolding walked over polygon_position
  walked-done k h = rw (take_all k (edges v) h) (go (on_outline v x y))
    where
      go : (o : Bool) → found (cond o None (Some (winding v x y))) ≡ cond o OnOutline (cond (eq_z (winding v x y) (pos 0)) Outside Inside)
      go true = refl
      go false = refl

-- ---- the edges by the places of the vertices

-- two elements from the front of a part of a list
drop-two {ℓ} : {A : Type ℓ} (v : List A) (i : ℕ) (d : A) → i + 1 < length v → drop i v ≡ get_or v i d ∷ (get_or v (i + 1) d ∷ drop (i + 2) v)
drop-two {A = A} v i d h =
    let p : i < length v = omega arith in
    let q : suc i < length v = omega arith in
    let e : suc i ≡ i + 1 = omega arith in
    let f : suc (suc i) ≡ i + 2 = omega arith in
    drop-cons v i d p ∙ ap (λ (l : List A). get_or v i d ∷ l) (drop-cons v (suc i) d q ∙ rw (f, e))

-- the edge from the vertex at j to the vertex at i, and all edges from there on
abbrev pub edge_at : List ℤ → ℕ → ℕ → Edge
edge_at v j i = edge (get_or v j (pos 0)) (get_or v (j + 1) (pos 0)) (get_or v i (pos 0)) (get_or v (i + 1) (pos 0))

abbrev edges_at : List ℤ → ℕ → ℕ → List Edge
edges_at v j i = edges_from (get_or v j (pos 0)) (get_or v (j + 1) (pos 0)) (drop i v)

length_from : (x0 y0 : ℤ) (v : List ℤ) → length v % 2 ≡ 0 → length v ≡ 2 * length (edges_from x0 y0 v)
unfolding edges_from
length_from x0 y0 [] h = refl
length_from x0 y0 (x ∷ []) h = absurd (omega arith)
length_from x0 y0 (x ∷ (y ∷ v)) h = let k = length_from x y v (omega arith) in omega arith

-- the vertex before one that is not the first
pub before-later : (n i : ℕ) → (i ≡ 0 → ⊥) → i - 2 ≡ vertex_before n i
unfolding vertex_before
before-later n zero h = absurd (h refl)
before-later n (suc i) h = refl

-- and before the next one
pub before-next : (n i k : ℕ) → k ≡ i + 2 → vertex_before n k ≡ i
unfolding vertex_before
before-next n i k e =
    let t : k ≡ suc (suc i) = omega arith in
    let m : suc (suc i) - 2 ≡ i = omega arith in
    ap (vertex_before n) t ∙ m

-- it is there, with both its numbers
pub before_in : (v : List ℤ) (i : ℕ) → 6 ≤ length v → i ≤ length v → vertex_before (length v) i + 1 < length v
unfolding vertex_before
before_in v zero six h = omega arith
before_in v (suc i) six h = omega arith

module _ (v : List ℤ) (whole : length v % 2 ≡ 0) where
  -- as many edges as vertices
  pub length-edges : length (edges v) ≡ length v / 2
  unfolding edges
  length-edges = let h = length_from (get_or v (length v - 2) (pos 0)) (get_or v (length v - 1) (pos 0)) v whole in omega arith

  edges-later : (k : ℕ) → 2 * k < length v → drop k (edges v) ≡ edges_at v (vertex_before (length v) (2 * k)) (2 * k)
  unfolding vertex_before edges edges_from
  edges-later zero h = let e : length v - 2 + 1 ≡ length v - 1 = omega arith in rw e
  edges-later (suc k) h =
      let e : suc k ≡ k + 1 = omega arith in
      let f : 2 * k + 2 ≡ 2 * suc k = omega arith in
      let l : 2 * k + 1 < length v = omega arith in
      let b = before-next (length v) (2 * k) (2 * suc k) (omega arith) in
      rw (b, e, ← drop-drop 1 k (edges v), edges-later k (omega arith), drop-two v (2 * k) (pos 0) l, f, e)

  -- edge k leads from the vertex before vertex k to vertex k
  edge-is : (k : ℕ) (d : Edge) → 2 * k < length v → get_or (edges v) k d ≡ edge_at v (vertex_before (length v) (2 * k)) (2 * k)
  unfolding edges_from
  edge-is k d h =
      let l : 2 * k + 1 < length v = omega arith in
      let j = vertex_before (length v) (2 * k) in
      ap (λ (i : ℕ). get_or (edges v) i d) (sym (add-zero k)) ∙ sym (get_or-drop k (edges v) 0 d)
      ∙ ap (λ (es : List Edge). get_or es 0 d)
      (edges-later k h ∙ ap (λ (l : List ℤ). edges_from (get_or v j (pos 0)) (get_or v (j + 1) (pos 0)) l) (drop-two v (2 * k) (pos 0) l))

  -- the walk past the edge to the vertex at i, as the code reads it
  pub walked-edge : (x y : ℤ) (i : ℕ) → i % 2 ≡ 0 → i < length v
      → walked v x y ((i + 2) / 2) ≡ past (edge_at v (vertex_before (length v) i) i) x y (walked v x y (i / 2))
  walked-edge x y i even h =
      let n = length-edges in
      let k = i / 2 in
      let q : 2 * k ≡ i = omega arith in
      let s : (i + 2) / 2 ≡ suc k = omega arith in
      let d : Edge = edge (pos 0) (pos 0) (pos 0) (pos 0) in
      rw s (walked_next v x y k d (omega arith) ∙ ap (λ (e : Edge). past e x y (walked v x y k)) (edge-is k d (omega arith)
      ∙ ap (λ (j : ℕ). edge_at v (vertex_before (length v) j) j) q))

  pub walked_all : (x y : ℤ) → found (walked v x y (length v / 2)) ≡ polygon_position v x y
  walked_all x y = let e = length-edges in walked-done v x y (length v / 2) (omega arith)

-- ---- the sum is no further from 0 than there are edges
crossings_in : (x y : ℤ) (es : List Edge) → In (length es) (crossings es x y)
unfolding crossings crossing
crossings_in x y [] = in_lit (pos 0)
crossings_in x y (e ∷ es) = record { abs = omega (arith, (in_add (turn_in e.y0 e.y1 y (side e x y)) (crossings_in x y es)).abs) }

pub walked_in : (v : List ℤ) (x y : ℤ) (k : ℕ) (sum : ℤ) → walked v x y k ≡ Some sum → In k sum
unfolding walked over
walked_in v x y k sum e = go (on_some (take k (edges v)) x y) e
  where
    summed : {a b : ℤ} → Some a ≡ Some b → a ≡ b
    summed e = cc

    go : (o : Bool) → cond o None (Some (crossings (take k (edges v)) x y)) ≡ Some sum → In k sum
    go true q = absurd (let z : ◌≡◌ {A = ℕ} 0 1 = cc in omega arith)
    go false q =
        let c = crossings_in x y (take k (edges v)) in
        let l = length-take k (edges v) in
        record { abs = rw (← summed q) (omega (arith, c.abs)) }

-- ---- a point on the scale is near to a vertex on it
pub seen-near : {x y vx vy : ℤ} {offset : Offset} → OnScale x → OnScale y → OnScale vx → OnScale vy → SeenFrom x y vx vy offset → Near offset
seen-near {x} {y} {vx} {vy} hx hy hvx hvy seen =
    record {
      right_in = rw seen.right_is (difference_in x vx hx hvx);
      up_in = rw seen.up_is (difference_in y vy hy hvy);
    }

-- ---- one edge, by the point as it is seen from its ends
module _ (a b : Offset) (sum s : ℤ) (side-is : s ≡ a.right *ℤ b.up -ℤ b.right *ℤ a.up) where
  module _ {x y x0 y0 x1 y1 : ℤ} (from : SeenFrom x y x0 y0 a) (to : SeenFrom x y x1 y1 b) where
    s-is : s ≡ side (edge x0 y0 x1 y1) x y
    s-is = side-is ∙ rw (from.right_is, from.up_is, to.right_is, to.up_is) (side-seen x y x0 y0 x1 y1)

    on_is : on_edge (edge x0 y0 x1 y1) x y ≡ (eq_z s (pos 0) && between a.right b.right (pos 0) && between a.up b.up (pos 0))
    unfolding on_edge
    on_is = rw (s-is, from.right_is, to.right_is, from.up_is, to.up_is, between-seen x0 x1 x, between-seen y0 y1 y)

    line-adds : eq_z s (pos 0) ≡ true → sum ≡ sum +ℤ crossing (edge x0 y0 x1 y1) x y
    unfolding crossing
    line-adds p = rw (turn-line y0 y1 y (side (edge x0 y0 x1 y1) x y) (sym s-is ∙ eq_z-true s (pos 0) p), +ℤ_idr)

    aside_adds : eq_z s (pos 0) ≡ false → turn_for a.up b.up s ≡ crossing (edge x0 y0 x1 y1) x y
    unfolding crossing
    aside_adds p = rw (from.up_is, to.up_is, ← s-is) (turn_aside y0 y1 y s p)

  -- it carries the point
  pub edge_carries : eq_z s (pos 0) ≡ true → between a.right b.right (pos 0) ≡ true → between a.up b.up (pos 0) ≡ true → PastEdge a b sum None
  edge_carries p q r = record { is = λ x y x0 y0 x1 y1 from to. rw (on_is from to, p, q, r) }

  -- the point is on its line, but not on it
  pub edge_on_line : eq_z s (pos 0) ≡ true → (between a.right b.right (pos 0) && between a.up b.up (pos 0)) ≡ false → PastEdge a b sum (Some sum)
  edge_on_line p q = record { is = λ x y x0 y0 x1 y1 from to. rw (on_is from to, p, q) (ap Some (line-adds from to p)) }

  -- the point is not on its line
  pub edge_aside : eq_z s (pos 0) ≡ false → PastEdge a b sum (Some (sum +ℤ turn_for a.up b.up s))
  edge_aside p = record { is = λ x y x0 y0 x1 y1 from to. rw (on_is from to, p) (ap (λ (z : ℤ). Some (sum +ℤ z)) (aside_adds from to p)) }

pub turn_for_in : (from to s : ℤ) → In 2 (turn_for from to s)
turn_for_in from to s =
    cond-case (λ (z : ℤ). In 2 z) (one_of (lt_z from (pos 0)) (lt_z to (pos 0))) _ _ (λ _. in_sub (one_in (lt_z to (pos 0))) (one_in (lt_z s (pos 0))))
    (λ _. in_le tt (in_lit (pos 0)))

-- ---- edges off the height
past-apart : (e : Edge) (x y : ℤ) → between e.y0 e.y1 y ≡ false → (w : Option ℤ) → past e x y w ≡ w
past-apart e x y h None = refl
past-apart e x y h (Some sum) = rw (on_edge-apart e x y h, ← crossing-apart e x y h) (ap Some (+ℤ_idr sum))

module _ (v : List ℤ) (whole : length v % 2 ≡ 0) (y : ℤ) where
  -- the height of the vertex before the one at i
  abbrev height_before : ℕ → ℤ
  height_before i = get_or v (vertex_before (length v) i + 1) (pos 0)

  -- none of them
  pub apart_none : (i : ℕ) → i % 2 ≡ 0 → i ≤ length v → Apart v y i i
  apart_none i even h = record { from = omega arith; to = h; even = even; same = λ m from to x. (let e : m ≡ i / 2 = omega arith in rw e) }

  -- one more
  apart_next : (above : Bool) (i k : ℕ) → Apart v y i k → k < length v → beyond above (height_before k) y ≡ true
      → beyond above (get_or v (k + 1) (pos 0)) y ≡ true → Apart v y i (k + 2) × (beyond above (height_before (k + 2)) y ≡ true)
  apart_next above i k a h p q =
      let f = a.from in
      let e = a.even in (
        record { from = omega arith; to = omega arith; even = omega arith; same = λ m from to x. at m from to x (dec_lt (k / 2) m) },
        ap (λ (j : ℕ). beyond above (get_or v (j + 1) (pos 0)) y) (before-next (length v) k (k + 2) refl) ∙ q,
      )
    where
      at : (m : ℕ) → i / 2 ≤ m → m ≤ (k + 2) / 2 → (x : ℤ) → Dec (k / 2 < m) → walked v x y m ≡ walked v x y (i / 2)
      at m from to x (yes l) =
          let g = a.from in
          let e = a.even in
          let s : m ≡ (k + 2) / 2 = omega arith in
          ap (walked v x y) s ∙ walked-edge v whole x y k e h
          ∙ past-apart (edge_at v (vertex_before (length v) k) k) x y (apart-beyond above _ _ y p q) (walked v x y (k / 2))
          ∙ a.same (k / 2) (omega arith) (omega arith) x
      at m from to x (no l) = a.same m from (omega arith) x

  -- four more
  pub apart_more : (above : Bool) (i k : ℕ) → Apart v y i k → k + 8 ≤ length v → beyond above (height_before k) y ≡ true → four_beyond above v k y ≡ true
      → Apart v y i (k + 8) × (beyond above (height_before (k + 8)) y ≡ true)
  unfolding four_beyond
  apart_more above i k a room p q =
      let three = and_both _ _ q in
      let two = and_both _ _ three.0 in
      let one = and_both _ _ two.0 in
      let at : (a b : ℕ) → a ≡ b → beyond above (get_or v a (pos 0)) y ≡ true → beyond above (get_or v b (pos 0)) y ≡ true =
      λ a b e h. ap (λ (j : ℕ). beyond above (get_or v j (pos 0)) y) (sym e) ∙ h in
      let r = apart_next above i k a (omega arith) p one.0 in
      let s = apart_next above i (k + 2) r.0 (omega arith) r.1 (at (k + 3) (k + 2 + 1) (omega arith) one.1) in
      let t = apart_next above i (k + 2 + 2) s.0 (omega arith) s.1 (at (k + 5) (k + 2 + 2 + 1) (omega arith) two.1) in
      let u = apart_next above i (k + 2 + 2 + 2) t.0 (omega arith) t.1 (at (k + 7) (k + 2 + 2 + 2 + 1) (omega arith) three.1) in
      let e : k + 2 + 2 + 2 + 2 ≡ k + 8 = omega arith in
      rw e at u
