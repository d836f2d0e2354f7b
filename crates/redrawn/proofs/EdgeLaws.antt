-- The edges of an outline that is redrawn: from another vertex they are the same edges in another order, backwards they are the edges turned round.
use mathlib.Core.Path.{◌≡◌, refl, ap, ap₂, ◌∙◌}
use mathlib.Core.List.Permᴰ
use mathlib.Core.List.{List, [], ◌∷◌, ◌++◌, map, append-nil, Permᴰ}
use Prim.Native.Nat.{ℕ, suc, ◌-◌, ◌*◌}
use native.Mathlib.Omega.{arith}
use lib.ListN.{length, get_or, take-append-drop}
use lib.IntN.{ℤ, pos}
use Rattle.counter.specs.Polygon.{Edge, edge, edges_from, edges}
use Rattle.redrawn.specs.Redrawing.{from_vertex, backwards}
use Rattle.redrawn.proofs.VertexLaws.{Pairs, none, pair, pairs_append, pairs_take, pairs_drop, pairs_back}

-- ---- the last vertex of a list, or (x0, y0) where it has none
last_x : ℤ → List ℤ → ℤ
last_x x0 [] = x0
last_x x0 (x ∷ []) = x0
last_x x0 (x ∷ (y ∷ v)) = last_x x v

last_y : ℤ → List ℤ → ℤ
last_y y0 [] = y0
last_y y0 (x ∷ []) = y0
last_y y0 (x ∷ (y ∷ v)) = last_y y v

last_x_append : {a : List ℤ} → Pairs a → (x0 : ℤ) (b : List ℤ) → last_x x0 (a ++ b) ≡ last_x (last_x x0 a) b
unfolding last_x
last_x_append none x0 b = refl
last_x_append (pair {x} r) x0 b = last_x_append r x b

last_y_append : {a : List ℤ} → Pairs a → (y0 : ℤ) (b : List ℤ) → last_y y0 (a ++ b) ≡ last_y (last_y y0 a) b
unfolding last_y
last_y_append none y0 b = refl
last_y_append (pair {y} r) y0 b = last_y_append r y b

last_x-at : {w : List ℤ} → Pairs w → (x y : ℤ) → get_or (x ∷ (y ∷ w)) (length w) (pos 0) ≡ last_x x w
unfolding last_x
last_x-at none x y = refl
last_x-at (pair {x = x1} {y = y1} r) x y = last_x-at r x1 y1

last_y-at : {w : List ℤ} → Pairs w → (x y : ℤ) → get_or (x ∷ (y ∷ w)) (suc (length w)) (pos 0) ≡ last_y y w
unfolding last_y
last_y-at none x y = refl
last_y-at (pair {x = x1} {y = y1} r) x y = last_y-at r x1 y1

-- ---- edges

-- through one list and then another
edges_append : {a : List ℤ} → Pairs a → (x0 y0 : ℤ) (b : List ℤ) → edges_from x0 y0 (a ++ b) ≡ edges_from x0 y0 a ++ edges_from (last_x x0 a) (last_y y0 a) b
unfolding edges_from last_x last_y
edges_append none x0 y0 b = refl
edges_append (pair {x} {y} r) x0 y0 b = ap (λ (es : List Edge). edge x0 y0 x y ∷ es) (edges_append r x y b)

-- from the last vertex to the first, and on
edges-first : {w : List ℤ} → Pairs w → (x y : ℤ) → edges (x ∷ (y ∷ w)) ≡ edge (last_x x w) (last_y y w) x y ∷ edges_from x y w
unfolding edges edges_from
edges-first {w} r x y =
    let e : suc (suc (length w)) - 2 ≡ length w = omega arith in
    let f : suc (suc (length w)) - 1 ≡ suc (length w) = omega arith in
    rw (e, f, last_x-at r x y, last_y-at r x y)

-- ---- from another vertex

-- two parts of an outline, each with the edge that leads into it from the other
joined : (x y : ℤ) {v : List ℤ} → Pairs v → (x1 y1 : ℤ) {w : List ℤ} → Pairs w
    → edges (x ∷ (y ∷ (v ++ (x1 ∷ (y1 ∷ w)))))
    ≡ (edge (last_x x1 w) (last_y y1 w) x y ∷ edges_from x y v) ++ (edge (last_x x v) (last_y y v) x1 y1 ∷ edges_from x1 y1 w)
unfolding edges_from last_x last_y
joined x y {v} r x1 y1 {w} s =
    edges-first (pairs_append r (pair s)) x y
    ∙ rw (last_x_append r x (x1 ∷ (y1 ∷ w)), last_y_append r y (x1 ∷ (y1 ∷ w)), edges_append r x y (x1 ∷ (y1 ∷ w)))

parts_exchanged : {a b : List ℤ} → Pairs a → Pairs b → Permᴰ (edges (a ++ b)) (edges (b ++ a))
parts_exchanged {b = b} none s = simp append-nil (Permᴰ.refl (edges b))
parts_exchanged {a = a} (pair r) none = simp append-nil (Permᴰ.refl (edges a))
parts_exchanged (pair {x = x} {y = y} {v = v} r) (pair {x = x1} {y = y1} {v = w} s) =
    rw (joined x y r x1 y1 s, joined x1 y1 s x y r)
    (Permᴰ.append_comm (edge (last_x x1 w) (last_y y1 w) x y ∷ edges_from x y v) (edge (last_x x v) (last_y y v) x1 y1 ∷ edges_from x1 y1 w))

pub edges-from : (k : ℕ) {v : List ℤ} → Pairs v → Permᴰ (edges v) (edges (from_vertex k v))
unfolding from_vertex
edges-from k {v} r = rw (take-append-drop (2 * k) v) at (parts_exchanged (pairs_take k r) (pairs_drop k r))

-- ---- in the other direction
abbrev pub turned_round : Edge → Edge
turned_round e = edge e.x1 e.y1 e.x0 e.y0

abbrev reversed : List Edge → List Edge
reversed [] = []
reversed (e ∷ es) = reversed es ++ (turned_round e ∷ [])

reversed-permuted : (es : List Edge) → Permᴰ (map turned_round es) (reversed es)
reversed-permuted [] = Permᴰ.nil
reversed-permuted (e ∷ es) = Permᴰ.trans (Permᴰ.cons refl (reversed-permuted es)) (Permᴰ.append_comm (turned_round e ∷ []) (reversed es))

-- the edges back to (x0, y0) are those from there, turned round, behind one from wherever the way back begins
way_back : {v : List ℤ} → Pairs v → (qx qy x0 y0 : ℤ)
    → edges_from qx qy (backwards v ++ (x0 ∷ (y0 ∷ []))) ≡ edge qx qy (last_x x0 v) (last_y y0 v) ∷ reversed (edges_from x0 y0 v)
unfolding edges_from backwards last_x last_y
way_back none qx qy x0 y0 = refl
way_back (pair {x = x} {y = y} {v = v} r) qx qy x0 y0 =
    edges_append (pairs_append (pairs_back r) (pair none)) qx qy (x0 ∷ (y0 ∷ []))
    ∙ rw (way_back r qx qy x y, last_x_append (pairs_back r) qx (x ∷ (y ∷ [])), last_y_append (pairs_back r) qy (x ∷ (y ∷ [])))

edges-last : {w : List ℤ} → Pairs w → (x0 y0 : ℤ) → edges w ≡ edges_from (last_x x0 w) (last_y y0 w) w
unfolding edges edges_from last_x last_y
edges-last none x0 y0 = refl
edges-last (pair {x = x} {y = y} r) x0 y0 = edges-first r x y

-- backwards: the first edge turned round, then the others in reverse order, each turned round
round_trip : {v : List ℤ} → Pairs v → (x y : ℤ) → edges (backwards v ++ (x ∷ (y ∷ []))) ≡ edge x y (last_x x v) (last_y y v) ∷ reversed (edges_from x y v)
unfolding last_x last_y
round_trip {v} r x y =
    edges-last (pairs_append (pairs_back r) (pair none)) x y
    ∙ ap₂ (λ (a b : ℤ). edges_from a b (backwards v ++ (x ∷ (y ∷ []))))
    (last_x_append (pairs_back r) x (x ∷ (y ∷ []))) (last_y_append (pairs_back r) y (x ∷ (y ∷ [])))
    ∙ way_back r x y x y

no_edges : edges [] ≡ []
unfolding edges edges_from
no_edges = refl

pub edges-back : {v : List ℤ} → Pairs v → Permᴰ (map turned_round (edges v)) (edges (backwards v))
unfolding backwards
edges-back none = rw no_edges Permᴰ.nil
edges-back (pair {x = x} {y = y} {v = v} r) =
    rw (edges-first r x y, round_trip r x y) (Permᴰ.cons refl (reversed-permuted (edges_from x y v)))
