-- A polygon that is redrawn has the same outline and the same inside; its winding sum keeps its value from another vertex and changes only its sign in the
-- other direction.
use mathlib.Core.Path.{◌≡◌, refl, sym, ap, ap₂, ◌∙◌}
use mathlib.Core.Bool.{Bool, true, false, cond, ◌&&◌, or_comm, or_assoc, ◌||◌}
use mathlib.Core.List.{List, [], ◌∷◌, foldr, map, Permᴰ}
use Prim.Native.Nat.{ℕ, ◌%◌}
use lib.ListN.{length}
use lib.IntN.{ℤ, pos, negsuc, neg_ℤ, ◌+ℤ◌, +ℤ_assoc, +ℤ_comm, neg_ℤ-+ℤ}
use lib.Signed.{le_z, lt_z}
use Rattle.integers.specs.Equality.{eq_z}
use Rattle.integers.specs.Inner.Expressions.{Ex, var, ◌⊖◌, ◌⊗◌, neg}
use Rattle.integers.proofs.Parts.{neg-up, neg-dn}
use Rattle.integers.proofs.Order.{zarith}
use Rattle.integers.proofs.Equality.{eq_z-true, eq_z-false, true-eq_z, false-eq_z}
use Rattle.integers.proofs.Solver.{solve}
use Rattle.plans.proofs.IndexLaws.{clash, and_both}
use Rattle.counter.specs.Polygon.{Edge, side, between, on_edge, rises, falls, turn, crossing, edges, on_some, crossings, on_outline, winding, in_polygon}
use Rattle.counter.specs.Positions.{polygon_position}
use Rattle.redrawn.specs.Redrawing.{from_vertex, backwards, redrawn}
use Rattle.redrawn.specs.Outline.{SameOutline}
use Rattle.redrawn.proofs.VertexLaws.{pairs, length_from}
use Rattle.redrawn.proofs.RedrawingTheorems.{vertices-permuted}
use Rattle.redrawn.proofs.EdgeLaws.{edges-from, turned_round, edges-back}

-- ---- a number and its negative

-- of a test of a number that says of its negative what another test says of the number
module _ (s : ℤ) where
  zero-neg : eq_z (neg_ℤ s) (pos 0) ≡ eq_z s (pos 0)
  zero-neg = go (eq_z s (pos 0)) refl
    where
      go : (b : Bool) → eq_z s (pos 0) ≡ b → eq_z (neg_ℤ s) (pos 0) ≡ b
      go true h = let e = eq_z-true s (pos 0) h in true-eq_z (neg_ℤ s) (pos 0) (omega (zarith, neg-up s, neg-dn s))
      go false h = false-eq_z (neg_ℤ s) (pos 0) (λ q. eq_z-false s (pos 0) h (omega (zarith, neg-up s, neg-dn s)))

  above-neg : lt_z (pos 0) (neg_ℤ s) ≡ lt_z s (pos 0)
  above-neg = go (lt_z s (pos 0)) refl
    where
      go : (b : Bool) → lt_z s (pos 0) ≡ b → lt_z (pos 0) (neg_ℤ s) ≡ b
      go true h = omega (zarith, neg-up s, neg-dn s)
      go false h = omega (zarith, neg-up s, neg-dn s)

  below-neg : lt_z (neg_ℤ s) (pos 0) ≡ lt_z (pos 0) s
  below-neg = go (lt_z (pos 0) s) refl
    where
      go : (b : Bool) → lt_z (pos 0) s ≡ b → lt_z (neg_ℤ s) (pos 0) ≡ b
      go true h = omega (zarith, neg-up s, neg-dn s)
      go false h = omega (zarith, neg-up s, neg-dn s)

-- ---- an edge turned round

-- its side changes sign
side-round : (e : Edge) (x y : ℤ) → side (turned_round e) x y ≡ neg_ℤ (side e x y)
unfolding side
side-round e x y =
    solve (e.x0 ∷ e.y0 ∷ e.x1 ∷ e.y1 ∷ x ∷ y ∷ []) (s (var 2) (var 3) (var 0) (var 1) (var 4) (var 5))
    (neg (s (var 0) (var 1) (var 2) (var 3) (var 4) (var 5))) tt
  where
    s : Ex → Ex → Ex → Ex → Ex → Ex → Ex
    s x0 y0 x1 y1 x y = (x1 ⊖ x0) ⊗ (y ⊖ y0) ⊖ (x ⊖ x0) ⊗ (y1 ⊖ y0)

between-round : (a b x : ℤ) → between b a x ≡ between a b x
unfolding between
between-round a b x = or_comm (le_z b x && le_z x a) (le_z a x && le_z x b)

-- it carries the same points
pub on_edge-round : (x y : ℤ) (e : Edge) → on_edge (turned_round e) x y ≡ on_edge e x y
unfolding on_edge
on_edge-round x y e = rw (side-round e x y, zero-neg (side e x y), between-round e.x0 e.x1 x, between-round e.y0 e.y1 y)

-- no edge both rises and falls at a height
not_both : (y0 y1 y s : ℤ) → rises y0 y1 y s ≡ true → falls y0 y1 y s ≡ true → ⊥
not_both y0 y1 y s p q =
    let rising = (and_both (le_z y0 y && lt_z y y1) (lt_z (pos 0) s) p).0 in
    let falling = (and_both (le_z y1 y && lt_z y y0) (lt_z s (pos 0)) q).0 in
    let under = (and_both (le_z y0 y) (lt_z y y1) rising).1 in
    let over = (and_both (le_z y1 y) (lt_z y y0) falling).0 in
    let n : le_z y1 y ≡ false = omega zarith in
    clash (sym over ∙ n)

-- and takes where it added, and adds where it took
turn-round : (y0 y1 y s : ℤ) → turn y1 y0 y (neg_ℤ s) ≡ neg_ℤ (turn y0 y1 y s)
unfolding turn
turn-round y0 y1 y s = rw (above-neg s, below-neg s) (go (rises y0 y1 y s) (falls y0 y1 y s) refl refl)
  where
    go : (t u : Bool) → rises y0 y1 y s ≡ t → falls y0 y1 y s ≡ u
        → cond u (pos 1) (cond t (negsuc 0) (pos 0)) ≡ neg_ℤ (cond t (pos 1) (cond u (negsuc 0) (pos 0)))
    go true true p q = absurd (not_both y0 y1 y s p q)
    go true false p q = refl
    go false true p q = refl
    go false false p q = refl

pub crossing-round : (x y : ℤ) (e : Edge) → crossing (turned_round e) x y ≡ neg_ℤ (crossing e x y)
unfolding crossing
crossing-round x y e = rw (side-round e x y) (turn-round e.y0 e.y1 y (side e x y))

-- ---- a sum over edges does not rest on their order
abbrev total : {M : Type 0} → M → (M → M → M) → (Edge → M) → List Edge → M
total none add f es = foldr (λ e m. add (f e) m) none es

module _ {M : Type 0} (none : M) (add : M → M → M) (f : Edge → M) where
  total-permuted : ((a b : M) → add a b ≡ add b a) → ((a b c : M) → add (add a b) c ≡ add a (add b c)) → {es fs : List Edge} → Permᴰ es fs
      → total none add f fs ≡ total none add f es
  total-permuted comm assoc Permᴰ.nil = refl
  total-permuted comm assoc (Permᴰ.cons e p) = ap₂ add (ap f (sym e)) (total-permuted comm assoc p)
  total-permuted comm assoc (Permᴰ.swap {a = a} {b = b} {l = l} e g) =
      let rest = total none add f l in
      ap₂ (λ (c d : Edge). add (f c) (add (f d) rest)) (sym g) (sym e)
      ∙ sym (assoc (f b) (f a) rest) ∙ ap (λ (m : M). add m rest) (comm (f b) (f a)) ∙ assoc (f a) (f b) rest
  total-permuted comm assoc (Permᴰ.trans p q) = total-permuted comm assoc q ∙ total-permuted comm assoc p

  -- over edges turned round: what each of them gives then
  total-round : (g : Edge → M) → ((e : Edge) → f (turned_round e) ≡ g e) → (es : List Edge) → total none add f (map turned_round es) ≡ total none add g es
  total-round g h [] = refl
  total-round g h (e ∷ es) = ap₂ add (h e) (total-round g h es)

-- ---- of every polygon whose vertices are whole, and every point

crossings-neg : (x y : ℤ) (es : List Edge) → total (pos 0) ◌+ℤ◌ (λ e. neg_ℤ (crossing e x y)) es ≡ neg_ℤ (crossings es x y)
unfolding crossings
crossings-neg x y [] = refl
crossings-neg x y (e ∷ es) =
    ap (λ (z : ℤ). neg_ℤ (crossing e x y) +ℤ z) (crossings-neg x y es) ∙ sym (neg_ℤ-+ℤ (crossing e x y) (crossings es x y))

module _ (v : List ℤ) (whole : length v % 2 ≡ 0) (x y : ℤ) where
  -- from another vertex the sum keeps its value
  pub winding-from : (k : ℕ) → winding (from_vertex k v) x y ≡ winding v x y
  unfolding crossings
  winding-from k = total-permuted (pos 0) ◌+ℤ◌ (λ e. crossing e x y) +ℤ_comm +ℤ_assoc (edges-from k (pairs v whole))

  outline-from : (k : ℕ) → on_outline (from_vertex k v) x y ≡ on_outline v x y
  unfolding on_some
  outline-from k = total-permuted false ◌||◌ (λ e. on_edge e x y) or_comm or_assoc (edges-from k (pairs v whole))

  -- in the other direction it changes its sign, for a point on an edge too
  pub winding-back : winding (backwards v) x y ≡ neg_ℤ (winding v x y)
  unfolding crossings
  winding-back =
      total-permuted (pos 0) ◌+ℤ◌ (λ e. crossing e x y) +ℤ_comm +ℤ_assoc (edges-back (pairs v whole))
      ∙ total-round (pos 0) ◌+ℤ◌ (λ e. crossing e x y) (λ e. neg_ℤ (crossing e x y)) (crossing-round x y) (edges v)
      ∙ crossings-neg x y (edges v)

  outline-back : on_outline (backwards v) x y ≡ on_outline v x y
  unfolding on_some
  outline-back =
      total-permuted false ◌||◌ (λ e. on_edge e x y) or_comm or_assoc (edges-back (pairs v whole))
      ∙ total-round false ◌||◌ (λ e. on_edge e x y) (λ e. on_edge e x y) (on_edge-round x y) (edges v)

-- ---- from any vertex and in either direction

from-whole : (k : ℕ) (v : List ℤ) → length v % 2 ≡ 0 → length (from_vertex k v) % 2 ≡ 0
from-whole k v whole = rw (length_from k v) whole

winding-either : (k : ℕ) (back : Bool) (v : List ℤ) → length v % 2 ≡ 0 → (x y : ℤ)
    → winding (redrawn k back v) x y ≡ cond back (neg_ℤ (winding v x y)) (winding v x y)
unfolding redrawn
winding-either k false v whole x y = winding-from v whole x y k
winding-either k true v whole x y = winding-back (from_vertex k v) (from-whole k v whole) x y ∙ ap neg_ℤ (winding-from v whole x y k)

outline-either : (k : ℕ) (back : Bool) (v : List ℤ) → length v % 2 ≡ 0 → (x y : ℤ) → on_outline (redrawn k back v) x y ≡ on_outline v x y
unfolding redrawn
outline-either k false v whole x y = outline-from v whole x y k
outline-either k true v whole x y = outline-back (from_vertex k v) (from-whole k v whole) x y ∙ outline-from v whole x y k

module _ (k : ℕ) (back : Bool) (v : List ℤ) (whole : length v % 2 ≡ 0) (x y : ℤ) where
  -- the sum changes only its sign, and only under reversal
  pub winding-redrawn : winding (redrawn k back v) x y ≡ cond back (neg_ℤ (winding v x y)) (winding v x y)
  winding-redrawn = winding-either k back v whole x y

  -- the same points are on the outline
  pub outline-redrawn : on_outline (redrawn k back v) x y ≡ on_outline v x y
  outline-redrawn = outline-either k back v whole x y

  -- the sum is 0 for both or for neither
  unwound_redrawn : eq_z (winding (redrawn k back v) x y) (pos 0) ≡ eq_z (winding v x y) (pos 0)
  unwound_redrawn = rw winding-redrawn (go back)
    where
      go : (b : Bool) → eq_z (cond b (neg_ℤ (winding v x y)) (winding v x y)) (pos 0) ≡ eq_z (winding v x y) (pos 0)
      go false = refl
      go true = zero-neg (winding v x y)

  -- the same points are in the polygon
  pub inside-redrawn : in_polygon (redrawn k back v) x y ≡ in_polygon v x y
  unfolding in_polygon
  inside-redrawn = rw (outline-redrawn, unwound_redrawn)

  -- outside, inside or on the outline: the same of every point
  pub position-redrawn : polygon_position (redrawn k back v) x y ≡ polygon_position v x y
  unfolding polygon_position
  position-redrawn = rw (outline-redrawn, unwound_redrawn)

-- ---- the whole claim
pub outline-same : (v : List ℤ) → length v % 2 ≡ 0 → SameOutline v
outline-same v whole = record {
  permuted = λ k back. vertices-permuted k back v whole;
  inside = λ k back x y. inside-redrawn k back v whole x y;
  position = λ k back x y. position-redrawn k back v whole x y;
  sum_from = λ k x y. winding-from v whole x y k;
  sum_back = λ x y. winding-back v whole x y;
}
