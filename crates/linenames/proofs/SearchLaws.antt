-- What the tests of a loop over names say of the definitions.
use mathlib.Core.Path.{◌≡◌, sym, ap}
use mathlib.Core.Logic.{◌⊎◌, inl, inr}
use mathlib.Core.Bool.{Bool, true, false, not, cond, ◌&&◌}
use mathlib.Core.List.{List, []}
use Prim.Native.Nat.{ℕ, ◌-◌, ◌<◌, ◌≤◌}
use native.Mathlib.Omega.{arith}
use native.Mathlib.Decide.{dec_lt}
use lib.Dec.{ltb}
use lib.ListN.{length, get_or, get_or-eq_default}
use borrow.Author.Tests.{lt-ltb, le-ltb}
use Rattle.plans.specs.Indices.{any, first_bad}
use Rattle.plans.proofs.IndexLaws.{first-same}
use Rattle.text.specs.Bytes.{same}
use Rattle.text.proofs.TestLaws.{passed_or_failed}
use Rattle.gates.specs.Kinds.{field_at, line_kind, is_quad}
use Rattle.gates.specs.Quads.{quadrant_count, quadrant_at}
use Rattle.gates.specs.Inner.Regions.{region_count, region_name}
use Rattle.linenames.specs.Inner.LineNames.{other_region, region_named, names_region, quad_count, quadrant_name, other_quadrant, quadrant_named, gives_name, shares_quadrant, shares_name, reference_end, has_reference, reference_at, passes_by, refers_line}

module _ (fs : List (List ℕ)) (q : ℕ) where
  pub quadrant-read : (k : ℕ) → k ≡ cond (ltb q (quadrant_count fs)) (quadrant_at fs q) (length fs) → get_or fs k [] ≡ quadrant_name fs q
  unfolding quadrant_name
  quadrant-read k e = rw e (go (dec_lt q (quadrant_count fs)))
    where
      go : Dec (q < quadrant_count fs) → get_or fs (cond (ltb q (quadrant_count fs)) (quadrant_at fs q) (length fs)) []
          ≡ cond (ltb q (quadrant_count fs)) (field_at fs (quadrant_at fs q)) []
      go (yes h) = rw (lt-ltb q (quadrant_count fs) h)
      go (no h) = rw (le-ltb q (quadrant_count fs) (omega arith)) (get_or-eq_default fs [] {n = length fs} (omega arith))

  -- the name of a region
  name-of-quadrant : is_quad (line_kind fs) ≡ true → quadrant_name fs q ≡ region_name fs q
  unfolding quadrant_name region_name region_count
  name-of-quadrant h = rw h

  module _ (x : List ℕ) {y : List ℕ} {b : Bool} (s : b ≡ same x y) where
    pub region-here : y ≡ region_name fs q → b ≡ true → other_region fs x q ≡ false
    unfolding other_region
    region-here e t = rw (← e, ← s, t)

    pub region-other : y ≡ region_name fs q → b ≡ false → other_region fs x q ≡ true
    unfolding other_region
    region-other e t = rw (← e, ← s, t)

  -- a name of a quadrant that another line gives, or not
  pub shared_is : (gs : List (List ℕ)) {y : List ℕ} {b c : Bool} → y ≡ quadrant_name fs q → b ≡ gives_name gs y → b ≡ c → shares_quadrant fs gs q ≡ c
  unfolding shares_quadrant
  shared_is gs e s t = rw (← e, ← s, t)

-- the quadrants of a quadrant gate are its regions; another gate has none
pub quadrant-found : (fs : List (List ℕ)) (x : List ℕ) → cond (is_quad (line_kind fs)) (region_named fs x) 0 ≡ quadrant_named fs x
unfolding region_named quadrant_named other_region other_quadrant region_count quad_count first_bad
quadrant-found fs x = go (passed_or_failed (is_quad (line_kind fs)))
  where
    go : (is_quad (line_kind fs) ≡ true) ⊎ (is_quad (line_kind fs) ≡ false) → cond (is_quad (line_kind fs)) (region_named fs x) 0 ≡ quadrant_named fs x
    go (inl t) =
        rw t (first-same (other_region fs x) (other_quadrant fs x) 0 (quadrant_count fs)
        (λ q _ l. ap (λ (y : List ℕ). not (same x y)) (sym (name-of-quadrant fs q t))))
    go (inr t) = rw t

-- field k names a region of another line, or not
module _ (fs gs : List (List ℕ)) (k : ℕ) {y : List ℕ} {h n : Bool} (a : h ≡ has_reference fs k) (e : y ≡ reference_at fs k) (s : n ≡ names_region gs y) where
  pub passes-not : (h && n) ≡ true → passes_by fs gs k ≡ false
  unfolding passes_by
  passes-not t = rw (← e, ← s, ← a, t)

  pub passes_still : (h && n) ≡ false → passes_by fs gs k ≡ true
  unfolding passes_by
  passes_still t = rw (← e, ← s, ← a, t)

-- the answers of a search through references
module _ (fs gs : List (List ℕ)) {end k : ℕ} (n : end ≡ reference_end fs) (f : first_bad (passes_by fs gs) 2 (end - 2) ≡ k) where
  pub refers-found : k < end → true ≡ refers_line fs gs
  unfolding refers_line
  refers-found h = rw (← n, f, lt-ltb k end h)

  pub refers-none : end ≤ k → false ≡ refers_line fs gs
  unfolding refers_line
  refers-none h = rw (← n, f, le-ltb k end h)

-- the gate's own name is given by another line, or not
module _ (fs gs : List (List ℕ)) {y : List ℕ} {b : Bool} (e : y ≡ field_at fs 1) (s : b ≡ gives_name gs y) where
  pub shared_gate : b ≡ true → true ≡ shares_name fs gs
  unfolding shares_name
  shared_gate t = rw (← e, ← s, t)

  pub shared_rest : b ≡ false → shares_name fs gs ≡ any (shares_quadrant fs gs) (quad_count fs)
  unfolding shares_name
  shared_rest t = rw (← e, ← s, t)
