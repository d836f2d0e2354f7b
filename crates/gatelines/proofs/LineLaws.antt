-- Laws of a line's layout and of counts, as the code needs them.
use mathlib.Core.Path.{◌≡◌, refl, sym, ◌∙◌}
use mathlib.Core.Bool.{Bool, true, false, cond}
use mathlib.Core.List.{List, [], ◌∷◌}
use Prim.Native.Nat.{ℕ, ◌+◌, ◌-◌, ◌*◌, ◌^◌, ◌<◌, ◌≤◌}
use native.Mathlib.Omega.{arith}
use borrow.Author.Tests.{lt-ltb}
use lib.Dec.{eqb, ltb}
use lib.IntN.{ℤ, pos}
use lib.ListN.{length, get_or}
use lib.Signed.{mag}
use mir.Syntax.{w32}
use mir.Val.{hbits, to_z, of_z}
use mir.ValLaws.{to_z-of_z}
use Rattle.text.specs.Bytes.{same}
use Rattle.text.specs.Bounded.{tab}
use Rattle.text.proofs.BoundedLaws.{get_or-tab}
use Rattle.text.proofs.BytesLaws.{before_le}
use Rattle.text.specs.Lines.{push, parts, fields}
use Rattle.gates.specs.declared.LineKind.{LineKind}
use Rattle.gates.specs.declared.LineRefusal.{LineRefusal}
use Rattle.gates.specs.declared.LineRefusal.TheVariants.{UnknownKind, WrongShape, BadName, BadNumber, OffScale, BadDimension, CrossedBounds, BadMatrix, NoTiling}
use Rattle.gates.specs.LineRefusals.{line_refusal_number}
use Rattle.gates.specs.Rules.{no_refusal}
use Rattle.gates.specs.Kinds.{line_kind, is_quad, dimension_of}
use Rattle.gates.specs.Inner.Regions.{region_count, body_length}
use Rattle.gates.specs.Quads.{divider_count, quadrant_count, quadrant_at}
use Rattle.gates.proofs.QuadLaws.{quadrant-fits}

push-length : (x : ℕ) (p : List (List ℕ)) → length (push x p) ≤ length p + 1
push-length x [] = omega arith
push-length x (l ∷ p) = omega arith

parts-length : (c : ℕ) (s : List ℕ) → length (parts c ([] ∷ []) s) ≤ length s + 1
parts-length c [] = omega arith
parts-length c (x ∷ s) = go (eqb x c) (parts c ([] ∷ []) s) (parts-length c s)
  where
    go : (b : Bool) (p : List (List ℕ)) → length p ≤ length s + 1 → length (cond b ([] ∷ p) (push x p)) ≤ length (x ∷ s) + 1
    go true p h = omega arith
    go false p h = omega (arith, push-length x p)

-- a line has at most one field more than bytes
pub fields-length : (s : List ℕ) → length (fields s) ≤ length s + 1
unfolding fields
fields-length s = parts-length 9 s

-- so the fields of quadrant q are numbered below that
pub quadrant-below : (s : List ℕ) (q : ℕ) → q < quadrant_count (fields s) → quadrant_at (fields s) q + 1 + divider_count (fields s) ≤ length s + 1
unfolding quadrant_at
quadrant-below s q h =
    let fs = fields s in
    let d = divider_count fs in
    let g : d ≡ divider_count fs = refl in
    omega (arith, fields-length s, quadrant-fits fs q d g h)

pub cond_lt : (q n a b r : ℕ) → q < n → r ≡ cond (ltb q n) a b → r ≡ a
cond_lt q n a b r h e = e ∙ rw (lt-ltb q n h)

pub dimension_le : (head : List (List ℕ)) (x : List ℕ) → dimension_of head x ≤ length head
unfolding dimension_of
dimension_le head x = before_le (same x) head

-- a word of a table of words that is returned
pub word_in_table : (f : ℕ → ℤ) (m : ℕ) {i : ℕ} {w : ℤ} → i < m → mag w < 2 ^ hbits w32 → w ≡ f i → to_z w32 (of_z w32 w) ≡ get_or (tab f m) i (pos 0)
word_in_table f m {i} {w} h small e = to_z-of_z w32 w (record { sfits = small }) ∙ e ∙ sym (get_or-tab f (pos 0) m i h)

-- ---- quad lines and others

pub quad-known : (fs : List (List ℕ)) (k : LineKind) (b v : Bool) → k ≡ line_kind fs → b ≡ is_quad k → b ≡ v → is_quad (line_kind fs) ≡ v
quad-known fs k b v e f g = rw (← e) (sym f ∙ g)

pub region-quad : (fs : List (List ℕ)) → is_quad (line_kind fs) ≡ true → region_count fs ≡ quadrant_count fs
unfolding region_count
region-quad fs e = rw e

pub length-quad : (fs : List (List ℕ)) → is_quad (line_kind fs) ≡ true → body_length fs ≡ 3 * divider_count fs
unfolding body_length
length-quad fs e = rw e

pub length-other : (fs : List (List ℕ)) → is_quad (line_kind fs) ≡ false → body_length fs ≡ length fs - 3
unfolding body_length
length-other fs e = rw e

-- ---- refusals

-- the number of a refusal is below that of none
pub refused : (r : LineRefusal) (n : ℕ) → line_refusal_number r ≡ cond (ltb (line_refusal_number r) no_refusal) (line_refusal_number r) n
refused UnknownKind n = refl
refused WrongShape n = refl
refused BadName n = refl
refused BadNumber n = refl
refused OffScale n = refl
refused BadDimension n = refl
refused CrossedBounds n = refl
refused BadMatrix n = refl
refused NoTiling n = refl
