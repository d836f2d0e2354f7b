-- The fields of a line that is redrawn are the same in another order; its text is as long and has no LF in it.
use mathlib.Core.Path.{◌≡◌, refl, sym, ap, ◌∙◌}
use mathlib.Core.Bool.{Bool, true, false, not, ◌&&◌, and-true}
use mathlib.Core.List.Permᴰ
use mathlib.Core.List.{List, [], ◌∷◌, ◌++◌, Permᴰ}
use Prim.Native.Nat.{ℕ, ◌<◌}
use native.Mathlib.Omega.{arith}
use native.Mathlib.Decide.{dec_lt}
use lib.Dec.{eqb}
use lib.ListN.{length, take, drop, length-append, length-take, length-drop, take-append-drop, get_or-append, get_or-eq_default}
use lib.Seq.{get_or-take, drop_at}
use Rattle.text.specs.Bytes.{every}
use Rattle.text.specs.Inner.Counts.{without}
use Rattle.text.specs.Lines.{fields, unfields}
use Rattle.text.proofs.LinesLaws.{fields-some}
use Rattle.text.proofs.TextTheorems.{unfields-fields, fields-without}
use Rattle.gates.specs.Kinds.{field_at}
use Rattle.tables.specs.Table.{sum_of}
use Rattle.tables.proofs.ListLaws.{every-at, every_of}
use Rattle.tables.proofs.SumLaws.{sum_moved}
use Rattle.tables.proofs.GateLaws.{moved}
use Rattle.tables.proofs.TextLaws.{fields-unfields}
use Rattle.tables.proofs.RewrittenLaws.{line_bytes}
use Rattle.redrawn.specs.Redrawing.{redrawn}
use Rattle.redrawn.proofs.VertexLaws.{length-redrawn, none_left}
use Rattle.redrawn.proofs.ElementLaws.{elements_permuted}
use Rattle.redrawntables.specs.Lines.{redrawn_fields, redrawn_line}

-- ---- the text of some fields

-- its length: each field has a tab or the line's end behind it
unfields-length : (fs : List (List ℕ)) → 0 < length fs → line_bytes (unfields fs) ≡ sum_of line_bytes fs
unfields-length [] l = absurd (omega arith)
unfields-length (f ∷ []) l = omega arith
unfields-length (f ∷ (g ∷ fs)) l = let h = unfields-length (g ∷ fs) (omega arith) in simp length-append (omega arith)

without_append : (a b : List ℕ) → without 10 (a ++ b) ≡ (without 10 a && without 10 b)
without_append [] b = refl
without_append (x ∷ a) b = rw (without_append a b) (sym (assoc (not (eqb x 10)) (without 10 a) (without 10 b)))
  where
    assoc : (p q r : Bool) → (p && q && r) ≡ (p && (q && r))
    assoc true q r = refl
    assoc false q r = refl

-- no LF comes in with the tabs
unfields-without : (fs : List (List ℕ)) → without 10 (unfields fs) ≡ every (without 10) fs
unfields-without [] = refl
unfields-without (f ∷ []) = sym (and-true (without 10 f))
unfields-without (f ∷ (g ∷ fs)) = without_append f (9 ∷ unfields (g ∷ fs)) ∙ ap (λ (b : Bool). without 10 f && b) (unfields-without (g ∷ fs))

-- ---- the fields

module _ (k : ℕ) (back : Bool) (fs : List (List ℕ)) where
  pub length_fields : length (redrawn_fields k back fs) ≡ length fs
  unfolding redrawn_fields
  length_fields = simp (length-append, length-take, length-redrawn, length-drop) (omega arith)

  -- the fields before the vertices stay
  pub field_before : (i : ℕ) → i < 5 → field_at (redrawn_fields k back fs) i ≡ field_at fs i
  unfolding redrawn_fields
  field_before i h = go (dec_lt i (length fs))
    where
      go : Dec (i < length fs) → field_at (take 5 fs ++ redrawn k back (drop 5 fs)) i ≡ field_at fs i
      go (yes l) = get_or-append (take 5 fs) (redrawn k back (drop 5 fs)) [] i (simp length-take (omega arith)) ∙ get_or-take 5 fs i [] h
      go (no l) =
          let e : length (take 5 fs ++ redrawn k back (drop 5 fs)) ≡ length fs = length_fields in
          get_or-eq_default (take 5 fs ++ redrawn k back (drop 5 fs)) [] {n = i} (omega arith) ∙ sym (get_or-eq_default fs [] {n = i} (omega arith))

  pub fields-permuted : Permᴰ fs (redrawn_fields k back fs)
  unfolding redrawn_fields
  fields-permuted = rw (take-append-drop 5 fs) at (Permᴰ.append_left (take 5 fs) (elements_permuted k back (drop 5 fs)))

  every-redrawn : (test : List ℕ → Bool) → every test fs ≡ true → every test (redrawn_fields k back fs) ≡ true
  every-redrawn test h = every_of test (redrawn_fields k back fs) (λ f m. every-at test (moved (Permᴰ.symm fields-permuted) m) h)

  -- the vertices are redrawn
  pub vertices-redrawn : drop 5 (redrawn_fields k back fs) ≡ redrawn k back (drop 5 fs)
  unfolding redrawn_fields
  vertices-redrawn = go (dec_lt (length fs) 5)
    where
      go : Dec (length fs < 5) → drop 5 (take 5 fs ++ redrawn k back (drop 5 fs)) ≡ redrawn k back (drop 5 fs)
      go (yes l) =
          let n : length (take 5 fs ++ redrawn k back (drop 5 fs)) ≡ length fs = length_fields in
          let m = length-redrawn k back (drop 5 fs) in
          let d = length-drop 5 fs in
          none_left (drop 5 (take 5 fs ++ redrawn k back (drop 5 fs))) (simp length-drop (omega arith))
          ∙ sym (none_left (redrawn k back (drop 5 fs)) (omega arith))
      go (no l) = drop_at (take 5 fs) (redrawn k back (drop 5 fs)) 5 (simp length-take (omega arith))

-- ---- the line

module _ (k : ℕ) (back : Bool) (line : List ℕ) where
  some_field : 0 < length (redrawn_fields k back (fields line))
  unfolding fields
  some_field = let e = length_fields k back (fields line) in let s = fields-some 9 line in omega arith

  pub fields-line : fields (redrawn_line k back line) ≡ redrawn_fields k back (fields line)
  unfolding redrawn_line
  fields-line = fields-unfields (redrawn_fields k back (fields line)) some_field (every-redrawn k back (fields line) (without 9) (fields-without line))

  pub bytes-line : line_bytes (redrawn_line k back line) ≡ line_bytes line
  unfolding redrawn_line fields
  bytes-line =
      unfields-length (redrawn_fields k back (fields line)) some_field
      ∙ sym (sum_moved line_bytes (fields-permuted k back (fields line)))
      ∙ sym (unfields-length (fields line) (fields-some 9 line)) ∙ ap line_bytes (unfields-fields line)

  pub without-line : without 10 line ≡ true → without 10 (redrawn_line k back line) ≡ true
  unfolding redrawn_line
  without-line h =
      unfields-without (redrawn_fields k back (fields line))
      ∙ every-redrawn k back (fields line) (without 10) (sym (unfields-without (fields line)) ∙ ap (without 10) (unfields-fields line) ∙ h)
