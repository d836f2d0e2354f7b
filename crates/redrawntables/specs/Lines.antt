-- A table with the vertices of polygon lines redrawn: the same fields, byte for byte, those of the vertices in another order.
use Rattle.std.specs.Prelude.{◌≡◌, Bool, List, [], ◌∷◌, ◌++◌, ℕ, get_or, take, drop, set}
use Rattle.text.specs.Lines.{fields, unfields}
use Rattle.gates.specs.declared.LineKind.TheVariants.{Poly}
use Rattle.gates.specs.Kinds.{line_kind}
use Rattle.tables.specs.Head.{gate_lines, reordered}
use Rattle.redrawn.specs.Redrawing.{redrawn}

-- ---- one line: kind, name, parent, two dimensions, then the vertices

unfoldable pub redrawn_fields : ℕ → Bool → List (List ℕ) → List (List ℕ)
redrawn_fields k back fs = take 5 fs ++ redrawn k back (drop 5 fs)

unfoldable pub redrawn_line : ℕ → Bool → List ℕ → List ℕ
redrawn_line k back line = unfields (redrawn_fields k back (fields line))

-- the table with gate line i redrawn, counted from 0; `reordered` puts line 1 before the gate lines that it is given
unfoldable pub redrawn_table : ℕ → Bool → List ℕ → ℕ → List ℕ
redrawn_table k back text i = reordered text (set (gate_lines text) i (redrawn_line k back (get_or (gate_lines text) i [])))

-- ---- any of the `poly` lines, each in its own way

pub data LineRedrawn : List ℕ → List ℕ → Type 0 where
  kept : {l : List ℕ} → LineRedrawn l l
  drawn : {l : List ℕ} (k : ℕ) (back : Bool) → line_kind (fields l) ≡ Poly → LineRedrawn l (redrawn_line k back l)

-- two lists that agree element by element in a relation
pub data Along {A : Type 0} (R : A → A → Type 0) : List A → List A → Type 0 where
  done : Along R [] []
  more : {x y : A} {l k : List A} → R x y → Along R l k → Along R (x ∷ l) (y ∷ k)

abbrev pub LinesRedrawn : List (List ℕ) → List (List ℕ) → Type 0
LinesRedrawn = Along LineRedrawn
