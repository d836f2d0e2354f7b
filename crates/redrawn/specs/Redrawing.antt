-- The same outline "from another corner and in the other direction" (02). Its vertices are a flat list x, y, x, y .., as numbers or as fields of a line.
use Rattle.std.specs.Prelude.{Bool, cond, List, [], ◌∷◌, ◌++◌, ℕ, ◌*◌, take, drop}

-- the vertices from vertex k on, counted from 0, then those before it
unfoldable pub from_vertex : {A : Type 0} → ℕ → List A → List A
from_vertex k v = drop (2 * k) v ++ take (2 * k) v

-- the vertices backwards, each still x then y
unfoldable pub backwards : {A : Type 0} → List A → List A
backwards [] = []
backwards (x ∷ []) = x ∷ []
backwards (x ∷ (y ∷ v)) = backwards v ++ (x ∷ (y ∷ []))

-- the list from vertex k on; and that list perhaps backwards, which then ends with vertex k
unfoldable pub redrawn : {A : Type 0} → ℕ → Bool → List A → List A
redrawn k back v = cond back (backwards (from_vertex k v)) (from_vertex k v)

-- the vertices of a list one by one, each its x and its y
abbrev pub vertices : {A : Type 0} → List A → List (A × A)
vertices [] = []
vertices (x ∷ []) = []
vertices (x ∷ (y ∷ v)) = (x, y) ∷ vertices v
