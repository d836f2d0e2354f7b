-- A table's gates and regions by number, the names that it gives, and the names that it refers to.
use Rattle.std.specs.Prelude.{Bool, false, not, ◌||◌, ℕ, suc, ◌+◌, length, get_or, take}
use Rattle.std.proofs.Math.Option.{Option, none, some}
use mathlib.Core.List.{List, [], ◌∷◌, ◌++◌, map, Memᴰ}
use Rattle.plans.specs.Indices.{all, first_bad}
use Rattle.text.specs.Bytes.{same}
use Rattle.gates.specs.Gate.{Name, Operand, Shape, leaf, and_of, or_of, not_of, Quadrant, Body, one, quad, Gate, Region}

infix 40 ◌∈◌
abbrev pub ◌∈◌ : {A : Type 0} → A → List A → Type 0
a ∈ l = Memᴰ a l

-- some element passes
abbrev pub some_of : {A : Type 0} → (A → Bool) → List A → Bool
some_of f [] = false
some_of f (x ∷ l) = f x || some_of f l

-- the sum of what the elements give
abbrev pub sum_of : {A : Type 0} → (A → ℕ) → List A → ℕ
sum_of f [] = 0
sum_of f (x ∷ l) = f x + sum_of f l

-- ---- by number: gates in the order of their lines, regions from 0 in table order

abbrev pub no_gate : Gate
no_gate = record { name = []; parent = none; body = quad [] }

unfoldable pub nth_gate : List Gate → ℕ → Gate
nth_gate t i = get_or t i no_gate

abbrev pub no_region : Region
no_region = record { name = []; parent = none; shape = and_of [] }

unfoldable pub nth_region : List Region → ℕ → Region
nth_region rs r = get_or rs r no_region

-- the gates up to number i
unfoldable pub up_to : List Gate → ℕ → List Gate
up_to t i = take (suc i) t

-- ---- names that a table gives: each gate's, then its quadrants'

abbrev pub quadrant_names : Body → List Name
quadrant_names (one s) = []
quadrant_names (quad qs) = map (λ (q : Quadrant). q.name) qs

abbrev pub own_names : Gate → List Name
own_names g = g.name ∷ quadrant_names g.body

abbrev pub given : List Gate → List Name
given [] = []
given (g ∷ t) = own_names g ++ given t

-- names j and k of a list differ
unfoldable pub apart : List Name → ℕ → ℕ → Bool
apart ns k j = not (same (get_or ns j []) (get_or ns k []))

-- name k is none of those before it
unfoldable pub new_name : List Name → ℕ → Bool
new_name ns k = all (apart ns k) k

-- all names of a list are different
unfoldable pub different : List Name → Bool
different ns = all (new_name ns) (length ns)

-- ---- names that regions have

abbrev pub names : List Region → List Name
names rs = map (λ (r : Region). r.name) rs

unfoldable pub other_name : List Region → Name → ℕ → Bool
other_name rs n r = not (same n (nth_region rs r).name)

-- the number of the region of that name; where there is none, the number of regions
unfoldable pub number_of : List Region → Name → ℕ
number_of rs n = first_bad (other_name rs n) 0 (length rs)

-- ---- references: the parent's name, then the operands'; a quadrant gate refers through its parent for all its quadrants

abbrev pub parent_names : Option Name → List Name
parent_names none = []
parent_names (some n) = n ∷ []

abbrev pub operand_names : Shape → List Name
operand_names (leaf l) = []
operand_names (and_of os) = map (λ (o : Operand). o.name) os
operand_names (or_of os) = map (λ (o : Operand). o.name) os
operand_names (not_of o) = o.name ∷ []

abbrev pub body_references : Body → List Name
body_references (one s) = operand_names s
body_references (quad qs) = []

abbrev pub gate_references : Gate → List Name
gate_references g = parent_names g.parent ++ body_references g.body

abbrev pub references : Region → List Name
references r = parent_names r.parent ++ operand_names r.shape
