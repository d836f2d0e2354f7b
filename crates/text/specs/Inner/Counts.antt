-- How often a byte stands in a text.
use Rattle.std.specs.Prelude.{ℕ, suc, Bool, not, cond, List, [], ◌∷◌, eqb}
use Rattle.text.specs.Bytes.{every}

-- how many of the bytes are c
abbrev pub occurrences : ℕ → List ℕ → ℕ
occurrences c [] = 0
occurrences c (x ∷ s) = cond (eqb x c) (suc (occurrences c s)) (occurrences c s)

-- none of the bytes is c
abbrev pub without : ℕ → List ℕ → Bool
without c s = every (λ x. not (eqb x c)) s
