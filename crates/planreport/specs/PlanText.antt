-- The text of a plan: its words in decimal, parted by tabs, LF at line ends; n and the number of steps first, then a line for each step.
use Rattle.std.specs.Prelude.{ℕ, zero, suc, ◌+◌, cond, List, [], ◌∷◌, ◌++◌, map, ℤ, pos, nat_abs}
use Rattle.std.specs.Int.Signed.{lt_z}
use Rattle.text.specs.Bytes.{bytes}
use Rattle.text.specs.Lines.{unlines, unfields}
use Rattle.text.specs.Output.{decimal}
use Rattle.plans.specs.Words.{part}
use Rattle.plans.specs.Form.{length_at, next_at, step_count}

-- a word: its digits, behind a `-` where it is negative
unfoldable pub word_text : ℤ → List ℕ
word_text w = cond (lt_z w (pos 0)) (bytes "-" ++ decimal (nat_abs w)) (decimal (nat_abs w))

-- a line of words, without its LF
unfoldable pub words_line : List ℤ → List ℕ
words_line ws = unfields (map word_text ws)

-- the words of each of the steps that are left, from a place on: a step's header and its body
unfoldable pub step_parts : ℕ → List ℤ → ℕ → List (List ℤ)
step_parts zero p at = []
step_parts (suc left) p at = part p at (4 + length_at p at) ∷ step_parts left p (next_at p at)

-- n and the number of steps, then the steps
unfoldable pub plan_parts : List ℤ → List (List ℤ)
plan_parts p = part p 0 2 ∷ step_parts (step_count p) p 2

unfoldable pub plan_text : List ℤ → List ℕ
plan_text p = unlines (map words_line (plan_parts p))
