-- What is printed of a line that is written word by word.
use Rattle.std.specs.Prelude.{ℕ, cond, List, [], ◌∷◌, ◌++◌, ltb, ℤ, length}
use Rattle.planreport.specs.PlanText.{word_text}

-- behind a word: a tab where more words follow on its line, else LF
abbrev pub word_end : ℕ → ℕ
word_end more = cond (ltb 0 more) 9 10

-- words of a line, each with what stands behind it
unfoldable pub ended_words : List ℤ → List ℕ
ended_words [] = []
ended_words (w ∷ ws) = word_text w ++ (word_end (length ws) ∷ ended_words ws)
