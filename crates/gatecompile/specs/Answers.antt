-- What compiling answers as numbers in a row: 01's number and place, then the words and regions written.
use Rattle.std.specs.Prelude.{List, [], ◌∷◌, ℕ}
use Rattle.tables.specs.Compile.{Compiling}

abbrev pub compile_row : Compiling → List ℕ
compile_row c = c.verdict.number ∷ c.verdict.place ∷ c.words ∷ c.regions ∷ []
