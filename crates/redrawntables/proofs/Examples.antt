-- A case worked by hand: one line of a table redrawn in several ways; the lines around it stay.
use mathlib.Core.Path.{◌≡◌, refl}
use mathlib.Core.Bool.{true, false}
use mathlib.Core.List.{List}
use Prim.Native.Nat.{ℕ}
use Rattle.text.specs.Bytes.{bytes}
use Rattle.text.specs.Lines.{fields, lines}
use Rattle.tables.specs.Head.{gate_lines, reordered}
use Rattle.redrawn.specs.Redrawing.{from_vertex, backwards, redrawn}
use Rattle.redrawntables.specs.Lines.{redrawn_fields, redrawn_line, redrawn_table}

abbrev table : List ℕ
table = bytes "dims\tA\tB\nrect\tR\t-\tA\t0\t9\npoly\tP\tR\tB\tA\t1\t2\t3\t4\t5\t6\t7\t8\nnot\tN\t-\tP\n"

one_line : (redrawn_table 0 false table 1 ≡ table)
    × (redrawn_table 1 true table 1 ≡ bytes "dims\tA\tB\nrect\tR\t-\tA\t0\t9\npoly\tP\tR\tB\tA\t1\t2\t7\t8\t5\t6\t3\t4\nnot\tN\t-\tP\n")
    × (redrawn_table 3 false table 1 ≡ bytes "dims\tA\tB\nrect\tR\t-\tA\t0\t9\npoly\tP\tR\tB\tA\t7\t8\t1\t2\t3\t4\t5\t6\nnot\tN\t-\tP\n")
    × (redrawn_table 2 true table 1 ≡ bytes "dims\tA\tB\nrect\tR\t-\tA\t0\t9\npoly\tP\tR\tB\tA\t3\t4\t1\t2\t7\t8\t5\t6\nnot\tN\t-\tP\n")
unfolding lines fields gate_lines reordered from_vertex backwards redrawn redrawn_fields redrawn_line redrawn_table
one_line = (refl, refl, refl, refl)
