-- `line_word` goes by kind as `body_of` does: the words of a leaf are a table, and what draws no leaf has none.
use Rattle.gatelines.proofs.LineLaws.{word_in_table}
use Rattle.gatelines.proofs.words.line_word.Goals as goal

pub returns-in-Rect : goal.returns-in-Rect
returns-in-Rect c =
    rw c.in-Rect.is (word_in_table _ _ c.requires.1 c.rect_word.type_inv c.rect_word.ensures)

pub returns-in-Poly : goal.returns-in-Poly
returns-in-Poly c =
    rw c.in-Poly.is (word_in_table _ _ c.requires.1 c.axes_word.type_inv c.axes_word.ensures)

pub returns-in-Ellip : goal.returns-in-Ellip
returns-in-Ellip c =
    rw c.in-Ellip.is (word_in_table _ _ c.requires.1 c.axes_word-in-Ellip.type_inv c.axes_word-in-Ellip.ensures)

pub returns-in-DecimalEllip : goal.returns-in-DecimalEllip
returns-in-DecimalEllip c =
    rw c.in-DecimalEllip.is (word_in_table _ _ c.requires.1 c.decimal_word.type_inv c.decimal_word.ensures)

pub returns-in-Ellip3 : goal.returns-in-Ellip3
returns-in-Ellip3 c =
    rw c.in-Ellip3.is (word_in_table _ _ c.requires.1 c.axes_word-in-Ellip3.type_inv c.axes_word-in-Ellip3.ensures)

pub returns-in-Quad : goal.returns-in-Quad
returns-in-Quad c = cc

pub returns-in-And : goal.returns-in-And
returns-in-And c = cc

pub returns-in-Or : goal.returns-in-Or
returns-in-Or c = cc

pub returns-in-Not : goal.returns-in-Not
returns-in-Not c = cc

pub returns-in-Unknown : goal.returns-in-Unknown
returns-in-Unknown c = cc
