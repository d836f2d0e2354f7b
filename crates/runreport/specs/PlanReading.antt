-- The text of a plan as it is read: lines ended by LF, each one or more tab-parted numbers that fit 32 bits; the words are the numbers
-- in their order, whatever line they stand on.
use Rattle.std.specs.Prelude.{ℕ, ◌+◌, Bool, not, cond, ◌&&◌, ltb, ℤ, pos, negsuc, length}
use mathlib.Core.List.{List, map, flat_map}
use Rattle.text.specs.Bytes.{before, every}
use Rattle.text.specs.Numbers.{is_number, number_value}
use Rattle.integers.specs.Range.{in_range}
use Rattle.text.specs.Lines.{fields, lines, ends_in_lf}

-- −2^31 to 2^31 − 1
unfoldable pub fits_word : ℤ → Bool
fits_word v = in_range (negsuc 2147483647) (pos 2147483647) v

-- a field that is a word: a number (01's form) that fits
unfoldable pub is_word : List ℕ → Bool
is_word f = is_number f && fits_word (number_value f)

-- its value; 0 where the field is no word, as no field of a line of words is
unfoldable pub word_of : List ℕ → ℤ
word_of f = cond (is_word f) (number_value f) (pos 0)

-- a line of words
unfoldable pub is_word_line : List ℕ → Bool
is_word_line line = every is_word (fields line)

-- how many lines stand before the first that is no line of words
unfoldable pub word_lines : List ℕ → ℕ
word_lines part = before (λ line. not (is_word_line line)) (lines part)

-- the lowest line that cannot be read, counted from 1: the first that is no line of words, else the last where it is without LF; 0 where there is none
unfoldable pub unread_line : List ℕ → ℕ
unread_line part =
    cond (ltb (word_lines part) (length (lines part))) (word_lines part + 1)
    (cond (ends_in_lf part) 0 (length (lines part)))

-- the words of a line
unfoldable pub line_words : List ℕ → List ℤ
line_words line = map word_of (fields line)

-- the words of all lines
unfoldable pub words_of : List ℕ → List ℤ
words_of part = flat_map line_words (lines part)
