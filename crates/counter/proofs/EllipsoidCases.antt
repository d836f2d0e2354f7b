-- Worked cases of ellipsoids: points on the outline, inside and outside, worked by hand; sums past 64 bits; the matrix and its place; the plan of one.
use mathlib.Core.Path.{refl}
use mathlib.Core.Bool.{Bool, true, false, ◌&&◌}
use mathlib.Core.List.{List, [], ◌∷◌, ◌++◌}
use Prim.Native.Nat.{ℕ}
use lib.IntN.{ℤ, pos, negsuc}
use lib.Dec.{eqb}
use Rattle.plans.specs.Indices.{all, any, how_many, first_bad}
use Rattle.plans.specs.Words.{word, number, on_scale, part}
use Rattle.integers.specs.Range.{in_range}
use Rattle.plans.specs.Bits.{has_bit, with_bit}
use Rattle.plans.specs.Refusals.{Verdict}
use Rattle.plans.specs.Symmetric.{symmetric}
use Rattle.plans.specs.Form.{first, earlier, free, parent_good, differs, dimension_good, entry, matrix_good, matrix3_good, matrix3_word, ellipsoid_word, kind_at, region_at, length_at, body_at, next_at, head_word_for, steps_word_for, steps_end, width, step_count, word_good_for, plan_end, lowest_bad_for, form_for, check_for, check_of}
use Rattle.plans.specs.Kinds.{kind_of, spans}
use Rattle.counter.specs.Ellipsoid.{in_ellipsoid, ellipsoid_position}
use Rattle.counter.specs.Positions.{is_on_outline}
use Rattle.counter.specs.Outlines.{ellipsoid_on, step_on, outline_from, outline_of}
use Rattle.counter.specs.declared.Position.{Position}
use Rattle.counter.specs.Members.{value_in, ellipsoid_in, parent_in, step_in, settled, bits_of}
use Rattle.counter.specs.Judging.{value_good, taken, first_spoilt, members, judge_passed, judge_of}
use Rattle.counter.proofs.MarkedCases.{Case, is, Hold, inside, outside}

-- the rows 7 2 1, 2 5 −1 and 1 −1 3, with the determinant 77, around (100, 200, 300); a column of the matrix has its diagonal entry as D², here the first
abbrev tilted : ℤ → ℤ → ℤ → Position
tilted x y z = ellipsoid_position (pos 100) (pos 200) (pos 300) (symmetric (pos 7) (pos 2) (pos 1) (pos 5) (negsuc 0) (pos 3)) (pos 7) x y z

pub tilted_cases : List Case
tilted_cases =
    is (is_on_outline (tilted (pos 107) (pos 202) (pos 301))) true
    ∷ is (is_on_outline (tilted (pos 93) (pos 198) (pos 299))) true
    ∷ is (inside (tilted (pos 106) (pos 202) (pos 301))) true
    ∷ is (outside (tilted (pos 107) (pos 202) (pos 300))) true
    ∷ is (outside (tilted (pos 107) (pos 201) (pos 301))) true
    ∷ is (outside (tilted (pos 107) (pos 202) (pos 299))) true
    ∷ is (inside (tilted (pos 100) (pos 200) (pos 300))) true
    ∷ is (inside (tilted (pos 102) (pos 205) (pos 299))) true
    ∷ is (outside (tilted (pos 93) (pos 202) (pos 301))) true
    ∷ []

-- the greatest entries: around (−65,536, 0, 0) a ball of radius 4,096 by D² = 1, where both sides are 2^72, one of 65,536 by 256, where they are 2^80, and one
-- of 131,072 by 1,024, which reaches just beyond the scale
abbrev ball : ℕ → ℤ → ℤ → ℤ → Position
ball d2 x y z =
    ellipsoid_position (negsuc 65535) (pos 0) (pos 0) (symmetric (pos 16777216) (pos 0) (pos 0) (pos 16777216) (pos 0) (pos 16777216)) (pos d2) x y z

pub ball_cases : List Case
ball_cases =
    is (is_on_outline (ball 1 (negsuc 61439) (pos 0) (pos 0))) true
    ∷ is (outside (ball 1 (negsuc 61438) (pos 0) (pos 0))) true
    ∷ is (outside (ball 1 (negsuc 61439) (pos 0) (pos 1))) true
    ∷ is (inside (ball 1 (negsuc 61440) (pos 90) (pos 0))) true
    ∷ is (is_on_outline (ball 256 (pos 0) (pos 0) (pos 0))) true
    ∷ is (inside (ball 1024 (pos 65535) (pos 0) (pos 0))) true
    ∷ is (is_on_outline (ball 1 (negsuc 65535) (negsuc 4095) (pos 0))) true
    ∷ is (outside (ball 256 (pos 65535) (negsuc 65535) (pos 65535))) true
    ∷ []

-- each of the three minors alone is asked; one above 0 is good
pub minor_cases : List Case
minor_cases =
    is (matrix3_good (symmetric (pos 7) (pos 2) (pos 1) (pos 5) (negsuc 0) (pos 3))) true
    ∷ is (matrix3_good (symmetric (negsuc 0) (pos 0) (pos 0) (negsuc 0) (pos 0) (pos 1))) false
    ∷ is (matrix3_good (symmetric (pos 1) (pos 0) (pos 0) (negsuc 0) (pos 0) (negsuc 0))) false
    ∷ is (matrix3_good (symmetric (pos 1) (pos 0) (pos 0) (pos 1) (pos 0) (negsuc 0))) false
    ∷ is (matrix3_good (symmetric (pos 1) (pos 1) (pos 1) (pos 2) (pos 1) (pos 1))) false
    ∷ is (matrix3_good (symmetric (pos 1) (pos 1) (pos 1) (pos 2) (pos 1) (pos 2))) true
    ∷ []

-- an ellipsoid as the only step of a plan: its dimensions, means, entries and D²
abbrev plan_of_one : List ℤ → List ℤ → List ℤ → ℤ → List ℤ
plan_of_one dimensions means entries d2 =
    pos 3 ∷ pos 1 ∷ pos 8 ∷ pos 0 ∷ negsuc 0 ∷ pos 13 ∷ (dimensions ++ (means ++ (entries ++ (d2 ∷ []))))

-- the first one, with other entries, and others of its numbers
abbrev plan_of_entries : List ℤ → List ℤ
plan_of_entries entries = plan_of_one (pos 0 ∷ pos 1 ∷ pos 2 ∷ []) (pos 100 ∷ pos 200 ∷ pos 300 ∷ []) entries (pos 7)

abbrev tilted_entries : List ℤ
tilted_entries = pos 7 ∷ pos 2 ∷ pos 1 ∷ pos 5 ∷ negsuc 0 ∷ pos 3 ∷ []

abbrev pub tilted_plan : List ℤ
tilted_plan = plan_of_entries tilted_entries

abbrev refused_at : Verdict → ℕ → Bool
refused_at v place = eqb v.number 22 && eqb v.place place

abbrev sets : ℕ → ℕ → ℕ → ℕ → ℕ → Bool
sets x y z bits outline =
    let judged = judge_of tilted_plan (pos x ∷ pos y ∷ pos z ∷ []) in
    eqb judged.bits bits && eqb judged.outline outline

-- a bad matrix is refused at c11, word 12, where all six are in range, else the one that is not; D² and the end of the plan come later
pub plan_cases : List Case
plan_cases =
    is (eqb (check_of tilted_plan).number 0) true
    ∷ is (refused_at (check_of (plan_of_entries (pos 1 ∷ pos 1 ∷ pos 1 ∷ pos 2 ∷ pos 1 ∷ pos 1 ∷ []))) 12) true
    ∷ is (refused_at (check_of (plan_of_entries (negsuc 1 ∷ pos 1 ∷ pos 1 ∷ pos 2 ∷ negsuc 0 ∷ pos 16777217 ∷ []))) 17) true
    ∷ is (refused_at (check_of (plan_of_entries (negsuc 1 ∷ pos 16777217 ∷ pos 1 ∷ pos 2 ∷ negsuc 0 ∷ pos 2 ∷ []))) 13) true
    ∷ is (refused_at (check_of (plan_of_entries (negsuc 16777216 ∷ pos 1 ∷ pos 1 ∷ pos 2 ∷ negsuc 0 ∷ pos 2 ∷ []))) 12) true
    ∷ is (refused_at (check_of (plan_of_one (pos 0 ∷ pos 1 ∷ pos 1 ∷ []) (pos 0 ∷ pos 0 ∷ pos 0 ∷ []) tilted_entries (pos 7))) 8) true
    ∷ is (refused_at (check_of (plan_of_one (pos 0 ∷ pos 1 ∷ pos 3 ∷ []) (pos 0 ∷ pos 0 ∷ pos 0 ∷ []) tilted_entries (pos 7))) 8) true
    ∷ is (refused_at (check_of (plan_of_one (pos 2 ∷ pos 1 ∷ pos 0 ∷ []) (pos 0 ∷ pos 0 ∷ pos 65536 ∷ []) tilted_entries (pos 7))) 11) true
    ∷ is (refused_at (check_of (plan_of_one (pos 2 ∷ pos 1 ∷ pos 0 ∷ []) (pos 0 ∷ pos 0 ∷ pos 65535 ∷ []) tilted_entries (pos 4097))) 18) true
    ∷ is (refused_at (check_of (plan_of_one (pos 2 ∷ pos 1 ∷ pos 0 ∷ []) (pos 0 ∷ pos 0 ∷ pos 65535 ∷ []) tilted_entries (pos 0))) 18) true
    ∷ is (eqb (check_of (plan_of_one (pos 2 ∷ pos 1 ∷ pos 0 ∷ []) (pos 0 ∷ pos 0 ∷ negsuc 65535 ∷ []) tilted_entries (pos 4096))).number 0) true
    ∷ is (refused_at (check_of (part tilted_plan 0 17)) 17) true
    ∷ is (refused_at (check_of (part (plan_of_entries (pos 0 ∷ pos 0 ∷ pos 0 ∷ pos 0 ∷ pos 0 ∷ pos 0 ∷ [])) 0 17)) 17) true
    ∷ is (refused_at (check_of (part (plan_of_entries (pos 0 ∷ pos 0 ∷ pos 0 ∷ pos 0 ∷ pos 0 ∷ pos 0 ∷ [])) 0 18)) 12) true
    ∷ is (refused_at (check_for first tilted_plan) 2) true
    ∷ is (sets 107 202 301 1 1) true
    ∷ is (sets 106 202 301 1 0) true
    ∷ is (sets 107 202 300 0 0) true
    ∷ []

tilted_cases_lem : Hold tilted_cases
unfolding tilted_cases ellipsoid_position
tilted_cases_lem = (refl, (refl, (refl, (refl, (refl, (refl, (refl, (refl, (refl, tt)))))))))

ball_cases_lem : Hold ball_cases
unfolding ball_cases ellipsoid_position
ball_cases_lem = (refl, (refl, (refl, (refl, (refl, (refl, (refl, (refl, tt))))))))

minor_cases_lem : Hold minor_cases
unfolding minor_cases matrix_good matrix3_good
minor_cases_lem = (refl, (refl, (refl, (refl, (refl, (refl, tt))))))

plan_cases_lem : Hold plan_cases
unfolding plan_cases all any how_many first_bad word number in_range on_scale part has_bit with_bit kind_of
    spans earlier free parent_good differs dimension_good entry
    matrix_good matrix3_good matrix3_word ellipsoid_word kind_at region_at length_at body_at next_at head_word_for
    steps_word_for steps_end width step_count word_good_for
    plan_end lowest_bad_for form_for check_for value_in ellipsoid_in in_ellipsoid parent_in step_in settled
    bits_of value_good taken first_spoilt members judge_passed judge_of
    ellipsoid_position ellipsoid_on step_on outline_from outline_of
plan_cases_lem =
    (refl, (refl, (refl, (refl, (refl, (refl, (refl, (refl, (refl, (refl, (refl, (refl, (refl, (refl, (refl, (refl, (refl, (refl, tt))))))))))))))))))

pub ellipsoid_cases : Hold tilted_cases × Hold ball_cases × Hold minor_cases × Hold plan_cases
ellipsoid_cases = (tilted_cases_lem, ball_cases_lem, minor_cases_lem, plan_cases_lem)
