-- `ellipsoid_position`: every 64-bit part fits, no sum wraps, and the sum is the left side of the rule less the right.
use mathlib.Core.Path.{◌∙◌, ap, ap₂}
use mathlib.Core.List.{List, [], ◌∷◌}
use lib.IntN.{◌-ℤ◌}
use lib.Dec.{T}
use mir.Syntax.{w64}
use Rattle.integers.specs.Inner.Expressions.{Ex, var, lit, ◌⊖◌, ◌⊗◌}
use Rattle.integers.specs.Inner.Machine.{Var, short, All, Casts}
use Rattle.integers.proofs.Bounds.{in_mag, in_of-positive}
use Rattle.integers.proofs.Overflow.{zcasts}
use Rattle.wide.specs.Inner.Values.{order_of}
use Rattle.wide.specs.Inner.Sums.{Sum, ◌⊠◌, ◌⊞◌, SumNeeds}
use Rattle.wide.proofs.OrderLaws.{order_sub}
use Rattle.wide.proofs.SumLaws.{parts-fit, sum_needs, sum-gives, plus-is}
use Rattle.counter.specs.Ellipsoid.{ellipsoid_left, ellipsoid_right, ellipsoid_position}
use Rattle.counter.specs.Inner.Steps.{position_by, matrix_of}
use Rattle.counter.proofs.EllipsoidLaws.{gathered-is}
use Rattle.counter.proofs.PositionLaws.{order_sides}
use Rattle.counter.proofs.ellipsoid.ellipsoid_position.Goals as goal
use Rattle.counter.proofs.ellipsoid.ellipsoid_position.Goals.{Start}

-- the variables, that each is within its bound, and the six products as the code computes them
abbrev vs : Start → List Var
vs c =
    let a = c.args.solid in
    let e = c.args.point in
    short 65536 a.m1 ∷ short 65536 a.m2 ∷ short 65536 a.m3
    ∷ short 16777216 a.c11 ∷ short 16777216 a.c12 ∷ short 16777216 a.c13 ∷ short 16777216 a.c22 ∷ short 16777216 a.c23 ∷ short 16777216 a.c33
    ∷ short 4096 a.d2 ∷ short 65536 e.x ∷ short 65536 e.y ∷ short 65536 e.z ∷ []

known : (c : Start) → All w64 (vs c)
known c =
    let f = c.requires.0 in
    let e = c.requires.1 in (
      in_mag 65536 _ f.m1_on,
      (
        in_mag 65536 _ f.m2_on,
        (
          in_mag 65536 _ f.m3_on,
          (
            f.c11_in,
            (
              f.c12_in,
              (
                f.c13_in,
                (
                  f.c22_in,
                  (
                    f.c23_in,
                    (
                      f.c33_in,
                      (
                        in_of-positive 4096 _ f.d2_from f.d2_to,
                        (in_mag 65536 _ e.0, (in_mag 65536 _ e.1, (in_mag 65536 _ e.2, tt))),
                      ),
                    ),
                  ),
                ),
              ),
            ),
          ),
        ),
      ),
    )

casts : (c : Start) → Casts w64 (vs c)
casts c = zcasts w64 (vs c) (known c) tt

abbrev dx : Ex
dx = var 10 ⊖ var 0

abbrev dy : Ex
dy = var 11 ⊖ var 1

abbrev dz : Ex
dz = var 12 ⊖ var 2

abbrev w11 : Sum
w11 = (var 6 ⊗ var 8 ⊖ var 7 ⊗ var 7) ⊠ (dx ⊗ dx ⊖ var 9 ⊗ var 3)

abbrev w22 : Sum
w22 = (var 3 ⊗ var 8 ⊖ var 5 ⊗ var 5) ⊠ (dy ⊗ dy)

abbrev w33 : Sum
w33 = (var 3 ⊗ var 6 ⊖ var 4 ⊗ var 4) ⊠ (dz ⊗ dz)

abbrev w12 : Sum
w12 = (var 5 ⊗ var 7 ⊖ var 4 ⊗ var 8) ⊠ (lit 2 ⊗ (dx ⊗ dy) ⊖ var 9 ⊗ var 4)

abbrev w13 : Sum
w13 = (var 4 ⊗ var 7 ⊖ var 5 ⊗ var 6) ⊠ (lit 2 ⊗ (dx ⊗ dz) ⊖ var 9 ⊗ var 5)

abbrev w23 : Sum
w23 = (var 4 ⊗ var 5 ⊖ var 3 ⊗ var 7) ⊠ (lit 2 ⊗ (dy ⊗ dz))

abbrev all : Sum
all = ((w11 ⊞ w22) ⊞ w33) ⊞ ((w12 ⊞ w13) ⊞ w23)

asks : (c : Start) (t : Sum) → T (parts-fit (vs c) t) → SumNeeds (vs c) t
asks c t n = sum_needs (vs c) (known c) t n

pub overflow_cast-dx : goal.overflow_cast-dx
overflow_cast-dx c = search (casts (goal.at.overflow_cast-dx c).Start)

pub overflow_cast-dx-2 : goal.overflow_cast-dx-2
overflow_cast-dx-2 c = search (casts (goal.at.overflow_cast-dx-2 c).Start)

pub overflow_sub-dx : goal.overflow_sub-dx
overflow_sub-dx c = search (asks (goal.at.overflow_sub-dx c).Start w11 tt)

pub overflow_cast-dy : goal.overflow_cast-dy
overflow_cast-dy c = search (casts (goal.at.overflow_cast-dy c).Start)

pub overflow_cast-dy-2 : goal.overflow_cast-dy-2
overflow_cast-dy-2 c = search (casts (goal.at.overflow_cast-dy-2 c).Start)

pub overflow_sub-dy : goal.overflow_sub-dy
overflow_sub-dy c = search (asks (goal.at.overflow_sub-dy c).Start w22 tt)

pub overflow_cast-dz : goal.overflow_cast-dz
overflow_cast-dz c = search (casts (goal.at.overflow_cast-dz c).Start)

pub overflow_cast-dz-2 : goal.overflow_cast-dz-2
overflow_cast-dz-2 c = search (casts (goal.at.overflow_cast-dz-2 c).Start)

pub overflow_sub-dz : goal.overflow_sub-dz
overflow_sub-dz c = search (asks (goal.at.overflow_sub-dz c).Start w33 tt)

pub overflow_cast-p : goal.overflow_cast-p
overflow_cast-p c = search (casts (goal.at.overflow_cast-p c).Start)

pub overflow_cast-q : goal.overflow_cast-q
overflow_cast-q c = search (casts (goal.at.overflow_cast-q c).Start)

pub overflow_cast-r : goal.overflow_cast-r
overflow_cast-r c = search (casts (goal.at.overflow_cast-r c).Start)

pub overflow_cast-s : goal.overflow_cast-s
overflow_cast-s c = search (casts (goal.at.overflow_cast-s c).Start)

pub overflow_cast-t : goal.overflow_cast-t
overflow_cast-t c = search (casts (goal.at.overflow_cast-t c).Start)

pub overflow_cast-u : goal.overflow_cast-u
overflow_cast-u c = search (casts (goal.at.overflow_cast-u c).Start)

pub overflow_cast-d : goal.overflow_cast-d
overflow_cast-d c = search (casts (goal.at.overflow_cast-d c).Start)

pub overflow_mul-s : goal.overflow_mul-s
overflow_mul-s c = search (asks (goal.at.overflow_mul-s c).Start w11 tt)

pub overflow_mul-t : goal.overflow_mul-t
overflow_mul-t c = search (asks (goal.at.overflow_mul-t c).Start w11 tt)

pub overflow_sub-s : goal.overflow_sub-s
overflow_sub-s c = search (asks (goal.at.overflow_sub-s c).Start w11 tt)

pub overflow_mul-dx : goal.overflow_mul-dx
overflow_mul-dx c = search (asks (goal.at.overflow_mul-dx c).Start w11 tt)

pub overflow_mul-d : goal.overflow_mul-d
overflow_mul-d c = search (asks (goal.at.overflow_mul-d c).Start w11 tt)

pub overflow_sub-dx-2 : goal.overflow_sub-dx-2
overflow_sub-dx-2 c = search (asks (goal.at.overflow_sub-dx-2 c).Start w11 tt)

pub overflow_mul-p : goal.overflow_mul-p
overflow_mul-p c = search (asks (goal.at.overflow_mul-p c).Start w22 tt)

pub overflow_mul-r : goal.overflow_mul-r
overflow_mul-r c = search (asks (goal.at.overflow_mul-r c).Start w22 tt)

pub overflow_sub-p : goal.overflow_sub-p
overflow_sub-p c = search (asks (goal.at.overflow_sub-p c).Start w22 tt)

pub overflow_mul-dy : goal.overflow_mul-dy
overflow_mul-dy c = search (asks (goal.at.overflow_mul-dy c).Start w22 tt)

pub overflow_mul-p-2 : goal.overflow_mul-p-2
overflow_mul-p-2 c = search (asks (goal.at.overflow_mul-p-2 c).Start w33 tt)

pub overflow_mul-q : goal.overflow_mul-q
overflow_mul-q c = search (asks (goal.at.overflow_mul-q c).Start w33 tt)

pub overflow_sub-p-2 : goal.overflow_sub-p-2
overflow_sub-p-2 c = search (asks (goal.at.overflow_sub-p-2 c).Start w33 tt)

pub overflow_mul-dz : goal.overflow_mul-dz
overflow_mul-dz c = search (asks (goal.at.overflow_mul-dz c).Start w33 tt)

pub overflow_mul-r-2 : goal.overflow_mul-r-2
overflow_mul-r-2 c = search (asks (goal.at.overflow_mul-r-2 c).Start w12 tt)

pub overflow_mul-q-2 : goal.overflow_mul-q-2
overflow_mul-q-2 c = search (asks (goal.at.overflow_mul-q-2 c).Start w12 tt)

pub overflow_sub-r : goal.overflow_sub-r
overflow_sub-r c = search (asks (goal.at.overflow_sub-r c).Start w12 tt)

pub overflow_mul-dx-2 : goal.overflow_mul-dx-2
overflow_mul-dx-2 c = search (asks (goal.at.overflow_mul-dx-2 c).Start w12 tt)

pub overflow_mul-dx-3 : goal.overflow_mul-dx-3
overflow_mul-dx-3 c = search (asks (goal.at.overflow_mul-dx-3 c).Start w12 tt)

pub overflow_mul-d-2 : goal.overflow_mul-d-2
overflow_mul-d-2 c = search (asks (goal.at.overflow_mul-d-2 c).Start w12 tt)

pub overflow_sub-dx-3 : goal.overflow_sub-dx-3
overflow_sub-dx-3 c = search (asks (goal.at.overflow_sub-dx-3 c).Start w12 tt)

pub overflow_mul-q-3 : goal.overflow_mul-q-3
overflow_mul-q-3 c = search (asks (goal.at.overflow_mul-q-3 c).Start w13 tt)

pub overflow_mul-r-3 : goal.overflow_mul-r-3
overflow_mul-r-3 c = search (asks (goal.at.overflow_mul-r-3 c).Start w13 tt)

pub overflow_sub-q : goal.overflow_sub-q
overflow_sub-q c = search (asks (goal.at.overflow_sub-q c).Start w13 tt)

pub overflow_mul-dx-4 : goal.overflow_mul-dx-4
overflow_mul-dx-4 c = search (asks (goal.at.overflow_mul-dx-4 c).Start w13 tt)

pub overflow_mul-dx-5 : goal.overflow_mul-dx-5
overflow_mul-dx-5 c = search (asks (goal.at.overflow_mul-dx-5 c).Start w13 tt)

pub overflow_mul-d-3 : goal.overflow_mul-d-3
overflow_mul-d-3 c = search (asks (goal.at.overflow_mul-d-3 c).Start w13 tt)

pub overflow_sub-dx-4 : goal.overflow_sub-dx-4
overflow_sub-dx-4 c = search (asks (goal.at.overflow_sub-dx-4 c).Start w13 tt)

pub overflow_mul-q-4 : goal.overflow_mul-q-4
overflow_mul-q-4 c = search (asks (goal.at.overflow_mul-q-4 c).Start w23 tt)

pub overflow_mul-p-3 : goal.overflow_mul-p-3
overflow_mul-p-3 c = search (asks (goal.at.overflow_mul-p-3 c).Start w23 tt)

pub overflow_sub-q-2 : goal.overflow_sub-q-2
overflow_sub-q-2 c = search (asks (goal.at.overflow_sub-q-2 c).Start w23 tt)

pub overflow_mul-dy-2 : goal.overflow_mul-dy-2
overflow_mul-dy-2 c = search (asks (goal.at.overflow_mul-dy-2 c).Start w23 tt)

pub overflow_mul-dy-3 : goal.overflow_mul-dy-3
overflow_mul-dy-3 c = search (asks (goal.at.overflow_mul-dy-3 c).Start w23 tt)

pub returns : goal.returns
unfolding ellipsoid_position
returns c =
    let entry = (goal.at.returns c).Start in
    let a = c.args.solid in
    let e = c.args.point in
    let matrix = matrix_of a in
    let first_two = plus-is c.plus.ensures c.times-w11.ensures c.times-w22.ensures in
    let squares = plus-is c.plus-2.ensures first_two c.times-w33.ensures in
    let next-two = plus-is c.plus-3.ensures c.times-w12.ensures c.times-w13.ensures in
    let others = plus-is c.plus-4.ensures next-two c.times-w23.ensures in
    let sum =
    plus-is c.plus-sum.ensures squares others
    ∙ sum-gives (vs entry) (known entry) all tt
    ∙ gathered-is matrix (e.x -ℤ a.m1) (e.y -ℤ a.m2) (e.z -ℤ a.m3) a.d2 in
    let left = ellipsoid_left a.m1 a.m2 a.m3 matrix e.x e.y e.z in
    let right = ellipsoid_right matrix a.d2 in
    c.position_by.ensures
    ∙ ap position_by (c.compare.ensures ∙ ap₂ order_of sum c.from.ensures ∙ order_sub left right)
    ∙ order_sides left right
