-- The sort of line that each kind makes: `sort_of` is the one law that goes by `LineKind`, and all others go by the sort.
use mathlib.Core.Path.{◌≡◌, refl}
use mathlib.Core.Bool.{false}
use mathlib.Core.List.{List}
use Prim.Native.Nat.{ℕ, ◌-◌}
use lib.ListN.{length}
use Rattle.text.proofs.BoundedLaws.{length-tab}
use Rattle.plans.specs.Kinds.{spans}
use Rattle.gates.specs.declared.LineKind.{LineKind}
use Rattle.gates.specs.declared.LineKind.TheVariants.{Rect, Poly, Ellip, DecimalEllip, Ellip3, Quad, And, Or, Not, Unknown}
use Rattle.gates.specs.Kinds.{step_kind, is_quad}
use Rattle.gates.specs.Gate.{Leaf, rect, poly, ellip, decimal_ellip, ellip3, leaf, one}
use Rattle.gates.specs.Meaning.{body_of}
use Rattle.gates.specs.Encoding.{rect_word, plane_word, decimal_word, space_word, leaf_kind, leaf_words}
use Rattle.gates.specs.Inner.Regions.{combines}
use Rattle.gates.proofs.GoodGate.{GoodLeaf}
use Rattle.gates.proofs.AcceptedLaws.{Accepted}
use Rattle.gates.proofs.LeafLaws.{rect_good, poly_good, ellip_good, decimal_ellip_good}
use Rattle.gates.proofs.Ellip3Laws.{ellip3_good}

-- a line that draws one leaf, with a word for each field after the parent
pub record Drawn (head fs : List (List ℕ)) (kind : LineKind) : Type 0 where
  pub shape : Leaf
  pub body : body_of head kind fs ≡ one (leaf shape)
  pub step : leaf_kind shape ≡ step_kind kind
  pub alone : is_quad kind ≡ false
  pub uncombined : combines kind ≡ false
  pub word_count : length (leaf_words shape) ≡ length fs - 3
  pub good : Accepted head kind fs → GoodLeaf (length head) shape

pub data LineSort (head fs : List (List ℕ)) : LineKind → Type 0 where
  drawn_line : {kind : LineKind} → Drawn head fs kind → LineSort head fs kind
  quad_line : LineSort head fs Quad
  and_line : LineSort head fs And
  or_line : LineSort head fs Or
  not_line : LineSort head fs Not
  unknown_line : LineSort head fs Unknown

module _ (head fs : List (List ℕ)) where
  draws : {kind : LineKind} (l : Leaf) → body_of head kind fs ≡ one (leaf l) → leaf_kind l ≡ step_kind kind → is_quad kind ≡ false → combines kind ≡ false
      → length (leaf_words l) ≡ length fs - 3 → (Accepted head kind fs → GoodLeaf (length head) l) → LineSort head fs kind
  draws l b s q c w g = drawn_line (record { shape = l; body = b; step = s; alone = q; uncombined = c; word_count = w; good = g })

  pub sort_of : (kind : LineKind) → LineSort head fs kind
  unfolding spans
  sort_of Rect = draws (rect head fs) refl refl refl refl (length-tab (rect_word head fs) (length fs - 3)) (rect_good head fs)
  sort_of Poly = draws (poly head fs) refl refl refl refl (length-tab (plane_word head fs) (length fs - 3)) (poly_good head fs)
  sort_of Ellip = draws (ellip head fs) refl refl refl refl (length-tab (plane_word head fs) (length fs - 3)) (ellip_good head fs)
  sort_of DecimalEllip =
      draws (decimal_ellip head fs) refl refl refl refl (length-tab (decimal_word head fs) (length fs - 3)) (decimal_ellip_good head fs)
  sort_of Ellip3 = draws (ellip3 head fs) refl refl refl refl (length-tab (space_word head fs) (length fs - 3)) (ellip3_good head fs)
  sort_of Quad = quad_line
  sort_of And = and_line
  sort_of Or = or_line
  sort_of Not = not_line
  sort_of Unknown = unknown_line
