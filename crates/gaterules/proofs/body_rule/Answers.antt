-- `body_rule` goes by kind as `body_rule` does.
use mathlib.Core.Path.{refl}
use Rattle.gaterules.proofs.body_rule.Goals as goal

pub returns-in-Rect : goal.returns-in-Rect
returns-in-Rect c = rw (c.rect_rule.ensures, c.in-Rect.is) refl

pub returns-in-Poly : goal.returns-in-Poly
returns-in-Poly c = rw (c.poly_rule.ensures, c.in-Poly.is) refl

pub returns-in-Ellip : goal.returns-in-Ellip
returns-in-Ellip c = rw (c.ellip_rule.ensures, c.in-Ellip.is) refl

pub returns-in-DecimalEllip : goal.returns-in-DecimalEllip
returns-in-DecimalEllip c = rw (c.ellip_rule-in-DecimalEllip.ensures, c.in-DecimalEllip.is) refl

pub returns-in-Ellip3 : goal.returns-in-Ellip3
returns-in-Ellip3 c = rw (c.ellip3_rule.ensures, c.in-Ellip3.is) refl

pub returns-in-Quad : goal.returns-in-Quad
returns-in-Quad c = rw (c.quad_rule.ensures, c.in-Quad.is, c.requires) refl
