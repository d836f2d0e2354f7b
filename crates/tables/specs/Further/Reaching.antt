-- 01's "A gate reaches what it refers to, and what that reaches", of which specs/Reaching has the bounded test.
use Rattle.std.specs.Prelude.{◌≡◌, true, List}
use Rattle.gates.specs.Gate.{Gate}
use Rattle.tables.specs.Table.{◌∈◌}
use Rattle.tables.specs.Reaching.{refers_to}

abbrev pub Refers : List Gate → Gate → Gate → Type 0
Refers t g h = (h ∈ t) × (refers_to g h ≡ true)

pub data Reaches {A : Type 0} (E : A → A → Type 0) : A → A → Type 0 where
  refers : {a b : A} → E a b → Reaches E a b
  refers_on : {a b c : A} → E a b → Reaches E b c → Reaches E a c
