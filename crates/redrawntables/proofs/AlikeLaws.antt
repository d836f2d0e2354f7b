-- Tables whose gates are alike but for leaves that are redrawn: the same refusals, the same members and outlines.
use mathlib.Core.Path.{◌≡◌, refl, sym, ap, ap₂, ◌∙◌}
use mathlib.Core.Bool.{Bool, ◌&&◌}
use mathlib.Core.List.Memᴰ.{head as here}
use mathlib.Core.List.Memᴰ.{tail as there}
use mathlib.Core.List.{List, [], ◌∷◌, ◌++◌, map}
use Prim.Native.Nat.{ℕ, zero, suc, ◌+◌}
use native.Mathlib.Omega.{arith}
use lib.ListN.{length, get_or, take}
use Rattle.text.specs.Bytes.{same}
use Rattle.gates.specs.Gate.{Name, Event, Leaf, Shape, leaf, Gate, Region, gate_regions, regions}
use Rattle.gates.specs.Encoding.{leaf_kind, leaf_words}
use Rattle.tables.specs.Table.{◌∈◌, some_of, sum_of, no_gate, nth_gate, own_names, given, names, gate_references}
use Rattle.tables.specs.Reaching.{refers_to, refers_at, reaches_by, reaches_itself}
use Rattle.tables.specs.Further.Rules.{Rules}
use Rattle.tables.specs.Members.{belongs, round, rounds, member, claimed, unclaimed}
use Rattle.tables.specs.Outlines.{on_shape, outline_member}
use Rattle.tables.proofs.ReachingLaws.{reaches_itself_lem, itself_reaches}
use Rattle.tables.proofs.MemberLaws.{same-value}
use Rattle.tables.proofs.RewrittenLaws.{body_size, step_size}
use Rattle.redrawn.proofs.StepLaws.{BodyRedrawn, length-body}
use Rattle.redrawntables.specs.Lines.{Along, done, more}

-- functions that agree everywhere are the same
pub everywhere : {A B : Type 0} {f g : A → B} → ((x : A) → f x ≡ g x) → f ≡ g
everywhere h = λ i x. h x i

-- ---- lists that agree element by element
module _ {A : Type 0} {R : A → A → Type 0} where
  along_append : {a b c d : List A} → Along R a b → Along R c d → Along R (a ++ c) (b ++ d)
  along_append done s = s
  along_append (more x r) s = more x (along_append r s)

  pub along-length : {l k : List A} → Along R l k → length k ≡ length l
  along-length done = refl
  along-length (more x r) = ap suc (along-length r)

  pub along-at : {l k : List A} → Along R l k → (d : A) → R d d → (i : ℕ) → R (get_or l i d) (get_or k i d)
  along-at done d z i = z
  along-at (more x r) d z zero = x
  along-at (more x r) d z (suc i) = along-at r d z i

  pub along-take : {l k : List A} (n : ℕ) → Along R l k → Along R (take n l) (take n k)
  along-take zero r = done
  along-take (suc n) done = done
  along-take (suc n) (more {x = x'} {y = y} {l = l} {k = k} x r) = more x (along-take {l = l} n r)

  -- an element of the second comes from one of the first
  along-from : {l k : List A} {y : A} → Along R l k → y ∈ k → (x : A) × (x ∈ l) × R x y
  along-from (more {x = x} {y = y} p r) (here e) = (x, here refl, rw e p)
  along-from {y = y} done m = elim m [ ]
  along-from (more p r) (there m) = let f = along-from r m in (f.0, there f.1, f.2)

  -- and one of the first has one in the second
  pub along-to : {l k : List A} {x : A} → Along R l k → x ∈ l → (y : A) × (y ∈ k) × R x y
  along-to (more {x = x} {y = y} p r) (here e) = (y, here refl, rw e p)
  along-to done m = elim m [ ]
  along-to (more p r) (there m) = let f = along-to r m in (f.0, there f.1, f.2)

-- ---- gates that are alike

-- the same shape, or a leaf of the same kind with its body redrawn
pub data ShapeRedrawn : Shape → Shape → Type 0 where
  kept : {s : Shape} → ShapeRedrawn s s
  drawn : {l m : Leaf} → leaf_kind m ≡ leaf_kind l → BodyRedrawn (leaf_kind l) (leaf_words l) (leaf_words m) → ShapeRedrawn (leaf l) (leaf m)

pub record RegionAlike (r s : Region) : Type 0 where
  pub name : s.name ≡ r.name
  pub parent : s.parent ≡ r.parent
  pub shape : ShapeRedrawn r.shape s.shape
  pub holds : (m : Name → Bool) (e : Event) → belongs m e s ≡ belongs m e r
  pub outline : (e : Event) → on_shape e s.shape ≡ on_shape e r.shape

pub record GateAlike (g h : Gate) : Type 0 where
  pub own : own_names h ≡ own_names g
  pub refers : gate_references h ≡ gate_references g
  pub parts : Along RegionAlike (gate_regions g) (gate_regions h)

pub region-itself : (r : Region) → RegionAlike r r
region-itself r = record { name = refl; parent = refl; shape = kept; holds = λ m e. refl; outline = λ e. refl }

regions_themselves : (rs : List Region) → Along RegionAlike rs rs
regions_themselves [] = done
regions_themselves (r ∷ rs) = more (region-itself r) (regions_themselves rs)

pub gate_itself : (g : Gate) → GateAlike g g
gate_itself g = record { own = refl; refers = refl; parts = regions_themselves (gate_regions g) }

-- ---- their regions
pub regions-alike : {t u : List Gate} → Along GateAlike t u → Along RegionAlike (regions t) (regions u)
regions-alike done = done
regions-alike (more g r) = along_append g.parts (regions-alike r)

pub names-alike : {rs ss : List Region} → Along RegionAlike rs ss → names ss ≡ names rs
names-alike done = refl
names-alike (more r l) = ap₂ ◌∷◌ r.name (names-alike l)

pub parents_alike : {rs ss : List Region} → Along RegionAlike rs ss → map (λ (r : Region). r.parent) ss ≡ map (λ (r : Region). r.parent) rs
parents_alike done = refl
parents_alike (more r l) = ap₂ ◌∷◌ r.parent (parents_alike l)

size-alike : {s u : Shape} → ShapeRedrawn s u → body_size u ≡ body_size s
size-alike kept = refl
size-alike (drawn e b) = length-body b

pub sizes-alike : {rs ss : List Region} → Along RegionAlike rs ss → sum_of step_size ss ≡ sum_of step_size rs
sizes-alike done = refl
sizes-alike (more r l) = ap₂ (λ (a b : ℕ). 4 + a + b) (size-alike r.shape) (sizes-alike l)

pub given-alike : {t u : List Gate} → Along GateAlike t u → given u ≡ given t
given-alike done = refl
given-alike (more g r) = ap₂ ◌++◌ g.own (given-alike r)

-- ---- the rules
module _ {t u : List Gate} (a : Along GateAlike t u) where
  refers-alike : (i j : ℕ) → refers_at u i j ≡ refers_at t i j
  unfolding refers_at refers_to nth_gate
  refers-alike i j =
      let g = along-at a no_gate (gate_itself no_gate) i in
      let h = along-at a no_gate (gate_itself no_gate) j in
      rw (g.refers, names-alike h.parts)

  reaches_alike : (s i j : ℕ) → reaches_by (refers_at u) s i j ≡ reaches_by (refers_at t) s i j
  unfolding reaches_by
  reaches_alike zero i j = refers-alike i j
  reaches_alike (suc s) i j = rw (reaches_alike s i j, reaches_alike s i s, reaches_alike s s j)

  pub itself-alike : (i : ℕ) → reaches_itself u i ≡ reaches_itself t i
  unfolding reaches_itself
  itself-alike i = rw (along-length a) (reaches_alike (length t) i i)

  pub rules-alike : Rules t → Rules u
  rules-alike ok =
      let f = ok.few in
      let l = along-length (regions-alike a) in
      record {
        few = omega arith;
        distinct = rw (given-alike a) ok.distinct;
        alive = λ h m n k. let g = along-from a m in rw (names-alike (regions-alike a)) (ok.alive g.0 g.1 n (rw g.2.refers at k));
        no_circle = λ g r.
            let i = reaches_itself_lem u g r in
            let e = along-length a in
            ok.no_circle (nth_gate t i.0) (itself_reaches t i.0 (omega (arith, i.1)) (sym (itself-alike i.0) ∙ i.2));
      }

-- ---- members and outlines

module _ (e : Event) where
  round-alike : {rs ss : List Region} → Along RegionAlike rs ss → (m w : Name → Bool) → ((n : Name) → w n ≡ m n) → (n : Name) → round ss e w n ≡ round rs e m n
  round-alike done m w h n = refl
  round-alike (more {x = r} {y = s} p l) m w h n =
      let v : belongs w e s ≡ belongs m e r = p.holds w e ∙ same-value e w m r (λ n _. h n) in
      rw (p.name, v, round-alike l m w h n)

  rounds-alike : (k : ℕ) {rs ss : List Region} → Along RegionAlike rs ss → (n : Name) → rounds k ss e n ≡ rounds k rs e n
  rounds-alike zero a n = refl
  rounds-alike (suc k) {rs} {ss} a n = round-alike a (rounds k rs e) (rounds k ss e) (λ m. rounds-alike k a m) n

  on_alike : {rs ss : List Region} → Along RegionAlike rs ss → (n : Name)
      → some_of (λ (r : Region). same n r.name && on_shape e r.shape) ss ≡ some_of (λ (r : Region). same n r.name && on_shape e r.shape) rs
  on_alike done n = refl
  on_alike (more p l) n = rw (p.name, p.outline e, on_alike l n)

  module _ {t u : List Gate} (a : Along GateAlike t u) where
    -- of every event, by every name
    pub member_alike : (n : Name) → member u e n ≡ member t e n
    unfolding member
    member_alike n = rw (along-length (regions-alike a), rounds-alike (length (regions t)) (regions-alike a) n)

    pub outline-alike : (n : Name) → outline_member u e n ≡ outline_member t e n
    unfolding outline_member
    outline-alike n = rw (member_alike n, on_alike (regions-alike a) n)

    pub unclaimed-alike : unclaimed u e ≡ unclaimed t e
    unfolding unclaimed claimed
    unclaimed-alike = rw (names-alike (regions-alike a), everywhere member_alike)
