-- What a kind of place is, and the rules that every kind meets.
use Rattle.std.specs.Prelude.{◌≡◌, ℕ, ◌≤◌, Bool, true, List, length}
use Rattle.std.specs.declared.cmp.Ordering.TheVariants.{Less, Equal}
use Rattle.std.specs.declared.cmp.Ordering.{Ordering}
use Rattle.std.specs.Ordering.{ordering_reverse}

-- A kind over places P and regions R: which places it admits, how it orders them, the region of one place, the join of
-- two regions, how many bytes a region has, and which.
pub record Model (P R : Type 0) : Type 0 where
  pub admitted : P → Bool
  pub order : P → P → Ordering
  pub single : P → R
  pub joined : R → R → R
  pub width : ℕ
  pub bytes : R → List ℕ

abbrev pub Admitted : {P R : Type 0} → Model P R → P → Type 0
Admitted m p = m.admitted p ≡ true

-- A region lies within another where their join is the other.
abbrev pub Within : {P R : Type 0} → Model P R → R → R → Type 0
Within m a b = m.joined a b ≡ b

-- A region covers a place where the region of that one place lies within it.
abbrev pub Covers : {P R : Type 0} → Model P R → R → P → Type 0
Covers m r p = Within m (m.single p) r

-- The rules: the order is total on admitted places, and those that are equal in it are the same; the region of one place
-- covers no other admitted place; joining is associative, commutative and idempotent; and regions of up to 24 bytes have
-- as many bytes as the kind's width says, and are told apart by them.
pub record Laws {P R : Type 0} (m : Model P R) : Type 0 where
  pub order_antisymmetric : (a b : P) → Admitted m a → Admitted m b → m.order a b ≡ ordering_reverse (m.order b a)
  pub order_transitive : (a b c : P) → Admitted m a → Admitted m b → Admitted m c
      → m.order a b ≡ Less → m.order b c ≡ Less → m.order a c ≡ Less
  pub order_equal_same : (a b : P) → Admitted m a → Admitted m b → m.order a b ≡ Equal → a ≡ b
  pub covers_one : (a b : P) → Admitted m a → Admitted m b → Covers m (m.single a) b → b ≡ a
  pub join_associative : (a b c : R) → m.joined (m.joined a b) c ≡ m.joined a (m.joined b c)
  pub join_commutative : (a b : R) → m.joined a b ≡ m.joined b a
  pub join_idempotent : (a : R) → m.joined a a ≡ a
  pub bytes_length : (a : R) → m.width ≤ 24 → length (m.bytes a) ≡ m.width
  pub bytes_injective : (a b : R) → m.width ≤ 24 → m.bytes a ≡ m.bytes b → a ≡ b
