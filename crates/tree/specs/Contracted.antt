-- What the functions on slots ask and promise.
use Rattle.std.specs.Prelude.{◌≡◌, ℕ, ◌+◌, ◌<◌, ◌≤◌, cond, List, length, ◌==◌}
use Rattle.std.specs.List.{slice_get}
use Rattle.tree.specs.declared.node.Apart.{Apart}
use Rattle.tree.specs.declared.node.Node.{Node}
use Rattle.tree.specs.Slots.{at, height_of, count_of}
use Rattle.tree.specs.Tree.{Tree, root_of, tall, size, times, Balanced, Holds}

abbrev pub one : ℕ → ℕ → ℕ
one j s = cond (j == s) 1 0

-- What `link` asks, of the slots alone.
pub record Room {P R : Type 0} (ns : List (Node P R)) (s left right : ℕ) : Type 0 where
  pub within : s < length ns
  pub within_l : left < length ns
  pub within_r : right < length ns
  pub low_l : height_of (at ns left) < 200
  pub low_r : height_of (at ns right) < 200
  pub few : count_of (at ns left) + count_of (at ns right) < 65535

-- The slots hold the trees l and r, apart from each other and from s, which is free to be written.
pub record TwoAt {P R : Type 0} (ns : List (Node P R)) (s left right : ℕ) (l r : Tree P R) : Type 0 where
  pub left_is : left ≡ root_of l
  pub right_is : right ≡ root_of r
  pub held_l : Holds ns l
  pub held_r : Holds ns r
  pub apart : (j : ℕ) → times j l + one j s + times j r ≤ 1
  pub pos : 0 < s
  pub within : s < length ns
  pub few : 1 + size l + size r ≤ 4095
  pub low_l : tall l < 200
  pub low_r : tall r < 200

abbrev pub Two : {P R : Type 0} → List (Node P R) → ℕ → ℕ → ℕ → Type 0
Two {P} {R} ns s left right = (l : Tree P R) × (r : Tree P R) × TwoAt ns s left right l r

-- Three trees, with s between the first two and k between the last two.
pub record ThreeAt {P R : Type 0} (ns : List (Node P R)) (s k one_is two_is three_is : ℕ) (a b c : Tree P R) : Type 0
  where
    pub a_is : one_is ≡ root_of a
    pub b_is : two_is ≡ root_of b
    pub c_is : three_is ≡ root_of c
    pub held_a : Holds ns a
    pub held_b : Holds ns b
    pub held_c : Holds ns c
    pub apart : (j : ℕ) → times j a + one j s + times j b + one j k + times j c ≤ 1
    pub pos_s : 0 < s
    pub pos_k : 0 < k
    pub within_s : s < length ns
    pub within_k : k < length ns
    pub few : 2 + size a + size b + size c ≤ 4095
    pub low_a : tall a < 100
    pub low_b : tall b < 100
    pub low_c : tall c < 100

abbrev pub ThreeApart : {P R : Type 0} → List (Node P R) → Apart P → Tree P R → Tree P R → Tree P R → Type 0
ThreeApart ns x a b c = ThreeAt ns x.low.set x.high.set x.first x.second x.third a b c

abbrev pub Three : {P R : Type 0} → List (Node P R) → Apart P → Type 0
Three {P} {R} ns x = (a : Tree P R) × (b : Tree P R) × (c : Tree P R) × ThreeApart ns x a b c

-- After a call the slots hold the tree t, and the slots that do not stand in it are as they were.
pub record Done {P R : Type 0} (old new : List (Node P R)) (res : ℕ) (t : Tree P R) : Type 0 where
  pub held : Holds new t
  pub root : res ≡ root_of t
  pub kept : (j : ℕ) → times j t ≡ 0 → slice_get new j ≡ slice_get old j

-- Two trees below a slot, both low.
pub record EvenAt {P R : Type 0} (ns : List (Node P R)) (s left right : ℕ) (l r : Tree P R) : Type 0 where
  pub two : TwoAt ns s left right l r
  pub short_l : tall l < 50
  pub short_r : tall r < 50

abbrev pub Even : {P R : Type 0} → List (Node P R) → ℕ → ℕ → ℕ → Type 0
Even {P} {R} ns s left right = (l : Tree P R) × (r : Tree P R) × EvenAt ns s left right l r

-- A balanced tree, and a slot s that is not in it.
pub record GrowAt {P R : Type 0} (ns : List (Node P R)) (s root : ℕ) (t : Tree P R) : Type 0 where
  pub root_is : root ≡ root_of t
  pub held : Holds ns t
  pub apart : (j : ℕ) → times j t + one j s ≤ 1
  pub pos : 0 < s
  pub within : s < length ns
  pub few : 1 + size t ≤ 4095
  pub balanced : Balanced t

abbrev pub Grow : {P R : Type 0} → List (Node P R) → ℕ → ℕ → Type 0
Grow {P} {R} ns s root = (t : Tree P R) × GrowAt ns s root t

-- A balanced tree at a root.
pub record TreeAt {P R : Type 0} (ns : List (Node P R)) (root : ℕ) (t : Tree P R) : Type 0 where
  pub root_is : root ≡ root_of t
  pub held : Holds ns t
  pub apart : (j : ℕ) → times j t ≤ 1
  pub few : size t ≤ 4095
  pub balanced : Balanced t
  pub some : 0 < length ns

abbrev pub Treed : {P R : Type 0} → List (Node P R) → ℕ → Type 0
Treed {P} {R} ns root = (t : Tree P R) × TreeAt ns root t

-- Two balanced trees that share no slot.
pub record PairAt {P R : Type 0} (ns : List (Node P R)) (left right : ℕ) (l r : Tree P R) : Type 0 where
  pub tree_l : TreeAt ns left l
  pub tree_r : TreeAt ns right r
  pub apart : (j : ℕ) → times j l + times j r ≤ 1
  pub few : 1 + size l + size r ≤ 4095
  pub near_l : tall l ≤ 1 + tall r
  pub near_r : tall r ≤ 1 + tall l

abbrev pub Paired : {P R : Type 0} → List (Node P R) → ℕ → ℕ → Type 0
Paired {P} {R} ns left right = (l : Tree P R) × (r : Tree P R) × PairAt ns left right l r
