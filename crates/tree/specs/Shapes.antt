-- Rotations of a tree, and trees with one entry more or one less.
use Rattle.std.specs.Prelude.{ℕ, ◌+◌, cond, ◌==◌, nat_lt}
use Rattle.kinds.specs.Rules.{Model}
use Rattle.buckets.specs.Rows.{entry, ahead}
use Rattle.tree.specs.Tree.{Tree, leaf, node, linked, tall, size}

module _ {P R : Type 0} where
  -- The first entry below a node, whose left tree is given.
  abbrev pub head_slot : Tree P R → ℕ → ℕ
  head_slot leaf k = k
  head_slot (node a i o v b) k = head_slot a i

  abbrev pub head_place : Tree P R → P → P
  head_place leaf q = q
  head_place (node a i o v b) q = head_place a o

  abbrev pub first_slot : Tree P R → ℕ
  first_slot leaf = 0
  first_slot (node a k q v b) = head_slot a k

module _ {P R : Type 0} (m : Model P R) where
  -- The root of the middle one of three trees goes to the top.
  abbrev pub rotated_twice : Tree P R → ℕ → P → Tree P R → ℕ → P → Tree P R → Tree P R
  rotated_twice a s p leaf k q c = linked m a s p (linked m leaf k q c)
  rotated_twice a s p (node d i o v b) k q c = linked m (linked m a s p d) i o (linked m b k q c)

  abbrev pub rotated_right : Tree P R → ℕ → P → Tree P R → Tree P R
  rotated_right leaf k q c = linked m leaf k q c
  rotated_right (node a s p v b) k q c =
      cond (nat_lt (tall a) (tall b)) (rotated_twice a s p b k q c) (linked m a s p (linked m b k q c))

  abbrev pub rotated_left : Tree P R → ℕ → P → Tree P R → Tree P R
  rotated_left a s p leaf = linked m a s p leaf
  rotated_left a s p (node b k q v c) =
      cond (nat_lt (tall c) (tall b)) (rotated_twice a s p b k q c) (linked m (linked m a s p b) k q c)

  abbrev pub evened : Tree P R → ℕ → P → Tree P R → Tree P R
  evened l s p r =
      cond (nat_lt (1 + tall r) (tall l)) (rotated_right l s p r)
      (cond (nat_lt (1 + tall l) (tall r)) (rotated_left l s p r) (linked m l s p r))

  -- A node without its first entry.
  abbrev pub pull : Tree P R → ℕ → P → Tree P R → Tree P R
  pull leaf k q r = r
  pull (node a i o v b) k q r = evened (pull a i o b) k q r

  abbrev pub pulled : Tree P R → Tree P R
  pulled leaf = leaf
  pulled (node a k q v b) = pull a k q b

  -- Two trees made one.
  abbrev pub fused : Tree P R → Tree P R → Tree P R
  fused l leaf = l
  fused l (node a k q v b) = evened l (head_slot a k) (head_place a q) (pull a k q b)

  abbrev pub grown : P → ℕ → Tree P R → Tree P R
  grown p s leaf = linked m leaf s p leaf
  grown p s (node l k q v r) =
      cond (ahead m (entry s p) (entry k q)) (evened (grown p s l) k q r) (evened l k q (grown p s r))

  abbrev pub shrunk : P → ℕ → Tree P R → Tree P R
  shrunk p s leaf = leaf
  shrunk p s (node l k q v r) =
      cond (s == k) (fused l r)
      (cond (ahead m (entry s p) (entry k q)) (evened (shrunk p s l) k q r) (evened l k q (shrunk p s r)))

  -- The rank of set s at p.
  abbrev pub ranked : P → ℕ → Tree P R → ℕ
  ranked p s leaf = 0
  ranked p s (node l k q v r) =
      cond (s == k) (size l)
      (cond (ahead m (entry s p) (entry k q)) (ranked p s l) (size l + 1 + ranked p s r))
