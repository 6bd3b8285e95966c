-- The tree that the slots hold at a root, and when it is in shape and in order.
use Rattle.std.specs.Prelude.{◌≡◌, ℕ, zero, suc, ◌+◌, ◌-◌, min, max, Bool, true, cond, ◌&&◌, List, length, Some, None, Option, ◌==◌, nat_eq, nat_le, nat_lt}
use Rattle.kinds.specs.Rules.{Model}
use Rattle.tree.specs.declared.node.Node.{Node}
use Rattle.tree.specs.Slots.{at, height_of, count_of, held_place}
use Rattle.tree.specs.Tree.{Tree, leaf, node, root_of, row_of, times, Balanced, Holds, Joined}
use Rattle.buckets.specs.Rows.{Sorted, AllAdmitted}
use Rattle.buckets.specs.declared.Entry.{Entry}

abbrev pub or_else : {X Y : Type 0} → Option X → Y → (X → Y) → Y
or_else None y f = y
or_else (Some x) y f = f x

-- f is true of each number below n.
abbrev pub all : ℕ → (ℕ → Bool) → Bool
all zero f = true
all (suc n) f = f n && all n f

module _ {P R : Type 0} where
  -- The sets that a register over these slots may hold: 1 to this.
  abbrev pub capacity : List (Node P R) → ℕ
  capacity ns = min (length ns) 4096 - 1

  -- Slot j is in use.
  abbrev pub in_use : List (Node P R) → ℕ → Bool
  in_use ns j = nat_lt j 4096 && nat_lt 0 (count_of (at ns j))

  -- Where set j is present, if it is.
  abbrev pub place_in : List (Node P R) → ℕ → Option P
  place_in ns j = cond (in_use ns j) (held_place (at ns j)) None

  -- At most n levels of the tree at slot i.
  abbrev pub read_tree : ℕ → List (Node P R) → ℕ → Tree P R
  read_tree zero ns i = leaf
  read_tree (suc n) ns i =
      or_else (at ns i) leaf (λ x. node (read_tree n ns x.left) i x.place x.join (read_tree n ns x.right))

  -- No tree of 4095 nodes has more than 17 levels.
  unfoldable pub tree_in : List (Node P R) → ℕ → Tree P R
  tree_in ns i = read_tree 32 ns i

  abbrev pub row_in : List (Node P R) → ℕ → List (Entry P)
  row_in ns i = row_of (tree_in ns i)

  -- The height and the count that a node holds are right, and its trees differ by one level at most.
  abbrev pub tidy : ℕ → ℕ → ℕ → ℕ → Node P R → Bool
  tidy hl hr cl cr x =
      (x.height == 1 + max hl hr) && (x.count == 1 + cl + cr && (nat_le hl (1 + hr) && nat_le hr (1 + hl)))

  -- The tree at slot i, of at most n levels, has right heights and counts, and is balanced.
  abbrev pub sound : ℕ → List (Node P R) → ℕ → Bool
  sound zero ns i = i == 0
  sound (suc n) ns i =
      or_else (at ns i) (i == 0)
      (λ x. tidy (height_of (at ns x.left)) (height_of (at ns x.right)) (count_of (at ns x.left))
      (count_of (at ns x.right)) x
      && (sound n ns x.left && sound n ns x.right))

  abbrev pub mark : List (Node P R) → ℕ → ℕ
  mark ns j = cond (in_use ns j) 1 0

  -- The tree at slot i is sound, and each slot stands in it once if it is in use, and else not at all.
  unfoldable pub shaped : List (Node P R) → ℕ → Bool
  shaped ns i = sound 32 ns i && all (length ns) (λ j. nat_eq (times j (tree_in ns i)) (mark ns j))

-- What `shaped` says, of the tree read.
pub record ShapeAt {P R : Type 0} (ns : List (Node P R)) (root : ℕ) (t : Tree P R) : Type 0 where
  pub root_is : root ≡ root_of t
  pub held : Holds ns t
  pub balanced : Balanced t
  pub marked : (j : ℕ) → times j t ≡ mark ns j

-- What needs the kind: the row is sorted, its places are admitted, and the stored regions are right.
pub record OrderlyAt {P R : Type 0} (m : Model P R) (t : Tree P R) : Type 0 where
  pub sorted : Sorted m (row_of t)
  pub admitted : AllAdmitted m (row_of t)
  pub joined : Joined m t

abbrev pub Orderly : {P R : Type 0} → Model P R → List (Node P R) → ℕ → Type 0
Orderly m ns root = OrderlyAt m (tree_in ns root)
