-- The tree over its slots as its calls speak of it.
use Rattle.std.specs.Prelude.{ℕ, List, length, Option}
use Rattle.std.specs.List.{slice_get}
use Rattle.kinds.specs.Rules.{Model}
use Rattle.buckets.specs.declared.Entry.{Entry}
use Rattle.tree.specs.declared.node.Node.{Node}
use Rattle.tree.specs.declared.ranked_tree.RankedTree.{RankedTree}
use Rattle.kinds.specs.declared.kind.PlaceKind.{Ghosts}
use Rattle.tree.specs.Tree.{tall}
use Rattle.tree.specs.Whole.{capacity, place_in, tree_in, row_in, Orderly}

module _ {P R : Type 0} {g : Ghosts P R} where
  -- The highest set number.
  abbrev pub capacity_of : RankedTree P R g → ℕ
  capacity_of t = capacity t.slots.now

  -- Where a set is present, if it is.
  abbrev pub place_of : RankedTree P R g → ℕ → Option P
  place_of t n = place_in t.slots.now n

  -- The entries of the tree in its order.
  abbrev pub row_of : RankedTree P R g → List (Entry P)
  row_of t = row_in t.slots.now t.root

  -- How high the tree stands.
  abbrev pub height_of : RankedTree P R g → ℕ
  height_of t = tall (tree_in t.slots.now t.root)

  -- How many slots were lent, and what one of them holds.
  abbrev pub slot_count : RankedTree P R g → ℕ
  slot_count t = length t.slots.now

  abbrev pub slot : RankedTree P R g → ℕ → Option (Node P R)
  slot t j = slice_get t.slots.now j

  -- The row is sorted, its places are admitted, and the stored regions are the joins.
  abbrev pub InOrder : Model P R → RankedTree P R g → Type 0
  InOrder m t = Orderly m t.slots.now t.root
