-- The register as its calls speak of it: its capacity, and who is present where. The tree's shape may vary within its rules,
-- and so may what slots hold that are not in use.
use Rattle.std.specs.Prelude.{◌≡◌, ℕ, List, None, Option}
use Rattle.kinds.specs.Rules.{Model}
use Rattle.buckets.specs.Rows.{row, IsRow}
use Rattle.buckets.specs.declared.Entry.{Entry}
use Rattle.tree.specs.declared.node.Node.{Node}
use Rattle.tree.specs.View as trees
use Rattle.kinds.specs.declared.kind.PlaceKind.{Ghosts}
use Rattle.register.specs.declared.register.Register.{Register}

module _ {P R : Type 0} {g : Ghosts P R} where
  -- The highest set number: one less than the number of slots, or than 4,096 where there are more; 0 for no slots.
  abbrev pub capacity_of : Register P R g → ℕ
  capacity_of r = trees.capacity_of r.tree

  -- Where a set is present, if it is.
  abbrev pub place_of : Register P R g → ℕ → Option P
  place_of r n = trees.place_of r.tree n

  -- How high the tree stands.
  abbrev pub height_of : Register P R g → ℕ
  height_of r = trees.height_of r.tree

  -- How many slots were handed in, and what one of them holds.
  abbrev pub slot_count : Register P R g → ℕ
  slot_count r = trees.slot_count r.tree

  abbrev pub slot : Register P R g → ℕ → Option (Node P R)
  slot r j = trees.slot r.tree j

module _ {P R : Type 0} {g : Ghosts P R} (m : Model P R) where
  -- The row of the sets that are present.
  abbrev pub row_of : Register P R g → List (Entry P)
  row_of r = row m (place_of r) (capacity_of r)

  -- The entries of the tree, in its order, are the row.
  pub record TreeRowRight (r : Register P R g) : Type 0 where
    pub same : trees.row_of r.tree ≡ row_of r
    pub is_row : IsRow m (place_of r) (capacity_of r) (trees.row_of r.tree)

module _ {P R : Type 0} {g : Ghosts P R} where
  -- What no call changes: the capacity, the number of slots, and every slot that is in use neither before nor after, slot 0 and
  -- those above 4,095 among them.
  pub record Kept (old new : Register P R g) : Type 0 where
    pub capacity : capacity_of new ≡ capacity_of old
    pub slots : slot_count new ≡ slot_count old
    pub untouched : (j : ℕ) → place_of old j ≡ None → place_of new j ≡ None → slot new j ≡ slot old j
