-- What stands in the slots.
use Rattle.std.specs.Prelude.{ℕ, zero, suc, ◌+◌, max, List, Some, None, Option}
use Rattle.std.specs.List.{slice_get}
use Rattle.kinds.specs.Rules.{Model}
use Rattle.tree.specs.declared.node.Node.{Node}

abbrev pub height_of : {P R : Type 0} → Option (Node P R) → ℕ
height_of None = 0
height_of (Some n) = n.height

abbrev pub count_of : {P R : Type 0} → Option (Node P R) → ℕ
count_of None = 0
count_of (Some n) = n.count

abbrev pub left_child : {P R : Type 0} → Option (Node P R) → ℕ
left_child None = 0
left_child (Some n) = n.left

abbrev pub right_child : {P R : Type 0} → Option (Node P R) → ℕ
right_child None = 0
right_child (Some n) = n.right

abbrev pub held_place : {P R : Type 0} → Option (Node P R) → Option P
held_place None = None
held_place (Some n) = Some n.place

abbrev pub held_join : {P R : Type 0} → Option (Node P R) → Option R
held_join None = None
held_join (Some n) = Some n.join

abbrev pub joined_over : {P R : Type 0} → Model P R → R → Option (Node P R) → R
joined_over m r None = r
joined_over m r (Some n) = m.joined r n.join

-- The node at a slot; slot 0 is none.
abbrev pub at : {P R : Type 0} → List (Node P R) → ℕ → Option (Node P R)
at ns zero = None
at ns (suc i) = slice_get ns (suc i)

abbrev pub made : {P R : Type 0} → Model P R → List (Node P R) → P → ℕ → ℕ → Node P R
made m ns p l r = record {
  place = p;
  left = l;
  right = r;
  height = 1 + max (height_of (at ns l)) (height_of (at ns r));
  count = 1 + count_of (at ns l) + count_of (at ns r);
  join = joined_over m (joined_over m (m.single p) (at ns l)) (at ns r);
}

-- A node, marked as not in use.
abbrev pub idle : {P R : Type 0} → Node P R → Node P R
idle x = record { place = x.place; join = x.join; left = 0; right = 0; count = 0; height = 0 }
