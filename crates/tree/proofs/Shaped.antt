-- What a tree in shape says of its row.
use Rattle.std.proofs.Common.{◌≡◌, ℕ, ◌≤◌, List, length, arith}
use Rattle.tree.specs.declared.node.Node.{Node}
use Rattle.tree.specs.Slots.{at, count_of}
use Rattle.tree.specs.Whole.{tree_in, row_in, ShapeAt}
use Rattle.tree.proofs.Held.{count_is}
use Rattle.tree.proofs.Without.{length_row}
use Rattle.tree.proofs.Shape.{shape_few}

module _ {P R : Type 0} (ns : List (Node P R)) (root : ℕ) (y : ShapeAt ns root (tree_in ns root)) where
  pub few : length (row_in ns root) ≤ 4095
  few = let a = shape_few ns root _ y in let b = length_row (tree_in ns root) in omega arith

  pub many : (n : ℕ) → n ≡ count_of (at ns root) → n ≡ length (row_in ns root)
  many n is =
      let a = count_is ns root n (tree_in ns root) y.root_is is y.held in
      let b = length_row (tree_in ns root) in
      omega arith
