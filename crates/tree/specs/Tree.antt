-- Trees of slots, and when the slots hold one.
use Rattle.std.specs.Prelude.{◌≡◌, ℕ, ◌+◌, ◌≤◌, max, cond, List, [], ◌∷◌, ◌++◌, Some, ◌==◌}
use Rattle.kinds.specs.Rules.{Model}
use Rattle.buckets.specs.Rows.{entry}
use Rattle.buckets.specs.declared.Entry.{Entry}
use Rattle.tree.specs.declared.node.Node.{Node}
use Rattle.tree.specs.Slots.{at}

-- A tree of slots, with the place and the region that each slot holds.
pub data Tree (P R : Type 0) : Type 0 where
  leaf : Tree P R
  node : Tree P R → ℕ → P → R → Tree P R → Tree P R

module _ {P R : Type 0} where
  abbrev pub root_of : Tree P R → ℕ
  root_of leaf = 0
  root_of (node l s p v r) = s

  abbrev pub tall : Tree P R → ℕ
  tall leaf = 0
  tall (node l s p v r) = 1 + max (tall l) (tall r)

  abbrev pub size : Tree P R → ℕ
  size leaf = 0
  size (node l s p v r) = 1 + size l + size r

  abbrev pub row_of : Tree P R → List (Entry P)
  row_of leaf = []
  row_of (node l s p v r) = row_of l ++ (entry s p ∷ row_of r)

  -- How often slot k stands in the tree.
  abbrev pub times : ℕ → Tree P R → ℕ
  times k leaf = 0
  times k (node l s p v r) = times k l + cond (k == s) 1 0 + times k r

  abbrev pub Balanced : Tree P R → Type 0
  Balanced leaf = Unit {0}
  Balanced (node l s p v r) = Balanced l × Balanced r × (tall l ≤ 1 + tall r) × (tall r ≤ 1 + tall l)

  abbrev pub stored : Tree P R → P → R → Tree P R → Node P R
  stored l p v r = record {
    place = p;
    left = root_of l;
    right = root_of r;
    height = 1 + max (tall l) (tall r);
    count = 1 + size l + size r;
    join = v;
  }

  -- The slots hold the tree: one equation a node, and no kind.
  abbrev pub Holds : List (Node P R) → Tree P R → Type 0
  Holds ns leaf = Unit {0}
  Holds ns (node l s p v r) = (at ns s ≡ Some (stored l p v r)) × Holds ns l × Holds ns r

module _ {P R : Type 0} (m : Model P R) where
  -- d joined with the region stored at the tree's root.
  abbrev pub onto : R → Tree P R → R
  onto d leaf = d
  onto d (node l s p v r) = m.joined d v

  -- A node over two trees, with the region that belongs there.
  abbrev pub linked : Tree P R → ℕ → P → Tree P R → Tree P R
  linked l s p r = node l s p (onto (onto (m.single p) l) r) r

  -- Each stored region is the join of the places below it.
  abbrev pub Joined : Tree P R → Type 0
  Joined leaf = Unit {0}
  Joined (node l s p v r) = Joined l × Joined r × (v ≡ onto (onto (m.single p) l) r)

  -- d joined with the regions of all places of the tree.
  abbrev pub span : R → Tree P R → R
  span d leaf = d
  span d (node l s p v r) = m.joined d (span (span (m.single p) l) r)
