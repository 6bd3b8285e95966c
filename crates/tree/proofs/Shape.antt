-- A held tree is the one that is read, and the check of the slots says what it should.
use Rattle.std.proofs.Common.{◌≡◌, ℕ, zero, suc, ◌+◌, ◌<◌, ◌≤◌, max, Bool, true, false, ◌&&◌, eqb, leb, List, length, Some, None, Option, sym, refl, ap, ◌∙◌, ap₂, arith}
use mathlib.Core.Bool.{false≢true}
use native.Mathlib.Decide.{ℕ_discrete, dec_lt}
use Rattle.std.proofs.lemmas.Bool.Decides.{nat_tests}
use Rattle.tree.specs.declared.node.Node.{Node}
use Rattle.tree.specs.Slots.{at, height_of, count_of}
use Rattle.tree.specs.Tree.{Tree, leaf, node, root_of, tall, size, times, stored, Balanced, Holds}
use Rattle.tree.specs.Contracted.{one}
use Rattle.tree.specs.Whole.{or_else, all, mark, read_tree, tree_in, tidy, sound, shaped, ShapeAt}
use Rattle.tree.proofs.Held.{at_some, holds_tall, holds_size}
use Rattle.tree.proofs.Room.{few_nodes}
use Rattle.tree.proofs.Balance.{low}

pub both : (a b : Bool) → (a && b) ≡ true → (a ≡ true) × (b ≡ true)
both true b h = (refl, h)
both false b h = absurd (false≢true h)

pub and : (a b : Bool) → a ≡ true → b ≡ true → (a && b) ≡ true
and a b x y = ap₂ ◌&&◌ x y

pub same : (a b : ℕ) → eqb a b ≡ true → a ≡ b
same a b h = grind (arith, nat_tests)

pub tests_same : (a b : ℕ) → a ≡ b → eqb a b ≡ true
tests_same a b h = grind (arith, nat_tests)

all_at : (n : ℕ) (f : ℕ → Bool) → all n f ≡ true → (j : ℕ) → j < n → f j ≡ true
all_at zero f h j lt = absurd (omega arith)
all_at (suc n) f h j lt = go (ℕ_discrete j n) (both (f n) (all n f) h).0 (all_at n f (both (f n) (all n f) h).1 j)
  where
    go : Dec (j ≡ n) → f n ≡ true → (j < n → f j ≡ true) → f j ≡ true
    go (yes e) w ih = ap f e ∙ w
    go (no e) w ih = ih (omega arith)

all_made : (n : ℕ) (f : ℕ → Bool) → ((j : ℕ) → j < n → f j ≡ true) → all n f ≡ true
all_made zero f h = refl
all_made (suc n) f h = and (f n) (all n f) (h n (omega arith)) (all_made n f (λ j lt. h j (omega arith)))

module _ {P R : Type 0} where
  read_is : (n : ℕ) (ns : List (Node P R)) (t : Tree P R) → tall t < n → Holds ns t → read_tree n ns (root_of t) ≡ t
  read_is zero ns t lt h = absurd (omega arith)
  read_is (suc n) ns leaf lt h = refl
  read_is (suc n) ns (node l s p v r) lt h =
      let a = read_is n ns l (omega arith) h.1 in
      let b = read_is n ns r (omega arith) h.2 in
      ap (λ o. or_else o leaf (λ x. node (read_tree n ns x.left) s x.place x.join (read_tree n ns x.right)))
      h.0
      ∙ ap₂ (λ u w. node u s p v w) a b

  pub tree_is : (ns : List (Node P R)) (root : ℕ) (t : Tree P R) → root ≡ root_of t → tall t < 17 → Holds ns t
      → tree_in ns root ≡ t
  unfolding tree_in
  tree_is ns root t is lt h = ap (read_tree 32 ns) is ∙ read_is 32 ns t (omega arith) h

  -- What the check of the tree says.
  record Read (ns : List (Node P R)) (i : ℕ) (t : Tree P R) : Type 0 where
    root_is : i ≡ root_of t
    held : Holds ns t
    balanced : Balanced t

  tidy_says : (hl hr cl cr : ℕ) (x : Node P R) → tidy hl hr cl cr x ≡ true
      → (x.height ≡ 1 + max hl hr) × (x.count ≡ 1 + cl + cr) × (hl ≤ 1 + hr) × (hr ≤ 1 + hl)
  tidy_says hl hr cl cr x h =
      let a = both (eqb x.height (1 + max hl hr))
      (eqb x.count (1 + cl + cr) && (leb hl (1 + hr) && leb hr (1 + hl))) h in
      let b = both (eqb x.count (1 + cl + cr)) (leb hl (1 + hr) && leb hr (1 + hl)) a.1 in
      let c = both (leb hl (1 + hr)) (leb hr (1 + hl)) b.1 in
      (grind (arith, nat_tests), grind (arith, nat_tests), grind (arith, nat_tests), grind (arith, nat_tests))

  read_node : (ns : List (Node P R)) (i : ℕ) (x : Node P R) (l r : Tree P R) → at ns i ≡ Some x → Read ns x.left l
      → Read ns x.right r
      → tidy (height_of (at ns x.left)) (height_of (at ns x.right)) (count_of (at ns x.left))
      (count_of (at ns x.right)) x ≡ true
      → Read ns i (node l i x.place x.join r)
  read_node ns i x l r is yl yr h =
      let w = tidy_says (height_of (at ns x.left)) (height_of (at ns x.right)) (count_of (at ns x.left))
      (count_of (at ns x.right)) x h in
      let tl : height_of (at ns x.left) ≡ tall l = ap (λ j. height_of (at ns j)) yl.root_is
      ∙ holds_tall ns l yl.held in
      let tr : height_of (at ns x.right) ≡ tall r = ap (λ j. height_of (at ns j)) yr.root_is
      ∙ holds_tall ns r yr.held in
      let sl : count_of (at ns x.left) ≡ size l = ap (λ j. count_of (at ns j)) yl.root_is
      ∙ holds_size ns l yl.held in
      let sr : count_of (at ns x.right) ≡ size r = ap (λ j. count_of (at ns j)) yr.root_is
      ∙ holds_size ns r yr.held in
      let e₁ : x.height ≡ 1 + max (tall l) (tall r) = omega arith in
      let e₂ : x.count ≡ 1 + size l + size r = omega arith in
      let e₃ = yl.root_is in
      let e₄ = yr.root_is in
      let same : x ≡ stored l x.place x.join r = λ k. record
      { place = x.place; left = e₃ k; right = e₄ k; height = e₁ k; count = e₂ k; join = x.join } in
      record {
        root_is = refl;
        held = (is ∙ ap (λ z. Some z) same, yl.held, yr.held);
        balanced =
            (yl.balanced, yr.balanced, omega arith, omega arith);
      }

  read_sound : (n : ℕ) (ns : List (Node P R)) (i : ℕ) → sound n ns i ≡ true → Read ns i (read_tree n ns i)
  read_sound zero ns i h = record { root_is = grind (arith, nat_tests); held = tt; balanced = tt }
  read_sound (suc n) ns i h = go (at ns i) refl h (λ k. read_sound n ns k)
    where
      go : (o : Option (Node P R)) → at ns i ≡ o
          → or_else o (eqb i 0) (λ x. tidy (height_of (at ns x.left)) (height_of (at ns x.right))
          (count_of (at ns x.left)) (count_of (at ns x.right)) x &&
          (sound n ns x.left && sound n ns x.right)) ≡ true
          → ((k : ℕ) → sound n ns k ≡ true → Read ns k (read_tree n ns k))
          → Read ns i (or_else o leaf
          (λ x. node (read_tree n ns x.left) i x.place x.join (read_tree n ns x.right)))
      go None is w ih = record { root_is = grind (arith, nat_tests); held = tt; balanced = tt }
      go (Some x) is w ih =
          let a = both (tidy (height_of (at ns x.left)) (height_of (at ns x.right)) (count_of (at ns x.left))
          (count_of (at ns x.right)) x) (sound n ns x.left && sound n ns x.right) w in
          let b = both (sound n ns x.left) (sound n ns x.right) a.1 in
          read_node ns i x (read_tree n ns x.left) (read_tree n ns x.right) is (ih x.left b.0)
          (ih x.right b.1) a.0

  sound_held : (n : ℕ) (ns : List (Node P R)) (t : Tree P R) → tall t ≤ n → Holds ns t → Balanced t
      → sound n ns (root_of t) ≡ true
  sound_held zero ns leaf le h b = refl
  sound_held zero ns (node l s p v r) le h b = absurd (omega arith)
  sound_held (suc n) ns leaf le h b = refl
  sound_held (suc n) ns (node l s p v r) le h b =
      let x : Node P R = stored l p v r in
      let tl = holds_tall ns l h.1 in
      let tr = holds_tall ns r h.2 in
      let sl = holds_size ns l h.1 in
      let sr = holds_size ns r h.2 in
      let e₁ : eqb (1 + max (tall l) (tall r)) (1 + max (height_of (at ns (root_of l))) (height_of (at ns (root_of r))))
      ≡ true = grind (arith, nat_tests) in
      let e₂ : eqb (1 + size l + size r) (1 + count_of (at ns (root_of l)) + count_of (at ns (root_of r))) ≡ true = grind
      (arith, nat_tests) in
      let e₃ : leb (height_of (at ns (root_of l))) (1 + height_of (at ns (root_of r))) ≡ true = grind (arith, nat_tests) in
      let e₄ : leb (height_of (at ns (root_of r))) (1 + height_of (at ns (root_of l))) ≡ true = grind (arith, nat_tests) in
      ap (λ o. or_else o (eqb s 0)
      (λ x. tidy (height_of (at ns x.left)) (height_of (at ns x.right)) (count_of (at ns x.left))
      (count_of (at ns x.right)) x && (sound n ns x.left && sound n ns x.right))) h.0
      ∙ and _ _ (and _ _ e₁ (and _ _ e₂ (and _ _ e₃ e₄)))
      (and _ _ (sound_held n ns l (omega arith) h.1 b.0) (sound_held n ns r (omega arith) h.2 b.1))

  times_past : (ns : List (Node P R)) (t : Tree P R) (j : ℕ) → Holds ns t → length ns ≤ j → times j t ≡ 0
  times_past ns leaf j h le = refl
  times_past ns (node l s p v r) j h le =
      let a = times_past ns l j h.1 le in
      let b = times_past ns r j h.2 le in
      let c = (at_some ns s (stored l p v r) h.0).1 in
      let d : one j s ≡ 0 = grind (arith, nat_tests) in
      omega arith

  pub count_past : (ns : List (Node P R)) (j : ℕ) → length ns ≤ j → count_of (at ns j) ≡ 0
  count_past ns j le = go (at ns j) refl
    where
      go : (o : Option (Node P R)) → at ns j ≡ o → count_of o ≡ 0
      go None is = refl
      go (Some x) is = let w = at_some ns j x is in absurd (omega arith)

  pub mark_past : (ns : List (Node P R)) (j : ℕ) → length ns ≤ j → mark ns j ≡ 0
  mark_past ns j le = let z = count_past ns j le in grind (arith, nat_tests)

  pub mark_one : (ns : List (Node P R)) (j : ℕ) → mark ns j ≤ 1
  mark_one ns j = grind (arith, nat_tests)

  pub mark_high : (ns : List (Node P R)) (j : ℕ) → 4096 ≤ j → mark ns j ≡ 0
  mark_high ns j le = grind (arith, nat_tests)

  -- The check says that the tree is in shape.
  pub shape_of : (ns : List (Node P R)) (root : ℕ) → shaped ns root ≡ true → ShapeAt ns root (tree_in ns root)
  unfolding shaped tree_in
  shape_of ns root h =
      let a = both (sound 32 ns root) (all (length ns) (λ j. eqb (times j (tree_in ns root)) (mark ns j))) h in
      let y = read_sound 32 ns root a.0 in
      record {
        root_is = y.root_is;
        held = y.held;
        balanced = y.balanced;
        marked = λ j. elim (dec_lt j (length ns)) [
          | yes lt ↦ same (times j (read_tree 32 ns root)) (mark ns j)
              (all_at (length ns) (λ i. eqb (times i (read_tree 32 ns root)) (mark ns i)) a.1 j lt)
          | no ge ↦ times_past ns (read_tree 32 ns root) j y.held (omega arith) ∙ sym (mark_past ns j (omega arith))
        ];
      }

  pub shape_few : (ns : List (Node P R)) (root : ℕ) (t : Tree P R) → ShapeAt ns root t → size t ≤ 4095
  shape_few ns root t y =
      few_nodes ns t y.held (λ j. omega (arith, y.marked j, mark_one ns j))
      (λ j le. y.marked j ∙ mark_high ns j le)

  pub shape_tree : (ns : List (Node P R)) (root : ℕ) (t : Tree P R) → ShapeAt ns root t → tree_in ns root ≡ t
  shape_tree ns root t y = tree_is ns root t y.root_is (low t y.balanced (shape_few ns root t y)) y.held

  -- A tree in shape passes the check.
  pub shape_made : (ns : List (Node P R)) (root : ℕ) (t : Tree P R) → ShapeAt ns root t → shaped ns root ≡ true
  unfolding shaped
  shape_made ns root t y =
      let lo = low t y.balanced (shape_few ns root t y) in
      let a : sound 32 ns root ≡ true = ap (sound 32 ns) y.root_is
      ∙ sound_held 32 ns t (omega arith) y.held y.balanced in
      let b : all (length ns) (λ j. eqb (times j (tree_in ns root)) (mark ns j)) ≡ true = all_made (length ns) _
      (λ j lt. tests_same (times j (tree_in ns root)) (mark ns j)
      (ap (times j) (shape_tree ns root t y) ∙ y.marked j)) in
      and (sound 32 ns root) _ a b

  pub shape_root : (ns : List (Node P R)) (root : ℕ) (t : Tree P R) → ShapeAt ns root t → 0 < root → root < length ns
  shape_root ns root leaf y pos = absurd (omega (arith, y.root_is))
  shape_root ns root (node l s p v r) y pos =
      let w = at_some ns s (stored l p v r) y.held.0 in omega (arith, y.root_is)

  pub shape_none : (ns : List (Node P R)) (root : ℕ) (t : Tree P R) → ShapeAt ns root t → root ≡ 0 → size t ≡ 0
  shape_none ns root leaf y is = refl
  shape_none ns root (node l s p v r) y is =
      let w = at_some ns s (stored l p v r) y.held.0 in absurd (omega (arith, y.root_is))

  pub shape_some : (ns : List (Node P R)) (root : ℕ) (t : Tree P R) → ShapeAt ns root t → 0 < size t → 0 < length ns
  shape_some ns root leaf y pos = absurd (omega arith)
  shape_some ns root (node l s p v r) y pos = let w = at_some ns s (stored l p v r) y.held.0 in omega arith

  pub shape_flat : (ns : List (Node P R)) (root : ℕ) (t : Tree P R) → ShapeAt ns root t → root ≡ 0 → tall t ≡ 0
  shape_flat ns root leaf y is = refl
  shape_flat ns root (node l s p v r) y is =
      let w = at_some ns s (stored l p v r) y.held.0 in absurd (omega (arith, y.root_is))
