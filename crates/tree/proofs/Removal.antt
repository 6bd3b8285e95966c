-- Taking entries out, over the slots.
use Rattle.std.proofs.Common.{◌≡◌, ℕ, ◌<◌, Bool, true, false, cond, eqb, List, length, Some, sym, refl, ap, ◌∙◌, subst, arith}
use Rattle.std.proofs.lemmas.Bool.Decides.{nat_tests}
use Rattle.kinds.specs.Rules.{Model}
use Rattle.tree.specs.declared.node.Node.{Node}
use Rattle.tree.specs.Slots.{at, count_of, left_child, right_child, held_place}
use Rattle.tree.specs.Tree.{Tree, leaf, node, root_of, stored, Balanced, Holds}
use Rattle.buckets.specs.Rows.{entry, ahead}
use Rattle.tree.specs.Shapes.{evened, head_slot, head_place, pull, pulled, first_slot, fused, shrunk}
use Rattle.tree.specs.Contracted.{EvenAt, TreeAt, PairAt, Done}
use Rattle.tree.proofs.Held.{at_some, holds_root}
use Rattle.tree.proofs.Writes.{Opened, opened, done_done, still}
use Rattle.tree.proofs.Balance.{low, same_even}
use Rattle.tree.proofs.Children.{fewer_left, fewer_right, left_replaced, right_replaced}
use Rattle.tree.proofs.Rebalancing.{done_at}
use Rattle.tree.proofs.Shrinking.{Smaller, headed}

module _ {P R : Type 0} (m : Model P R) where
  held_open : {ns : List (Node P R)} {root to-left : ℕ} (t : Tree P R) → TreeAt ns root t → 0 < root
      → to-left ≡ left_child (at ns root) → (place : P) × Opened root place to-left (right_child (at ns root)) t
  held_open leaf y pos left_is = absurd (omega (arith, y.root_is))
  held_open {ns} (node l s p v r) y pos left_is = (
    p,
    opened m ns (node l s p v r) pos y.root_is y.held
        (ap (λ i. held_place (at ns i)) y.root_is ∙ ap held_place y.held.0) left_is refl,
  )

  module _ {ns : List (Node P R)} {root : ℕ} {t : Tree P R} (y : TreeAt ns root t) where
    pub tree_root : 0 < root → (0 < root) × (root < length ns)
    tree_root pos = (pos, rw y.root_is (holds_root ns t y.some y.held))

    pub tree_open : {place : P} {to-left to-right : ℕ} → 0 < root → held_place (at ns root) ≡ Some place
        → to-left ≡ left_child (at ns root) → to-right ≡ right_child (at ns root) → Opened root place to-left to-right t
    tree_open pos place_is left_is right_is = opened m ns t pos y.root_is y.held place_is left_is right_is

    -- The tree at a root whose left child alone was read.
    pub tree_open_left : {to-left : ℕ} → 0 < root → to-left ≡ left_child (at ns root)
        → (place : P) × Opened root place to-left (right_child (at ns root)) t
    tree_open_left pos left_is = held_open t y pos left_is

    module _ {place : P} {to-left to-right : ℕ} (o : Opened root place to-left to-right t) where
      pub tree_at : TreeAt ns root (node o.d root place o.v o.e)
      tree_at = subst (λ v. TreeAt ns root v) o.is y

      pub tree_left : TreeAt ns to-left o.d
      tree_left =
          let z = tree_at in
          record {
            root_is = o.left_is;
            held = z.held.1;
            apart = λ j. omega (arith, z.apart j);
            few = omega arith;
            balanced = z.balanced.0;
            some = y.some;
          }

      pub tree_right : TreeAt ns to-right o.e
      tree_right =
          let z = tree_at in
          record {
            root_is = o.right_is;
            held = z.held.2;
            apart = λ j. omega (arith, z.apart j);
            few = omega arith;
            balanced = z.balanced.1;
            some = y.some;
          }

      pub less_left : (x : ℕ) → count_of (at ns root) ≡ x → count_of (at ns to-left) < x
      less_left = fewer_left m ns y.held y.balanced o

      pub less_right : (x : ℕ) → count_of (at ns root) ≡ x → count_of (at ns to-right) < x
      less_right = fewer_right m ns y.held y.balanced o

      -- After the left tree became u.
      pub left_became : (u : Tree P R) (n₁ : List (Node P R)) (left : ℕ) → Smaller o.d u → length n₁ ≡ length ns
          → Done ns n₁ left u → EvenAt n₁ root left to-right u o.e
      left_became u n₁ left w long f =
          let z = tree_at in
          left_replaced m ns y.held y.balanced o u n₁ left w.balanced
          (λ j. omega (arith, z.apart j, w.slots j)) (omega (arith, w.sizes)) long f

      right_became : (u : Tree P R) (n₁ : List (Node P R)) (right : ℕ) → Smaller o.e u → length n₁ ≡ length ns
          → Done ns n₁ right u → EvenAt n₁ root to-left right o.d u
      right_became u n₁ right w long f =
          let z = tree_at in
          right_replaced m ns y.held y.balanced o u n₁ right w.balanced
          (λ j. omega (arith, z.apart j, w.slots j)) (omega (arith, w.sizes)) long f

      -- The child that a test picks.
      pub tree_child : (b : Bool) {child : ℕ} → child ≡ cond b to-left to-right → TreeAt ns child (cond b o.d o.e)
      tree_child true is = subst (λ i. TreeAt ns i o.d) (sym is) tree_left
      tree_child false is = subst (λ i. TreeAt ns i o.e) (sym is) tree_right

      pub less_child : (b : Bool) {child : ℕ} → child ≡ cond b to-left to-right → (x : ℕ) → count_of (at ns root) ≡ x
          → count_of (at ns child) < x
      less_child true is x e = subst (λ i. count_of (at ns i) < x) (sym is) (less_left x e)
      less_child false is x e = subst (λ i. count_of (at ns i) < x) (sym is) (less_right x e)

      pub child_became : (b : Bool) (u : Tree P R) (n₁ : List (Node P R)) (new : ℕ) {left right : ℕ}
          → left ≡ cond b new to-left → right ≡ cond b to-right new → Smaller (cond b o.d o.e) u
          → length n₁ ≡ length ns → Done ns n₁ new u → EvenAt n₁ root left right (cond b u o.d) (cond b o.e u)
      child_became true u n₁ new {left} {right} is-l is-r w long f =
          subst (λ i. EvenAt n₁ root i right u o.e) (sym is-l)
          (subst (λ i. EvenAt n₁ root new i u o.e) (sym is-r) (left_became u n₁ new w long f))
      child_became false u n₁ new {left} {right} is-l is-r w long f =
          subst (λ i. EvenAt n₁ root i right o.d u) (sym is-l)
          (subst (λ i. EvenAt n₁ root to-left i o.d u) (sym is-r) (right_became u n₁ new w long f))

  -- A change of one child, and then of the node.
  pub then_left : {ns n₁ n₂ : List (Node P R)} {left res : ℕ} (u r : Tree P R) (k : ℕ) (q : P) → Done ns n₁ left u
      → Done n₁ n₂ res (evened m u k q r) → Done ns n₂ res (evened m u k q r)
  then_left u r k q f h = done_done m f h (λ j z. omega (arith, (same_even m u k q r).slots j))

  pub then_right : {ns n₁ n₂ : List (Node P R)} {right res : ℕ} (l u : Tree P R) (k : ℕ) (q : P) → Done ns n₁ right u
      → Done n₁ n₂ res (evened m l k q u) → Done ns n₂ res (evened m l k q u)
  then_right l u k q f h = done_done m f h (λ j z. omega (arith, (same_even m l k q u).slots j))

  pub then_child : (b : Bool) {ns n₁ n₂ : List (Node P R)} {new res : ℕ} (l u r : Tree P R) (k : ℕ) (q : P)
      → Done ns n₁ new u → Done n₁ n₂ res (evened m (cond b u l) k q (cond b r u))
      → Done ns n₂ res (evened m (cond b u l) k q (cond b r u))
  then_child true l u r k q f h = then_left u r k q f h
  then_child false l u r k q f h = then_right l u k q f h

  -- The first entry, where there is no left tree, and where there is one.
  pub first_here : (a : Tree P R) (k : ℕ) (q : P) (b : Tree P R) → 0 ≡ root_of a → (ns : List (Node P R)) → Holds ns a
      → (head_slot a k ≡ k) × (pull m a k q b ≡ b)
  first_here leaf k q b is ns h = (refl, refl)
  first_here (node c i o v d) k q b is ns h = let x = at_some ns i (stored c o v d) h.0 in absurd (omega arith)

  pub first_left : (a : Tree P R) (k : ℕ) (q : P) (b : Tree P R) → (root_of a ≡ 0 → ⊥)
      → (head_slot a k ≡ first_slot a) × (pull m a k q b ≡ evened m (pulled m a) k q b)
  first_left leaf k q b ne = absurd (ne refl)
  first_left (node c i o v d) k q b ne = (refl, refl)

  -- The first node below, as it is held.
  head_held : (ns : List (Node P R)) (a : Tree P R) (k : ℕ) (q : P) (v : R) (b : Tree P R) → Holds ns (node a k q v b)
      → (h : Node P R) × (at ns (head_slot a k) ≡ Some h) × (h.place ≡ head_place a q)
  head_held ns leaf k q v b held = (stored leaf q v b, held.0, refl)
  head_held ns (node c i o w d) k q v b held = head_held ns c i o w d held.1

  pub head_in : {ns : List (Node P R)} {right : ℕ} (r : Tree P R) → TreeAt ns right r → 0 < right → (first : ℕ)
      → first ≡ first_slot r → (0 < first) × (first < length ns)
  head_in leaf y pos first is = absurd (omega (arith, y.root_is))
  head_in {ns} (node a k q v b) y pos first is =
      let h = head_held ns a k q v b y.held in
      let w = at_some ns (head_slot a k) h.0 h.1 in
      rw is w

  pub fuse_even : {ns : List (Node P R)} {left right : ℕ} (l r : Tree P R) → PairAt ns left right l r → 0 < right
      → (first : ℕ) → first ≡ first_slot r → (n₁ : List (Node P R)) (rest : ℕ) → length n₁ ≡ length ns
      → Done ns n₁ rest (pulled m r) → EvenAt n₁ first left rest l (pulled m r)
  fuse_even l leaf y pos first is n₁ rest long f = absurd (omega (arith, y.tree_r.root_is))
  fuse_even {ns} l (node a k q v b) y pos first is n₁ rest long f =
      let w = headed m a k q v b y.tree_r.balanced in
      let i = head_in (node a k q v b) y.tree_r pos first is in
      let lo = low l y.tree_l.balanced (omega arith) in
      let lo₂ = low (pull m a k q b) w.smaller.balanced (omega (arith, w.sizes)) in
      record {
        two = record {
          left_is = y.tree_l.root_is;
          right_is = f.root;
          held_l = still m f l (λ j lt. omega (arith, y.apart j, w.slots j)) y.tree_l.held;
          held_r = f.held;
          apart = λ j. rw is (omega (arith, y.apart j, w.slots j));
          pos = i.0;
          within = omega arith;
          few = omega (arith, w.sizes);
          low_l = omega arith;
          low_r = omega arith;
        };
        short_l = omega arith;
        short_r = omega arith;
      }

  pub fuse_end : {ns n₁ n₂ : List (Node P R)} {left right : ℕ} (l r : Tree P R) → PairAt ns left right l r → 0 < right
      → (first : ℕ) (place : P) → first ≡ first_slot r → held_place (at ns first) ≡ Some place → {rest res : ℕ}
      → Done ns n₁ rest (pulled m r) → Done n₁ n₂ res (evened m l first place (pulled m r))
      → Done ns n₂ res (fused m l r)
  fuse_end l leaf y pos first place is read f h = absurd (omega (arith, y.tree_r.root_is))
  fuse_end {ns} l (node a k q v b) y pos first place is read f h =
      let e = head_held ns a k q v b y.tree_r.held in
      let found : Some place ≡ Some e.0.place = sym read ∙ ap (λ i. held_place (at ns i)) is ∙ ap held_place e.1 in
      let same : place ≡ head_place a q = cc e.2 in
      done_at m (ap (λ i. evened m l i (head_place a q) (pull m a k q b)) (sym is)
      ∙ ap (λ o. evened m l first o (pull m a k q b)) (sym same))
      (then_right l (pull m a k q b) first place f h)

  pub first_is : {ns : List (Node P R)} {root : ℕ} {t : Tree P R} {place : P} {to-left to-right : ℕ} → TreeAt ns root t
      → (o : Opened root place to-left to-right t) → (to-left ≡ 0 → ⊥) → (x : ℕ) → x ≡ first_slot o.d
      → x ≡ first_slot t
  first_is {root = root} {place = place} y o ne x is =
      let w = first_left o.d root place o.e (λ e. ne (o.left_is ∙ e)) in
      is ∙ sym w.0 ∙ ap first_slot (sym o.is)

  pub pulled_is : {ns : List (Node P R)} {root : ℕ} {t : Tree P R} {place : P} {to-left to-right : ℕ} → TreeAt ns root t
      → (o : Opened root place to-left to-right t) → (to-left ≡ 0 → ⊥)
      → pulled m t ≡ evened m (pulled m o.d) root place o.e
  pulled_is {root = root} {place = place} y o ne =
      let w = first_left o.d root place o.e (λ e. ne (o.left_is ∙ e)) in
      ap (pulled m) o.is ∙ w.1

  pub smaller_pulled : (t : Tree P R) → Balanced t → Smaller t (pulled m t)
  smaller_pulled leaf b =
      record { balanced = tt; low = omega arith; high = omega arith; slots = λ j. omega arith; sizes = omega arith }
  smaller_pulled (node a k q v b) h = (headed m a k q v b h).smaller

  pub tree_pair : {ns : List (Node P R)} {root : ℕ} {t : Tree P R} {place : P} {to-left to-right : ℕ} → TreeAt ns root t
      → (o : Opened root place to-left to-right t) → PairAt ns to-left to-right o.d o.e
  tree_pair y o =
      let z = tree_at y o in
      record {
        tree_l = tree_left y o;
        tree_r = tree_right y o;
        apart = λ j. omega (arith, z.apart j);
        few = omega
            arith;
        near_l = z.balanced.2;
        near_r = z.balanced.3;
      }

module _ {P R : Type 0} (m : Model P R) (p : P) (s : ℕ) where
  module _ {root : ℕ} {place : P} {to-left to-right : ℕ} (t : Tree P R) (o : Opened root place to-left to-right t) where
    abbrev ways : Bool → Bool → Tree P R
    ways b c =
        cond b (fused m o.d o.e)
        (cond c (evened m (shrunk m p s o.d) root place o.e) (evened m o.d root place (shrunk m p s o.e)))

    pub shrunk_here : s ≡ root → shrunk m p s t ≡ fused m o.d o.e
    shrunk_here is =
        let test : eqb s root ≡ true = grind (arith, nat_tests) in
        ap (shrunk m p s) o.is ∙ ap (λ b. ways b (ahead m (entry s p) (entry root place))) test

    shrunk_left : (s ≡ root → ⊥) → ahead m (entry s p) (entry root place) ≡ true
        → shrunk m p s t ≡ evened m (shrunk m p s o.d) root place o.e
    shrunk_left ne is =
        let test : eqb s root ≡ false = grind (arith, nat_tests) in
        ap (shrunk m p s) o.is ∙ ap (λ b. ways b (ahead m (entry s p) (entry root place))) test
        ∙ ap (λ c. ways false c) is

    shrunk_right : (s ≡ root → ⊥) → ahead m (entry s p) (entry root place) ≡ false
        → shrunk m p s t ≡ evened m o.d root place (shrunk m p s o.e)
    shrunk_right ne is =
        let test : eqb s root ≡ false = grind (arith, nat_tests) in
        ap (shrunk m p s) o.is ∙ ap (λ b. ways b (ahead m (entry s p) (entry root place))) test
        ∙ ap (λ c. ways false c) is

    pub shrunk_child : (b : Bool) → (s ≡ root → ⊥) → ahead m (entry s p) (entry root place) ≡ b
        → shrunk m p s t ≡ evened m (cond b (shrunk m p s (cond b o.d o.e)) o.d) root place
        (cond b o.e (shrunk m p s (cond b o.d o.e)))
    shrunk_child true ne is = shrunk_left ne is
    shrunk_child false ne is = shrunk_right ne is
