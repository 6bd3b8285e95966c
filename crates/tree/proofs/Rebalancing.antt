-- Rotations over the slots, and a new entry.
use Rattle.std.proofs.Common.{◌≡◌, ℕ, ◌+◌, ◌<◌, ◌≤◌, Bool, true, false, cond, ltb, List, length, Some, sym, refl, ap, ◌∙◌, subst, arith}
use Rattle.std.proofs.lemmas.Bool.Decides.{nat_tests}
use Rattle.kinds.specs.Rules.{Model}
use Rattle.tree.specs.declared.node.Node.{Node}
use Rattle.tree.specs.Slots.{at, count_of, left_child, right_child, held_place}
use Rattle.tree.specs.Tree.{Tree, leaf, node, linked, tall, stored}
use Rattle.buckets.specs.Rows.{entry, ahead}
use Rattle.tree.specs.Shapes.{rotated_twice, rotated_right, rotated_left, evened, grown}
use Rattle.tree.specs.Contracted.{TwoAt, ThreeAt, EvenAt, GrowAt, Done}
use Rattle.tree.proofs.Held.{at_some, holds_root}
use Rattle.tree.proofs.Writes.{Opened, opened, done_done}
use Rattle.tree.proofs.Balance.{same_even}
use Rattle.tree.proofs.Children.{fewer_left, fewer_right, left_replaced, right_replaced}
use Rattle.tree.proofs.Growing.{larger}

module _ {P R : Type 0} (m : Model P R) where
  module _ {ns : List (Node P R)} {s left right : ℕ} {l r : Tree P R} (y : EvenAt ns s left right l r) where
    -- The left tree taken apart.
    pub open_left : {place : P} {to-left to-right : ℕ} → 0 < left → held_place (at ns left) ≡ Some place
        → to-left ≡ left_child (at ns left) → to-right ≡ right_child (at ns left) → Opened left place to-left to-right l
    open_left pos place_is left_is right_is =
        opened m ns l pos y.two.left_is y.two.held_l place_is left_is right_is

    pub open_right : {place : P} {to-left to-right : ℕ} → 0 < right → held_place (at ns right) ≡ Some place
        → to-left ≡ left_child (at ns right) → to-right ≡ right_child (at ns right) → Opened right place to-left to-right r
    open_right pos place_is left_is right_is =
        opened m ns r pos y.two.right_is y.two.held_r place_is left_is right_is

    pub three_left : {place : P} {to-left to-right : ℕ} → (0 < left) × (left < length ns)
        → (o : Opened left place to-left to-right l) → ThreeAt ns left s to-left to-right right o.d o.e r
    three_left root o =
        let z = subst (λ t. EvenAt ns s left right t r) o.is y in
        record {
          a_is = o.left_is;
          b_is = o.right_is;
          c_is = z.two.right_is;
          held_a = z.two.held_l.1;
          held_b = z.two.held_l.2;
          held_c = z.two.held_r;
          apart = λ j. omega (arith, z.two.apart j);
          pos_s = root.0;
          pos_k = z.two.pos;
          within_s = root.1;
          within_k = z.two.within;
          few = omega arith;
          low_a = omega arith;
          low_b = omega arith;
          low_c = omega arith;
        }

    pub three_right : {place : P} {to-left to-right : ℕ} → (0 < right) × (right < length ns)
        → (o : Opened right place to-left to-right r) → ThreeAt ns s right left to-left to-right l o.d o.e
    three_right root o =
        let z = subst (λ t. EvenAt ns s left right l t) o.is y in
        record {
          a_is = z.two.left_is;
          b_is = o.left_is;
          c_is = o.right_is;
          held_a = z.two.held_l;
          held_b = z.two.held_r.1;
          held_c = z.two.held_r.2;
          apart = λ j. omega (arith, z.two.apart j);
          pos_s = z.two.pos;
          pos_k = root.0;
          within_s = z.two.within;
          within_k = root.1;
          few = omega arith;
          low_a = omega arith;
          low_b = omega arith;
          low_c = omega arith;
        }

  -- Which rotation a test picks.
  pub right_is_both : {i : ℕ} {place : P} {to-left to-right : ℕ} (l : Tree P R) (o : Opened i place to-left to-right l)
      (k : ℕ) (q : P) (c : Tree P R)
      → tall o.d < tall o.e → rotated_right m l k q c ≡ rotated_twice m o.d i place o.e k q c
  right_is_both {i} {place} {to-left} {to-right} l o k q c lt =
      let test : ltb (tall o.d) (tall o.e) ≡ true = grind (arith, nat_tests) in
      ap (λ t. rotated_right m t k q c) o.is
      ∙ ap (λ b. cond b (rotated_twice m o.d i place o.e k q c)
      (linked m o.d i place (linked m o.e k q c))) test

  pub right_is_once : {i : ℕ} {place : P} {to-left to-right : ℕ} (l : Tree P R) (o : Opened i place to-left to-right l)
      (k : ℕ) (q : P) (c : Tree P R)
      → tall o.e ≤ tall o.d → rotated_right m l k q c ≡ linked m o.d i place (linked m o.e k q c)
  right_is_once {i} {place} {to-left} {to-right} l o k q c ge =
      let test : ltb (tall o.d) (tall o.e) ≡ false = grind (arith, nat_tests) in
      ap (λ t. rotated_right m t k q c) o.is
      ∙ ap (λ b. cond b (rotated_twice m o.d i place o.e k q c)
      (linked m o.d i place (linked m o.e k q c))) test

  pub left_is_both : {i : ℕ} {place : P} {to-left to-right : ℕ} (r : Tree P R) (o : Opened i place to-left to-right r)
      (a : Tree P R) (s : ℕ) (p : P)
      → tall o.e < tall o.d → rotated_left m a s p r ≡ rotated_twice m a s p o.d i place o.e
  left_is_both {i} {place} {to-left} {to-right} r o a s p lt =
      let test : ltb (tall o.e) (tall o.d) ≡ true = grind (arith, nat_tests) in
      ap (λ t. rotated_left m a s p t) o.is
      ∙ ap (λ b. cond b (rotated_twice m a s p o.d i place o.e)
      (linked m (linked m a s p o.d) i place o.e)) test

  pub left_is_once : {i : ℕ} {place : P} {to-left to-right : ℕ} (r : Tree P R) (o : Opened i place to-left to-right r)
      (a : Tree P R) (s : ℕ) (p : P)
      → tall o.d ≤ tall o.e → rotated_left m a s p r ≡ linked m (linked m a s p o.d) i place o.e
  left_is_once {i} {place} {to-left} {to-right} r o a s p ge =
      let test : ltb (tall o.e) (tall o.d) ≡ false = grind (arith, nat_tests) in
      ap (λ t. rotated_left m a s p t) o.is
      ∙ ap (λ b. cond b (rotated_twice m a s p o.d i place o.e)
      (linked m (linked m a s p o.d) i place o.e)) test

  pub done_at : {n₀ n₁ : List (Node P R)} {x : ℕ} {t u : Tree P R} → t ≡ u → Done n₀ n₁ x u → Done n₀ n₁ x t
  done_at {n₀} {n₁} {x} e d = subst (λ v. Done n₀ n₁ x v) (sym e) d

module _ {P R : Type 0} (m : Model P R) (l : Tree P R) (s : ℕ) (p : P) (r : Tree P R) where
  pub even_right : tall r + 1 < tall l → evened m l s p r ≡ rotated_right m l s p r
  even_right lt =
      let test : ltb (1 + tall r) (tall l) ≡ true = grind (arith, nat_tests) in
      ap (λ b. cond b (rotated_right m l s p r)
      (cond (ltb (1 + tall l) (tall r)) (rotated_left m l s p r) (linked m l s p r))) test

  pub even_left : tall l + 1 < tall r → evened m l s p r ≡ rotated_left m l s p r
  even_left lt =
      let test : ltb (1 + tall r) (tall l) ≡ false = grind (arith, nat_tests) in
      let test₂ : ltb (1 + tall l) (tall r) ≡ true = grind (arith, nat_tests) in
      ap (λ b. cond b (rotated_right m l s p r)
      (cond (ltb (1 + tall l) (tall r)) (rotated_left m l s p r) (linked m l s p r))) test
      ∙ ap (λ b. cond b (rotated_left m l s p r) (linked m l s p r)) test₂

  pub even_plain : tall l ≤ tall r + 1 → tall r ≤ tall l + 1 → evened m l s p r ≡ linked m l s p r
  even_plain a b =
      let test : ltb (1 + tall r) (tall l) ≡ false = grind (arith, nat_tests) in
      let test₂ : ltb (1 + tall l) (tall r) ≡ false = grind (arith, nat_tests) in
      ap (λ b. cond b (rotated_right m l s p r)
      (cond (ltb (1 + tall l) (tall r)) (rotated_left m l s p r) (linked m l s p r))) test
      ∙ ap (λ b. cond b (rotated_left m l s p r) (linked m l s p r)) test₂

module _ {P R : Type 0} (m : Model P R) (p : P) where
  module _ {ns : List (Node P R)} {s root : ℕ} {t : Tree P R} (y : GrowAt ns s root t) where
    pub grow_root : (root ≡ 0 → ⊥) → (0 < root) × (root < length ns)
    grow_root ne = (omega arith, rw y.root_is (holds_root ns t (omega arith) y.held))

    pub grow_open : {place : P} {to-left to-right : ℕ} → (root ≡ 0 → ⊥) → held_place (at ns root) ≡ Some place
        → to-left ≡ left_child (at ns root) → to-right ≡ right_child (at ns root) → Opened root place to-left to-right t
    grow_open ne place_is left_is right_is =
        opened m ns t (omega arith) y.root_is y.held place_is left_is right_is

    module _ {place : P} {to-left to-right : ℕ} (o : Opened root place to-left to-right t) where
      grow_at : GrowAt ns s root (node o.d root place o.v o.e)
      grow_at = subst (λ v. GrowAt ns s root v) o.is y

      grow_left : GrowAt ns s to-left o.d
      grow_left =
          let z = grow_at in
          record {
            root_is = o.left_is;
            held = z.held.1;
            apart = λ j. omega (arith, z.apart j);
            pos = y.pos;
            within = y.within;
            few = omega arith;
            balanced = z.balanced.0;
          }

      grow_right : GrowAt ns s to-right o.e
      grow_right =
          let z = grow_at in
          record {
            root_is = o.right_is;
            held = z.held.2;
            apart = λ j. omega (arith, z.apart j);
            pos = y.pos;
            within = y.within;
            few = omega arith;
            balanced = z.balanced.1;
          }

      after_left : (n₁ : List (Node P R)) (left : ℕ) → length n₁ ≡ length ns → Done ns n₁ left (grown m p s o.d)
          → EvenAt n₁ root left to-right (grown m p s o.d) o.e
      after_left n₁ left long f =
          let z = grow_at in
          let w = larger m p s o.d z.balanced.0 in
          left_replaced m ns y.held y.balanced o (grown m p s o.d) n₁ left w.balanced
          (λ j. omega (arith, z.apart j, w.slots j)) (omega arith) long f

      after_right : (n₁ : List (Node P R)) (right : ℕ) → length n₁ ≡ length ns → Done ns n₁ right (grown m p s o.e)
          → EvenAt n₁ root to-left right o.d (grown m p s o.e)
      after_right n₁ right long f =
          let z = grow_at in
          let w = larger m p s o.e z.balanced.1 in
          right_replaced m ns y.held y.balanced o (grown m p s o.e) n₁ right w.balanced
          (λ j. omega (arith, z.apart j, w.slots j)) (omega arith) long f

      end_left : {n₁ n₂ : List (Node P R)} {left res : ℕ} → ahead m (entry s p) (entry root place) ≡ true
          → Done ns n₁ left (grown m p s o.d) → Done n₁ n₂ res (evened m (grown m p s o.d) root place o.e)
          → Done ns n₂ res (grown m p s t)
      end_left test f h =
          done_at m (ap (grown m p s) o.is
          ∙ ap (λ b. cond b (evened m (grown m p s o.d) root place o.e)
          (evened m o.d root place (grown m p s o.e))) test)
          (done_done m f h (λ j z. omega (arith, (same_even m (grown m p s o.d) root place o.e).slots j)))

      end_right : {n₁ n₂ : List (Node P R)} {right res : ℕ} → ahead m (entry s p) (entry root place) ≡ false
          → Done ns n₁ right (grown m p s o.e) → Done n₁ n₂ res (evened m o.d root place (grown m p s o.e))
          → Done ns n₂ res (grown m p s t)
      end_right test f h =
          done_at m (ap (grown m p s) o.is
          ∙ ap (λ b. cond b (evened m (grown m p s o.d) root place o.e)
          (evened m o.d root place (grown m p s o.e))) test)
          (done_done m f h (λ j z. omega (arith, (same_even m o.d root place (grown m p s o.e)).slots j)))

      -- The child that a test picks.
      pub grow_child : (b : Bool) {child : ℕ} → child ≡ cond b to-left to-right
          → GrowAt ns s child (cond b o.d o.e)
      grow_child true is = subst (λ i. GrowAt ns s i o.d) (sym is) grow_left
      grow_child false is = subst (λ i. GrowAt ns s i o.e) (sym is) grow_right

      pub fewer_child : (b : Bool) {child : ℕ} → child ≡ cond b to-left to-right → (x : ℕ) → count_of (at ns root) ≡ x
          → count_of (at ns child) < x
      fewer_child true is x e =
          subst (λ i. count_of (at ns i) < x) (sym is) (fewer_left m ns y.held y.balanced o x e)
      fewer_child false is x e =
          subst (λ i. count_of (at ns i) < x) (sym is) (fewer_right m ns y.held y.balanced o x e)

      pub after_child : (b : Bool) (n₁ : List (Node P R)) (new : ℕ) {left right : ℕ} → left ≡ cond b new to-left
          → right ≡ cond b to-right new → length n₁ ≡ length ns → Done ns n₁ new (grown m p s (cond b o.d o.e))
          → EvenAt n₁ root left right (cond b (grown m p s o.d) o.d) (cond b o.e (grown m p s o.e))
      after_child true n₁ new {left} {right} is-l is-r long f =
          subst (λ i. EvenAt n₁ root i right (grown m p s o.d) o.e) (sym is-l)
          (subst (λ i. EvenAt n₁ root new i (grown m p s o.d) o.e) (sym is-r) (after_left n₁ new long f))
      after_child false n₁ new {left} {right} is-l is-r long f =
          subst (λ i. EvenAt n₁ root i right o.d (grown m p s o.e)) (sym is-l)
          (subst (λ i. EvenAt n₁ root to-left i o.d (grown m p s o.e)) (sym is-r) (after_right n₁ new long f))

      pub end_child : (b : Bool) → ahead m (entry s p) (entry root place) ≡ b → {n₁ n₂ : List (Node P R)} {new res : ℕ}
          → Done ns n₁ new (grown m p s (cond b o.d o.e))
          → Done n₁ n₂ res (evened m (cond b (grown m p s o.d) o.d) root place
          (cond b o.e (grown m p s o.e)))
          → Done ns n₂ res (grown m p s t)
      end_child true test f h = end_left test f h
      end_child false test f h = end_right test f h

  -- A new entry in an empty tree.
  pub end_leaf : {ns n₁ : List (Node P R)} {s root : ℕ} (t : Tree P R) → root ≡ 0 → GrowAt ns s root t
      → Done ns n₁ s (linked m leaf s p leaf) → Done ns n₁ s (grown m p s t)
  end_leaf leaf is y d = d
  end_leaf {ns} (node l k q v r) is y d =
      let x = at_some ns k (stored l q v r) y.held.0 in absurd (omega (arith, y.root_is))

  pub leaf_two : {ns : List (Node P R)} {s root : ℕ} {t : Tree P R} → GrowAt ns s root t → TwoAt ns s 0 0 leaf leaf
  leaf_two y =
      record {
        left_is = refl;
        right_is = refl;
        held_l = tt;
        held_r = tt;
        apart = λ j. omega (arith, y.apart j);
        pos =
            y.pos;
        within = y.within;
        few = omega arith;
        low_l = omega arith;
        low_r = omega arith;
      }
