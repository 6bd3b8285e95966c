-- A node one of whose two trees was replaced.
use Rattle.std.proofs.Common.{◌≡◌, ℕ, ◌+◌, ◌<◌, ◌≤◌, List, length, ap, ◌∙◌, subst, arith}
use Rattle.kinds.specs.Rules.{Model}
use Rattle.tree.specs.declared.node.Node.{Node}
use Rattle.tree.specs.Slots.{at, count_of}
use Rattle.tree.specs.Tree.{Tree, node, size, times, Balanced, Holds}
use Rattle.tree.specs.Contracted.{one, EvenAt, Done}
use Rattle.tree.proofs.Held.{at_some, holds_size}
use Rattle.tree.proofs.Writes.{Opened, still}
use Rattle.tree.proofs.Balance.{low}

module _ {P R : Type 0} (m : Model P R) (ns : List (Node P R)) {root : ℕ} {t : Tree P R} {place : P}
    {to-left to-right : ℕ} (h : Holds ns t) (b : Balanced t) (o : Opened root place to-left to-right t) where
  node_held : Holds ns (node o.d root place o.v o.e)
  node_held = subst (λ u. Holds ns u) o.is h

  node_balanced : Balanced (node o.d root place o.v o.e)
  node_balanced = subst (λ u. Balanced u) o.is b

  pub fewer_left : (x : ℕ) → count_of (at ns root) ≡ x → count_of (at ns to-left) < x
  fewer_left x is =
      let a = ap (λ j. count_of (at ns j)) o.left_is ∙ holds_size ns o.d node_held.1 in
      let c = ap count_of node_held.0 in
      omega arith

  pub fewer_right : (x : ℕ) → count_of (at ns root) ≡ x → count_of (at ns to-right) < x
  fewer_right x is =
      let a = ap (λ j. count_of (at ns j)) o.right_is ∙ holds_size ns o.e node_held.2 in
      let c = ap count_of node_held.0 in
      omega arith

  pub left_replaced : (u : Tree P R) (n₁ : List (Node P R)) (new : ℕ) → Balanced u
      → ((j : ℕ) → times j u + one j root + times j o.e ≤ 1) → 1 + size u + size o.e ≤ 4095
      → length n₁ ≡ length ns → Done ns n₁ new u → EvenAt n₁ root new to-right u o.e
  left_replaced u n₁ new balanced apart few long f =
      let in-root = at_some ns root _ node_held.0 in
      let lo = low u balanced (omega arith) in
      let lo₂ = low o.e node_balanced.1 (omega arith) in
      record {
        two = record {
          left_is = f.root;
          right_is = o.right_is;
          held_l = f.held;
          held_r = still m f o.e (λ j lt. omega (arith, apart j)) node_held.2;
          apart = apart;
          pos = in-root.0;
          within = omega arith;
          few = few;
          low_l = omega arith;
          low_r = omega arith;
        };
        short_l = omega arith;
        short_r = omega arith;
      }

  pub right_replaced : (u : Tree P R) (n₁ : List (Node P R)) (new : ℕ) → Balanced u
      → ((j : ℕ) → times j o.d + one j root + times j u ≤ 1) → 1 + size o.d + size u ≤ 4095
      → length n₁ ≡ length ns → Done ns n₁ new u → EvenAt n₁ root to-left new o.d u
  right_replaced u n₁ new balanced apart few long f =
      let in-root = at_some ns root _ node_held.0 in
      let lo = low u balanced (omega arith) in
      let lo₂ = low o.d node_balanced.0 (omega arith) in
      record {
        two = record {
          left_is = o.left_is;
          right_is = f.root;
          held_r = f.held;
          held_l = still m f o.d (λ j lt. omega (arith, apart j)) node_held.1;
          apart = apart;
          pos = in-root.0;
          within = omega arith;
          few = few;
          low_l = omega arith;
          low_r = omega arith;
        };
        short_l = omega arith;
        short_r = omega arith;
      }
