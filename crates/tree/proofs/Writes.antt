-- What one, two or three writes make of the trees below them.
use Rattle.std.proofs.Common.{◌≡◌, ℕ, ◌<◌, List, length, set, Some, sym, refl, ap, ◌∙◌, subst, ap₂, arith}
use Rattle.std.proofs.lemmas.Bool.Decides.{nat_tests}
use Rattle.kinds.specs.Rules.{Model}
use Rattle.tree.specs.declared.node.Node.{Node}
use Rattle.tree.specs.Slots.{at, left_child, right_child, held_place, made}
use Rattle.tree.specs.Tree.{Tree, leaf, node, linked, root_of, stored, times, Holds}
use Rattle.tree.specs.Contracted.{one, Room, TwoAt, ThreeAt, Done}
use Rattle.tree.proofs.Held.{nth_set_other, at_nth, at_some, holds_frame, holds_tall, holds_size, holds_root, holds_link}

pub one_same : (s : ℕ) → one s s ≡ 1
one_same s = grind (arith, nat_tests)

pub one_other : (j s : ℕ) → (j ≡ s → ⊥) → one j s ≡ 0
one_other j s ne = grind (arith, nat_tests)

module _ {P R : Type 0} (m : Model P R) where
  pub room : {ns : List (Node P R)} {s left right : ℕ} {l r : Tree P R} → TwoAt ns s left right l r
      → Room ns s left right
  room {ns} {s} {left} {right} {l} {r} y =
      let tl = holds_tall ns l y.held_l in
      let tr = holds_tall ns r y.held_r in
      let sl = holds_size ns l y.held_l in
      let sr = holds_size ns r y.held_r in
      let pos : 0 < length ns = omega arith in
      let il = holds_root ns l pos y.held_l in
      let ir = holds_root ns r pos y.held_r in
      rw (y.left_is, y.right_is)
      (record {
        within = y.within;
        within_l = il;
        within_r = ir;
        low_l = omega arith;
        low_r = omega arith;
        few = omega
            arith;
      })

  pub planted : {ns : List (Node P R)} (ms : List (Node P R)) (p : P) {s left right : ℕ} {l r : Tree P R}
      → ms ≡ set ns s (made m ns p left right) → TwoAt ns s left right l r → Done ns ms s (linked m l s p r)
  planted {ns} ms p {s} {left} {right} {l} {r} is y =
      let al : times s l ≡ 0 = omega (arith, y.apart s, one_same s) in
      let ar : times s r ≡ 0 = omega (arith, y.apart s, one_same s) in
      record {
        held = subst (λ n. Holds n (linked m l s p r))
            (sym (is ∙ ap₂ (λ i j. set ns s (made m ns p i j)) y.left_is y.right_is))
            (holds_link m ns l s p r y.pos y.within al ar y.held_l y.held_r);
        root = refl;
        kept = λ j z. rw is (nth_set_other ns s j _ (λ e. grind (arith, nat_tests)));
      }

  pub done_done : {n₀ n₁ n₂ : List (Node P R)} {x y : ℕ} {t u : Tree P R} → Done n₀ n₁ x t → Done n₁ n₂ y u
      → ((j : ℕ) → times j u ≡ 0 → times j t ≡ 0) → Done n₀ n₂ y u
  done_done f g sub = record { held = g.held; root = g.root; kept = λ j z. g.kept j z ∙ f.kept j (sub j z) }

  -- A tree apart from what was written is still held.
  pub still : {n₀ n₁ : List (Node P R)} {x : ℕ} {t : Tree P R} → Done n₀ n₁ x t → (u : Tree P R)
      → ((j : ℕ) → 0 < times j u → times j t ≡ 0) → Holds n₀ u → Holds n₁ u
  still {n₀} {n₁} d u away h = holds_frame n₀ n₁ u (λ j lt. at_nth n₀ n₁ j (d.kept j (away j lt))) h

  module _ {ns : List (Node P R)} {s k ia ib ic : ℕ} {a b c : Tree P R} (y : ThreeAt ns s k ia ib ic a b c) where
    pub right_first : TwoAt ns k ib ic b c
    right_first =
        record {
          left_is = y.b_is;
          right_is = y.c_is;
          held_l = y.held_b;
          held_r = y.held_c;
          apart = λ j. omega (arith, y.apart j);
          pos = y.pos_k;
          within = y.within_k;
          few = omega arith;
          low_l = omega arith;
          low_r = omega arith;
        }

    pub right_second : (q : P) (n₁ : List (Node P R)) → length n₁ ≡ length ns → Done ns n₁ k (linked m b k q c)
        → TwoAt n₁ s ia k a (linked m b k q c)
    right_second q n₁ long d =
        record {
          left_is = y.a_is;
          right_is = refl;
          held_l = still d a (λ j lt. omega (arith, y.apart j)) y.held_a;
          held_r = d.held;
          apart = λ j. omega (arith, y.apart j);
          pos = y.pos_s;
          within = omega arith;
          few = omega arith;
          low_l = omega arith;
          low_r = omega arith;
        }

    pub left_first : TwoAt ns s ia ib a b
    left_first =
        record {
          left_is = y.a_is;
          right_is = y.b_is;
          held_l = y.held_a;
          held_r = y.held_b;
          apart = λ j. omega (arith, y.apart j);
          pos = y.pos_s;
          within = y.within_s;
          few = omega arith;
          low_l = omega arith;
          low_r = omega arith;
        }

    pub left_second : (p : P) (n₁ : List (Node P R)) → length n₁ ≡ length ns → Done ns n₁ s (linked m a s p b)
        → TwoAt n₁ k s ic (linked m a s p b) c
    left_second p n₁ long d =
        record {
          left_is = refl;
          right_is = y.c_is;
          held_l = d.held;
          held_r = still d c (λ j lt. omega (arith, y.apart j)) y.held_c;
          apart = λ j. omega (arith, y.apart j);
          pos = y.pos_k;
          within = omega arith;
          few = omega arith;
          low_l = omega arith;
          low_r = omega arith;
        }

  -- The middle tree taken apart: s over a and d, k over e and c, and then i over both.
  module _ {ns : List (Node P R)} {s k ia i ic : ℕ} {a d e c : Tree P R} (o : P) (v : R) (id ie : ℕ)
      (y : ThreeAt ns s k ia i ic a (node d i o v e) c) (is-d : id ≡ root_of d) (is-e : ie ≡ root_of e) where
    pub both_first : TwoAt ns s ia id a d
    both_first =
        record {
          left_is = y.a_is;
          right_is = is-d;
          held_l = y.held_a;
          held_r = y.held_b.1;
          apart = λ j. omega (arith, y.apart j);
          pos = y.pos_s;
          within = y.within_s;
          few = omega arith;
          low_l = omega arith;
          low_r = omega arith;
        }

    pub both_second : (p : P) (n₁ : List (Node P R)) → length n₁ ≡ length ns → Done ns n₁ s (linked m a s p d)
        → TwoAt n₁ k ie ic e c
    both_second p n₁ long f =
        record {
          left_is = is-e;
          right_is = y.c_is;
          held_l = still f e (λ j lt. omega (arith, y.apart j)) y.held_b.2;
          held_r = still f c (λ j lt. omega (arith, y.apart j)) y.held_c;
          apart = λ j. omega (arith, y.apart j);
          pos = y.pos_k;
          within = omega arith;
          few = omega arith;
          low_l = omega arith;
          low_r = omega arith;
        }

    pub both_third : (p q : P) (n₁ n₂ : List (Node P R)) → length n₂ ≡ length ns → Done ns n₁ s (linked m a s p d)
        → Done n₁ n₂ k (linked m e k q c) → TwoAt n₂ i s k (linked m a s p d) (linked m e k q c)
    both_third p q n₁ n₂ long f g =
        let in-i = at_some ns i (stored d o v e) y.held_b.0 in
        record {
          left_is = refl;
          right_is = refl;
          held_l = still g (linked m a s p d) (λ j lt. omega (arith, y.apart j)) f.held;
          held_r = g.held;
          apart = λ j. omega (arith, y.apart j);
          pos = in-i.0;
          within = omega arith;
          few = omega arith;
          low_l = omega arith;
          low_r = omega arith;
        }

-- A tree whose root is slot i, with what is read there.
pub record Opened {P R : Type 0} (i : ℕ) (place : P) (to-left to-right : ℕ) (b : Tree P R) : Type 0 where
  pub d : Tree P R
  pub e : Tree P R
  pub v : R
  pub is : b ≡ node d i place v e
  pub left_is : to-left ≡ root_of d
  pub right_is : to-right ≡ root_of e

module _ {P R : Type 0} (m : Model P R) where
  pub opened : (ns : List (Node P R)) {i : ℕ} {place : P} {to-left to-right : ℕ} (b : Tree P R) → 0 < i → i ≡ root_of b
      → Holds ns b → held_place (at ns i) ≡ Some place → to-left ≡ left_child (at ns i) → to-right ≡ right_child (at ns i)
      → Opened i place to-left to-right b
  opened ns leaf pos is h read-place read_left read_right = absurd (omega arith)
  opened ns {i} {place} (node d s o v e) pos is h read-place read_left read_right =
      let whole : at ns i ≡ Some (stored d o v e) = ap (at ns) is ∙ h.0 in
      let found : Some place ≡ Some o = sym read-place ∙ ap held_place whole in
      record {
        d = d;
        e = e;
        v = v;
        is = cc;
        left_is = read_left ∙ ap left_child whole;
        right_is = read_right
            ∙ ap right_child whole;
      }

  pub opened_three : {ns : List (Node P R)} {s k ia ib ic : ℕ} {a b c : Tree P R} {place : P} {to-left to-right : ℕ}
      → ThreeAt ns s k ia ib ic a b c → (o : Opened ib place to-left to-right b)
      → ThreeAt ns s k ia ib ic a (node o.d ib place o.v o.e) c
  opened_three {ns} {s} {k} {ia} {ib} {ic} {a} {b} {c} y o = subst (λ t. ThreeAt ns s k ia ib ic a t c) o.is y
