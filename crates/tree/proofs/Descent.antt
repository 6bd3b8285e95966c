-- Ways down a tree, over the slots.
use Rattle.std.proofs.Common.{◌≡◌, ℕ, ◌+◌, ◌-◌, ◌<◌, ◌≤◌, Bool, true, false, cond, eqb, List, ◌∷◌, ◌++◌, length, take, drop, sym, refl, ap, ◌∙◌, subst, ap₂, arith}
use Rattle.std.proofs.lemmas.Bool.Decides.{nat_tests}
use Rattle.kinds.specs.Rules.{Model, Laws}
use Rattle.tree.specs.declared.node.Node.{Node}
use Rattle.tree.specs.Slots.{at, count_of, joined_over}
use Rattle.tree.specs.Tree.{Tree, leaf, node, row_of, size, stored, Joined}
use Rattle.tree.specs.Shapes.{ranked}
use Rattle.tree.specs.Contracted.{TreeAt}
use Rattle.buckets.specs.Rows.{entry, ahead}
use Rattle.buckets.specs.declared.Entry.{Entry}
use Rattle.buckets.specs.Regions.{joined_with}
use Rattle.tree.proofs.Held.{at_some, holds_size, holds_onto, root_in, count_is}
use Rattle.tree.proofs.Writes.{Opened}
use Rattle.tree.proofs.Removal.{tree_left, tree_right}
use Rattle.tree.proofs.Without.{length_row}
use Rattle.tree.proofs.Joins.{span_over, onto_span, suffix_right, suffix_left, prefix_left, prefix_right, part_left, part_right, part_mid, from_any}

module _ {P R : Type 0} (m : Model P R) where
  pub zero_leaf : {ns : List (Node P R)} {root : ℕ} (t : Tree P R) → TreeAt ns root t → root ≡ 0 → t ≡ leaf
  zero_leaf leaf y is = refl
  zero_leaf {ns} (node l s p v r) y is =
      let x = at_some ns s (stored l p v r) y.held.0 in absurd (omega (arith, y.root_is))

  pub count_root : {ns : List (Node P R)} {root : ℕ} (t : Tree P R) → TreeAt ns root t → 0 < count_of (at ns root)
      → 0 < root
  count_root {ns} leaf y pos = let e = ap (λ i. count_of (at ns i)) y.root_is in absurd (omega arith)
  count_root {ns} (node l s p v r) y pos =
      let x = at_some ns s (stored l p v r) y.held.0 in omega (arith, y.root_is)

  module _ {ns : List (Node P R)} {root : ℕ} {t : Tree P R} {place : P} {to-left to-right : ℕ} (y : TreeAt ns root t)
      (o : Opened root place to-left to-right t) where
    pub left_in : to-left < length ns
    left_in = let z = tree_left m y o in root_in ns to-left o.d z.root_is y.some z.held

    pub right_in : to-right < length ns
    right_in = let z = tree_right m y o in root_in ns to-right o.e z.root_is y.some z.held

    pub left_count : (x : ℕ) → x ≡ count_of (at ns to-left) → x ≡ size o.d
    left_count x is = let z = tree_left m y o in count_is ns to-left x o.d z.root_is is z.held

    pub right_count : (x : ℕ) → x ≡ count_of (at ns to-right) → x ≡ size o.e
    right_count x is = let z = tree_right m y o in count_is ns to-right x o.e z.root_is is z.held

    left_length : (x : ℕ) → x ≡ count_of (at ns to-left) → x ≡ length (row_of o.d)
    left_length x is = left_count x is ∙ sym (length_row o.d)

    pub whole_count : count_of (at ns root) ≡ 1 + size o.d + size o.e
    whole_count = ap (λ i. count_of (at ns i)) y.root_is ∙ holds_size ns t y.held ∙ ap size o.is

    pub joined_left : Joined m t → Joined m o.d
    joined_left h = (subst (λ u. Joined m u) o.is h).0

    pub joined_right : Joined m t → Joined m o.e
    joined_right h = (subst (λ u. Joined m u) o.is h).1

    left_over : Laws m → Joined m t → (d x : R) → x ≡ joined_over m d (at ns to-left) → x ≡ joined_with m d (row_of o.d)
    left_over laws h d x is =
        let z = tree_left m y o in is ∙ ap (λ i. joined_over m d (at ns i)) z.root_is ∙ holds_onto m ns d o.d z.held
        ∙ onto_span m laws d o.d (joined_left h) ∙ span_over m laws d o.d

    right_over : Laws m → Joined m t → (d x : R) → x ≡ joined_over m d (at ns to-right) → x ≡ joined_with m d (row_of o.e)
    right_over laws h d x is =
        let z = tree_right m y o in is ∙ ap (λ i. joined_over m d (at ns i)) z.root_is
        ∙ holds_onto m ns d o.e z.held ∙ onto_span m laws d o.e (joined_right h) ∙ span_over m laws d o.e

    f : Entry P
    f = entry root place

    row_is : row_of t ≡ row_of o.d ++ (entry root place ∷ row_of o.e)
    row_is = ap row_of o.is

    pub suffix_goes_right : Laws m → (x i : ℕ) (d r : R) → x ≡ count_of (at ns to-left) → x < i
        → r ≡ joined_with m d (drop (i - x - 1) (row_of o.e)) → r ≡ joined_with m d (drop i (row_of t))
    suffix_goes_right laws x i d r is lt got =
        got ∙ sym (suffix_right m laws (row_of o.d) (entry root place) (row_of o.e) x (left_length x is) d i lt)
        ∙ ap (λ z. joined_with m d (drop i z)) (sym row_is)

    pub suffix_goes_left : Laws m → Joined m t → (x i : ℕ) (d own right r : R) → x ≡ count_of (at ns to-left) → i ≤ x
        → own ≡ m.joined d (m.single place) → right ≡ joined_over m own (at ns to-right)
        → r ≡ joined_with m right (drop i (row_of o.d)) → r ≡ joined_with m d (drop i (row_of t))
    suffix_goes_left laws h x i d own right r is le owns rights got =
        got ∙ ap (λ z. joined_with m z (drop i (row_of o.d)))
        (right_over laws h own right rights ∙ ap (λ z. joined_with m z (row_of o.e)) owns)
        ∙ sym (suffix_left m laws (row_of o.d) (entry root place) (row_of o.e) x (left_length x is) d i le)
        ∙ ap (λ z. joined_with m d (drop i z)) (sym row_is)

    pub prefix_goes_left : Laws m → (x i : ℕ) (d r : R) → x ≡ count_of (at ns to-left) → i ≤ x
        → r ≡ joined_with m d (take i (row_of o.d)) → r ≡ joined_with m d (take i (row_of t))
    prefix_goes_left laws x i d r is le got =
        got ∙ sym (prefix_left m laws (row_of o.d) (entry root place) (row_of o.e) x (left_length x is) d i le)
        ∙ ap (λ z. joined_with m d (take i z)) (sym row_is)

    pub prefix_goes_right : Laws m → Joined m t → (x i : ℕ) (d own left r : R) → x ≡ count_of (at ns to-left) → x < i
        → own ≡ m.joined d (m.single place) → left ≡ joined_over m own (at ns to-left)
        → r ≡ joined_with m left (take (i - x - 1) (row_of o.e)) → r ≡ joined_with m d (take i (row_of t))
    prefix_goes_right laws h x i d own left r is lt owns lefts got =
        got ∙ ap (λ z. joined_with m z (take (i - x - 1) (row_of o.e)))
        (left_over laws h own left lefts ∙ ap (λ z. joined_with m z (row_of o.d)) owns)
        ∙ sym (prefix_right m laws (row_of o.d) (entry root place) (row_of o.e) x (left_length x is) d i lt)
        ∙ ap (λ z. joined_with m d (take i z)) (sym row_is)

    pub between_left : Laws m → (x i j : ℕ) → x ≡ count_of (at ns to-left) → j ≤ x
        → drop i (take j (row_of o.d)) ≡ drop i (take j (row_of t))
    between_left laws x i j is le =
        sym (part_left m laws (row_of o.d) (entry root place) (row_of o.e) x (left_length x is) i j le)
        ∙ ap (λ z. drop i (take j z)) (sym row_is)

    pub between_right : Laws m → (x i j : ℕ) → x ≡ count_of (at ns to-left) → x < i → i < j
        → drop (i - x - 1) (take (j - x - 1) (row_of o.e)) ≡ drop i (take j (row_of t))
    between_right laws x i j is lt le =
        sym (part_right m laws (row_of o.d) (entry root place) (row_of o.e) x (left_length x is) i j lt le)
        ∙ ap (λ z. drop i (take j z)) (sym row_is)

    pub between_mid : Laws m → (x i j : ℕ) (own lo r : R) (e : Entry P) (es : List (Entry P))
        → x ≡ count_of (at ns to-left) → i ≤ x → x < j → own ≡ m.single place
        → lo ≡ joined_with m own (drop i (row_of o.d)) → r ≡ joined_with m lo (take (j - x - 1) (row_of o.e))
        → drop i (take j (row_of t)) ≡ e ∷ es → r ≡ joined_with m (m.single e.place) es
    between_mid laws x i j own lo r e es is le lt owns los got parts =
        got ∙ ap (λ z. joined_with m z (take (j - x - 1) (row_of o.e)))
        (los ∙ ap (λ z. joined_with m z (drop i (row_of o.d))) owns)
        ∙ from_any m laws (drop i (row_of o.d)) (entry root place) (take (j - x - 1) (row_of o.e)) e es
        (sym (part_mid m laws (row_of o.d) (entry root place) (row_of o.e) x (left_length x is) i j le lt)
        ∙ ap (λ z. drop i (take j z)) (sym row_is) ∙ parts)

    module _ (p : P) (s : ℕ) where
      ways : Bool → Bool → ℕ
      ways b c = cond b (size o.d) (cond c (ranked m p s o.d) (size o.d + 1 + ranked m p s o.e))

      pub rank_here : (x : ℕ) → x ≡ count_of (at ns to-left) → s ≡ root → x ≡ ranked m p s t
      unfolding ways
      rank_here x is eq =
          let test : eqb s root ≡ true = grind (arith, nat_tests) in
          left_count x is ∙ sym
          (ap (ranked m p s) o.is ∙ ap (λ b. ways b (ahead m (entry s p) (entry root place))) test)

      pub rank_left : (x : ℕ) → (s ≡ root → ⊥) → ahead m (entry s p) (entry root place) ≡ true → x ≡ ranked m p s o.d
          → x ≡ ranked m p s t
      unfolding ways
      rank_left x ne is got =
          let test : eqb s root ≡ false = grind (arith, nat_tests) in
          got ∙ sym (ap (ranked m p s) o.is ∙ ap (λ b. ways b (ahead m (entry s p) (entry root place))) test
          ∙ ap (λ c. ways false c) is)

      pub rank_right : (x z : ℕ) → x ≡ count_of (at ns to-left) → (s ≡ root → ⊥)
          → ahead m (entry s p) (entry root place) ≡ false → z ≡ ranked m p s o.e → x + 1 + z ≡ ranked m p s t
      unfolding ways
      rank_right x z is ne no_test got =
          let test : eqb s root ≡ false = grind (arith, nat_tests) in
          ap₂ (λ i j. i + 1 + j) (left_count x is) got
          ∙ sym (ap (ranked m p s) o.is ∙ ap (λ b. ways b (ahead m (entry s p) (entry root place))) test
          ∙ ap (λ c. ways false c) no_test)
