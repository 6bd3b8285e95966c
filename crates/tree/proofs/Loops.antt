-- What the loops down a tree keep.
use Rattle.std.proofs.Common.{◌≡◌, ℕ, ◌+◌, ◌-◌, ◌<◌, ◌≤◌, true, false, List, length, take, drop, sym, refl, ap, ◌∙◌, arith}
use Rattle.kinds.specs.Rules.{Model, Laws}
use Rattle.buckets.specs.Rows.{entry, ahead}
use Rattle.buckets.specs.declared.Entry.{Entry}
use Rattle.buckets.specs.Regions.{joined_with}
use Rattle.tree.specs.declared.node.Node.{Node}
use Rattle.tree.specs.Slots.{at, count_of, left_child, joined_over}
use Rattle.tree.specs.Tree.{Tree, row_of, size, Joined}
use Rattle.tree.specs.Shapes.{first_slot, ranked}
use Rattle.tree.specs.Contracted.{TreeAt}
use Rattle.tree.proofs.Writes.{Opened}
use Rattle.tree.proofs.Removal.{tree_open_left, tree_left, tree_right, less_left, first_here, first_is}
use Rattle.tree.proofs.Joins.{drop_nil, take_nil}
use Rattle.tree.proofs.Descent.{zero_leaf, count_root, left_in, left_count, right_count, whole_count, between_left, between_right, joined_left, joined_right, rank_here, rank_left, rank_right, suffix_goes_left, suffix_goes_right, prefix_goes_left, prefix_goes_right}

-- Slot i holds a tree whose first slot is that of t.
pub record FirstWay {P R : Type 0} (ns : List (Node P R)) (i left : ℕ) (t : Tree P R) : Type 0 where
  pub rest : Tree P R
  pub held : TreeAt ns i rest
  pub pos : 0 < i
  pub left_is : left ≡ left_child (at ns i)
  pub same : first_slot rest ≡ first_slot t

abbrev pub FirstWays : {P R : Type 0} → List (Node P R) → ℕ → ℕ → ℕ → Type 0
FirstWays {P} {R} ns root i left = (t : Tree P R) → TreeAt ns root t → FirstWay ns i left t

module _ {P R : Type 0} (m : Model P R) {ns : List (Node P R)} {i left : ℕ} {t : Tree P R} (w : FirstWay ns i left t)
  where
    pub first_next : (left ≡ 0 → ⊥) → (0 < left) × (left < length ns)
    first_next ne = (omega arith, left_in m w.held (tree_open_left m w.held w.pos w.left_is).1)

    pub first_step : (left ≡ 0 → ⊥) → {next : ℕ} → next ≡ left_child (at ns left) → FirstWay ns left next t
    first_step ne read =
        let o = (tree_open_left m w.held w.pos w.left_is).1 in
        record {
          rest = o.d;
          held = tree_left m w.held o;
          pos = omega arith;
          left_is = read;
          same = first_is m
              w.held o ne _ refl ∙ w.same;
        }

    pub first_less : (left ≡ 0 → ⊥) → {next : ℕ} → next ≡ left_child (at ns left)
        → count_of (at ns next) < count_of (at ns left)
    first_less ne read =
        let v = first_step ne read in
        less_left m v.held (tree_open_left m v.held v.pos read).1 _ refl

    pub first_end : left ≡ 0 → i ≡ first_slot t
    first_end none =
        let o = tree_open_left m w.held w.pos w.left_is in
        let e = first_here m o.1.d i o.0 o.1.e (sym none ∙ o.1.left_is) ns
        (tree_left m w.held o.1).held in
        sym (ap first_slot o.1.is ∙ e.0) ∙ w.same

-- Slot i holds a tree, and as many entries as `before` stand left of it in t.
pub record RankWay {P R : Type 0} (m : Model P R) (p : P) (s : ℕ) (ns : List (Node P R)) (i before : ℕ) (t : Tree P R) :
    Type 0 where
  pub rest : Tree P R
  pub held : TreeAt ns i rest
  pub same : ranked m p s t ≡ before + ranked m p s rest
  pub few : before + size rest ≤ size t

abbrev pub RankWays : {P R : Type 0} → Model P R → P → ℕ → List (Node P R) → ℕ → ℕ → ℕ → Type 0
RankWays {P} {R} m p s ns root i before = (t : Tree P R) → TreeAt ns root t → RankWay m p s ns i before t

module _ {P R : Type 0} (m : Model P R) (p : P) (s : ℕ) {ns : List (Node P R)} {i before : ℕ} {t : Tree P R}
    (w : RankWay m p s ns i before t) where
  pub rank_end : i ≡ 0 → before ≡ ranked m p s t
  rank_end none = let a = ap (ranked m p s) (zero_leaf m w.rest w.held none) in omega (arith, w.same)

  module _ {place : P} {to-left to-right : ℕ} (o : Opened i place to-left to-right w.rest) {x : ℕ}
      (is : x ≡ count_of (at ns to-left)) where
    pub rank_few : size t ≤ 4095 → before + x + 1 ≤ 4095
    rank_few few = let a = left_count m w.held o x is in let b = ap size o.is in omega (arith, w.few)

    pub rank_found : s ≡ i → before + x ≡ ranked m p s t
    rank_found eq = sym (w.same ∙ ap (λ n. before + n) (sym (rank_here m w.held o p s x is eq)))

    pub rank_step_left : (s ≡ i → ⊥) → ahead m (entry s p) (entry i place) ≡ true → RankWay m p s ns to-left before t
    rank_step_left ne test =
        let b = ap size o.is in
        record {
          rest = o.d;
          held = tree_left m w.held o;
          same = w.same ∙ ap (λ n. before + n) (sym (rank_left m w.held o p s _ ne test refl));
          few = omega (arith, w.few);
        }

    pub rank_step_right : (s ≡ i → ⊥) → ahead m (entry s p) (entry i place) ≡ false
        → RankWay m p s ns to-right (before + x + 1) t
    rank_step_right ne test =
        let a = left_count m w.held o x is in
        let b = ap size o.is in
        let c = rank_right m w.held o p s x (ranked m p s o.e) is ne test refl in
        record {
          rest = o.e;
          held = tree_right m w.held o;
          same = omega (arith, w.same);
          few = omega
              (arith, w.few);
        }

-- Slot i holds a tree, and what is left to join of t is what is left to join of it.
pub record SpanWay {P R : Type 0} (m : Model P R) (part : ℕ → List (Entry P) → List (Entry P)) (ns : List (Node P R))
    (i from to : ℕ) (base join : R) (t : Tree P R) : Type 0 where
  pub rest : Tree P R
  pub held : TreeAt ns i rest
  pub joined : Joined m t → Joined m rest
  pub same : Joined m t → joined_with m base (part from (row_of t)) ≡ joined_with m join (part to (row_of rest))

abbrev pub SpanWays : {P R : Type 0} → Model P R → (ℕ → List (Entry P) → List (Entry P)) → List (Node P R) → ℕ → ℕ → ℕ
    → ℕ → R → R → Type 0
SpanWays {P} {R} m part ns root i from to base join =
    (t : Tree P R) → TreeAt ns root t → SpanWay m part ns i from to base join t

module _ {P R : Type 0} (m : Model P R) (laws : Laws m) {ns : List (Node P R)} {i from to : ℕ} {base join : R}
    {t : Tree P R} where
  module _ (w : SpanWay m drop ns i from to base join t) where
    pub suffix_end : i ≡ 0 → Joined m t → join ≡ joined_with m base (drop from (row_of t))
    suffix_end none h =
        sym (w.same h ∙ ap (λ u. joined_with m join (drop to (row_of u))) (zero_leaf m w.rest w.held none)
        ∙ ap (joined_with m join) (drop_nil to))

    module _ {place : P} {to-left to-right : ℕ} (o : Opened i place to-left to-right w.rest) {x : ℕ}
        (is : x ≡ count_of (at ns to-left)) where
      pub suffix_step_right : x < to → SpanWay m drop ns to-right from (to - x - 1) base join t
      suffix_step_right lt =
          record {
            rest = o.e;
            held = tree_right m w.held o;
            joined = λ h. joined_right m w.held o (w.joined h);
            same = λ h. w.same h ∙ sym (suffix_goes_right m w.held o laws x to join _ is lt refl);
          }

      pub suffix_step_left : to ≤ x → {own more : R} → own ≡ m.joined join (m.single place)
          → more ≡ joined_over m own (at ns to-right) → SpanWay m drop ns to-left from to base more t
      suffix_step_left le {own} {more} owns mores =
          record {
            rest = o.d;
            held = tree_left m w.held o;
            joined = λ h. joined_left m w.held o (w.joined h);
            same = λ h. w.same h
                ∙ sym (suffix_goes_left m w.held o laws (w.joined h) x to join own more _ is le owns mores refl);
          }

  module _ (w : SpanWay m take ns i from to base join t) where
    pub prefix_end : i ≡ 0 → Joined m t → join ≡ joined_with m base (take from (row_of t))
    prefix_end none h =
        sym (w.same h ∙ ap (λ u. joined_with m join (take to (row_of u))) (zero_leaf m w.rest w.held none)
        ∙ ap (joined_with m join) (take_nil to))

    module _ {place : P} {to-left to-right : ℕ} (o : Opened i place to-left to-right w.rest) {x : ℕ}
        (is : x ≡ count_of (at ns to-left)) where
      pub prefix_step_left : to ≤ x → SpanWay m take ns to-left from to base join t
      prefix_step_left le =
          record {
            rest = o.d;
            held = tree_left m w.held o;
            joined = λ h. joined_left m w.held o (w.joined h);
            same = λ h. w.same h ∙ sym (prefix_goes_left m w.held o laws x to join _ is le refl);
          }

      pub prefix_step_right : x < to → {own more : R} → own ≡ m.joined join (m.single place)
          → more ≡ joined_over m own (at ns to-left) → SpanWay m take ns to-right from (to - x - 1) base more t
      prefix_step_right lt {own} {more} owns mores =
          record {
            rest = o.e;
            held = tree_right m w.held o;
            joined = λ h. joined_right m w.held o (w.joined h);
            same = λ h. w.same h
                ∙ sym (prefix_goes_right m w.held o laws (w.joined h) x to join own more _ is lt owns mores refl);
          }

-- Slot i holds a tree, and the run of ranks of t is the run of its ranks.
pub record RunWay {P R : Type 0} (m : Model P R) (ns : List (Node P R)) (i first end skip keep : ℕ) (t : Tree P R) :
    Type 0 where
  pub rest : Tree P R
  pub held : TreeAt ns i rest
  pub joined : Joined m t → Joined m rest
  pub same : drop first (take end (row_of t)) ≡ drop skip (take keep (row_of rest))

-- Every tree at the root leads to such a way, and the run is not empty.
pub record RunWays {P R : Type 0} (m : Model P R) (ns : List (Node P R)) (root i first end skip keep : ℕ) : Type 0 where
  pub way : (t : Tree P R) → TreeAt ns root t → RunWay m ns i first end skip keep t
  pub some : skip < keep
  pub within : keep ≤ count_of (at ns i)

module _ {P R : Type 0} (m : Model P R) (laws : Laws m) {ns : List (Node P R)} {root i first end skip keep : ℕ}
    (w : RunWays m ns root i first end skip keep) where
  pub run_root : {t : Tree P R} → TreeAt ns root t → 0 < i
  run_root {t} y = let v = w.way t y in count_root m v.rest v.held (omega (arith, w.some, w.within))

  module _ {place : P} {to-left to-right : ℕ}
      (opens : (t : Tree P R) (y : TreeAt ns root t) → Opened i place to-left to-right (w.way t y).rest) {x : ℕ}
      (is : x ≡ count_of (at ns to-left)) where
    pub run_step_left : keep ≤ x → RunWays m ns root to-left first end skip keep
    run_step_left le =
        record {
          way = λ t y.
              let v = w.way t y in
              let o = opens t y in
              record {
                rest = o.d;
                held = tree_left m v.held o;
                joined = λ h. joined_left m v.held o (v.joined h);
                same = v.same ∙ sym (between_left m v.held o laws x skip keep is le);
              };
          some = w.some;
          within = omega arith;
        }

    pub run_step_right : {t₀ : Tree P R} → TreeAt ns root t₀ → x < skip
        → RunWays m ns root to-right first end (skip - x - 1) (keep - x - 1)
    run_step_right {t₀} y₀ lt =
        let v₀ = w.way t₀ y₀ in
        let o₀ = opens t₀ y₀ in
        let a = left_count m v₀.held o₀ x is in
        let b = right_count m v₀.held o₀ _ refl in
        let c = whole_count m v₀.held o₀ in
        record {
          way = λ t y.
              let v = w.way t y in
              let o = opens t y in
              record {
                rest = o.e;
                held = tree_right m v.held o;
                joined = λ h. joined_right m v.held o (v.joined h);
                same = v.same ∙ sym (between_right m v.held o laws x skip keep is lt w.some);
              };
          some = omega (arith, w.some);
          within = omega (arith, w.within);
        }
