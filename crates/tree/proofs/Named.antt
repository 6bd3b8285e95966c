-- A branch's entry has the number of its slot, so that what a function promises of the one it promises of the other.
use Rattle.std.proofs.Common.{◌≡◌, ℕ, Bool, List, sym, ap, ◌∙◌, subst}
use Rattle.kinds.specs.Rules.{Model}
use Rattle.buckets.specs.declared.Entry.{Entry}
use Rattle.buckets.specs.Rows.{entry, ahead}
use Rattle.tree.specs.declared.node.Node.{Node}
use Rattle.tree.specs.Tree.{Tree, linked}
use Rattle.tree.specs.Shapes.{rotated_twice, evened}
use Rattle.tree.specs.Contracted.{TwoAt, ThreeAt, EvenAt, Done}

module _ {P R : Type 0} {ns : List (Node P R)} {n k : ℕ} (same : n ≡ k) where
  pub two_named : {left right : ℕ} {l r : Tree P R} → TwoAt ns k left right l r → TwoAt ns n left right l r
  two_named {left} {right} {l} {r} y = subst (λ j. TwoAt ns j left right l r) (sym same) y

  pub even_named : {left right : ℕ} {l r : Tree P R} → EvenAt ns k left right l r → EvenAt ns n left right l r
  even_named {left} {right} {l} {r} y = subst (λ j. EvenAt ns j left right l r) (sym same) y

  pub low_named : {high first second third : ℕ} {a b c : Tree P R} → ThreeAt ns k high first second third a b c
      → ThreeAt ns n high first second third a b c
  low_named {high} {first} {second} {third} {a} {b} {c} y =
      subst (λ j. ThreeAt ns j high first second third a b c) (sym same) y

  pub high_named : {low first second third : ℕ} {a b c : Tree P R} → ThreeAt ns low k first second third a b c
      → ThreeAt ns low n first second third a b c
  high_named {low} {first} {second} {third} {a} {b} {c} y =
      subst (λ j. ThreeAt ns low j first second third a b c) (sym same) y

module _ {P R : Type 0} (m : Model P R) {n k : ℕ} (same : n ≡ k) where
  pub stands_named : (a : Entry P) (p : P) (t : Bool) → t ≡ ahead m a (entry n p) → t ≡ ahead m a (entry k p)
  stands_named a p t h = h ∙ ap (λ j. ahead m a (entry j p)) same

  module _ {old new : List (Node P R)} (p : P) where
    pub planted : {left right : ℕ}
        → ((l r : Tree P R) → TwoAt old n left right l r → Done old new n (linked m l n p r))
        → (l r : Tree P R) → TwoAt old k left right l r → Done old new k (linked m l k p r)
    planted f l r y = subst (λ j. Done old new j (linked m l j p r)) same (f l r (two_named same y))

    pub rebalanced : {res : ℕ} {left right : ℕ}
        → ((l r : Tree P R) → EvenAt old n left right l r → Done old new res (evened m l n p r))
        → (l r : Tree P R) → EvenAt old k left right l r → Done old new res (evened m l k p r)
    rebalanced {res} f l r y = subst (λ j. Done old new res (evened m l j p r)) same (f l r (even_named same y))

    pub low_turned : {res : ℕ} {s first second third : ℕ} (q : P)
        → ((a b c : Tree P R) → ThreeAt old n s first second third a b c → Done old new res (rotated_twice m a n p b s q c))
        → (a b c : Tree P R) → ThreeAt old k s first second third a b c → Done old new res (rotated_twice m a k p b s q c)
    low_turned {res} {s} q f a b c y =
        subst (λ j. Done old new res (rotated_twice m a j p b s q c)) same (f a b c (low_named same y))

    pub high_turned : {res : ℕ} {s first second third : ℕ} (q : P)
        → ((a b c : Tree P R) → ThreeAt old s n first second third a b c → Done old new res (rotated_twice m a s q b n p c))
        → (a b c : Tree P R) → ThreeAt old s k first second third a b c → Done old new res (rotated_twice m a s q b k p c)
    high_turned {res} {s} q f a b c y =
        subst (λ j. Done old new res (rotated_twice m a s q b j p c)) same (f a b c (high_named same y))

    pub right_turned : {s first second third : ℕ} (q : P)
        → ((a b c : Tree P R) → ThreeAt old n s first second third a b c → Done old new n (linked m a n p (linked m b s q c)))
        → (a b c : Tree P R) → ThreeAt old k s first second third a b c → Done old new k (linked m a k p (linked m b s q c))
    right_turned {s} q f a b c y =
        subst (λ j. Done old new j (linked m a j p (linked m b s q c))) same (f a b c (low_named same y))

    pub left_turned : {s first second third : ℕ} (q : P)
        → ((a b c : Tree P R) → ThreeAt old s n first second third a b c → Done old new n (linked m (linked m a s q b) n p c))
        → (a b c : Tree P R) → ThreeAt old s k first second third a b c → Done old new k (linked m (linked m a s q b) k p c)
    left_turned {s} q f a b c y =
        subst (λ j. Done old new j (linked m (linked m a s q b) j p c)) same (f a b c (high_named same y))
