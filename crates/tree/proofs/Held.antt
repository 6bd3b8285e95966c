-- What the slots hold of a tree, and what a write leaves.
use Rattle.std.proofs.Common.{◌≡◌, ℕ, zero, suc, ◌<◌, List, [], ◌∷◌, length, set, Some, refl, ap, ◌∙◌, arith}
use Rattle.std.specs.List.{slice_get}
use Rattle.std.proofs.lemmas.Bool.Decides.{nat_tests}
use Rattle.kinds.specs.Rules.{Model}
use Rattle.tree.specs.declared.node.Node.{Node}
use Rattle.tree.specs.Slots.{at, height_of, count_of, joined_over, made}
use Rattle.tree.specs.Tree.{Tree, leaf, node, root_of, tall, size, onto, linked, stored, times, Holds}

pub nth_set_other : {X : Type 0} (xs : List X) (i j : ℕ) (x : X) → (i ≡ j → ⊥) → slice_get (set xs i x) j ≡ slice_get xs j
nth_set_other [] i j x ne = refl
nth_set_other (y ∷ ys) zero zero x ne = absurd (ne refl)
nth_set_other (y ∷ ys) zero (suc j) x ne = refl
nth_set_other (y ∷ ys) (suc i) zero x ne = refl
nth_set_other (y ∷ ys) (suc i) (suc j) x ne = nth_set_other ys i j x (λ e. ne (ap suc e))

pub nth_set_same : {X : Type 0} (xs : List X) (i : ℕ) (x : X) → i < length xs → slice_get (set xs i x) i ≡ Some x
nth_set_same [] i x lt = absurd (omega arith)
nth_set_same (y ∷ ys) zero x lt = refl
nth_set_same (y ∷ ys) (suc i) x lt = nth_set_same ys i x (omega arith)

pub nth_some : {X : Type 0} (xs : List X) (i : ℕ) (x : X) → slice_get xs i ≡ Some x → i < length xs
nth_some [] i x e = let z : ◌≡◌ {A = ℕ} 0 1 = cc in absurd (omega arith)
nth_some (y ∷ ys) zero x e = omega arith
nth_some (y ∷ ys) (suc i) x e = let h : i < length ys = nth_some ys i x e in omega arith

module _ {P R : Type 0} where
  pub at_other : (ns : List (Node P R)) (i j : ℕ) (x : Node P R) → (i ≡ j → ⊥) → at (set ns i x) j ≡ at ns j
  at_other ns i zero x ne = refl
  at_other ns i (suc j) x ne = nth_set_other ns i (suc j) x ne

  -- The same slot in two states.
  pub at_nth : (ns ms : List (Node P R)) (j : ℕ) → slice_get ms j ≡ slice_get ns j → at ms j ≡ at ns j
  at_nth ns ms zero e = refl
  at_nth ns ms (suc j) e = e

  pub at_same : (ns : List (Node P R)) (i : ℕ) (x : Node P R) → 0 < i → i < length ns → at (set ns i x) i ≡ Some x
  at_same ns zero x pos lt = absurd (omega arith)
  at_same ns (suc i) x pos lt = nth_set_same ns (suc i) x lt

  pub at_some : (ns : List (Node P R)) (i : ℕ) (x : Node P R) → at ns i ≡ Some x → (0 < i) × (i < length ns)
  at_some ns zero x e = let z : ◌≡◌ {A = ℕ} 0 1 = cc in absurd (omega arith)
  at_some ns (suc i) x e = (omega arith, nth_some ns (suc i) x e)

module _ {P R : Type 0} where
  -- Writes outside of the tree leave it.
  pub holds_frame : (ns ms : List (Node P R)) (t : Tree P R) → ((j : ℕ) → 0 < times j t → at ms j ≡ at ns j)
      → Holds ns t → Holds ms t
  holds_frame ns ms leaf keep h = tt
  holds_frame ns ms (node l s p v r) keep h = (
    keep s (grind (arith, nat_tests)) ∙ h.0,
    holds_frame ns ms l (λ j lt. keep j (omega arith)) h.1,
    holds_frame ns ms r (λ j lt. keep j (omega arith)) h.2,
  )

  pub holds_set : (ns : List (Node P R)) (i : ℕ) (x : Node P R) (t : Tree P R) → times i t ≡ 0 → Holds ns t
      → Holds (set ns i x) t
  holds_set ns i x leaf away h = tt
  holds_set ns i x (node l s p v r) away h = (
    at_other ns i s x (λ e. grind (arith, nat_tests))
        ∙ h.0,
    holds_set ns i x l (omega arith) h.1,
    holds_set ns i x r (omega arith) h.2,
  )

  pub holds_tall : (ns : List (Node P R)) (t : Tree P R) → Holds ns t → height_of (at ns (root_of t)) ≡ tall t
  holds_tall ns leaf h = refl
  holds_tall ns (node l s p v r) h = ap height_of h.0

  pub holds_size : (ns : List (Node P R)) (t : Tree P R) → Holds ns t → count_of (at ns (root_of t)) ≡ size t
  holds_size ns leaf h = refl
  holds_size ns (node l s p v r) h = ap count_of h.0

  pub holds_root : (ns : List (Node P R)) (t : Tree P R) → 0 < length ns → Holds ns t → root_of t < length ns
  holds_root ns leaf pos h = pos
  holds_root ns (node l s p v r) pos h = (at_some ns s (stored l p v r) h.0).1

module _ {P R : Type 0} (m : Model P R) where
  pub holds_onto : (ns : List (Node P R)) (d : R) (t : Tree P R) → Holds ns t
      → joined_over m d (at ns (root_of t)) ≡ onto m d t
  holds_onto ns d leaf h = refl
  holds_onto ns d (node l s p v r) h = ap (joined_over m d) h.0

  pub made_stored : (ns : List (Node P R)) (l : Tree P R) (p : P) (r : Tree P R) → Holds ns l → Holds ns r
      → made m ns p (root_of l) (root_of r) ≡ stored l p (onto m (onto m (m.single p) l) r) r
  made_stored ns l p r hl hr =
      let tl = holds_tall ns l hl in
      let tr = holds_tall ns r hr in
      let sl = holds_size ns l hl in
      let sr = holds_size ns r hr in
      let jl = holds_onto ns (m.single p) l hl in
      let jr = holds_onto ns (onto m (m.single p) l) r hr in
      let jj : joined_over m (joined_over m (m.single p) (at ns (root_of l))) (at ns (root_of r)) ≡ onto m (onto m (m.single p) l)
      r = ap (λ d. joined_over m d (at ns (root_of r))) jl ∙ jr in
      cc

  pub holds_link : (ns : List (Node P R)) (l : Tree P R) (s : ℕ) (p : P) (r : Tree P R) → 0 < s → s < length ns
      → times s l ≡ 0 → times s r ≡ 0 → Holds ns l → Holds ns r
      → Holds (set ns s (made m ns p (root_of l) (root_of r))) (linked m l s p r)
  holds_link ns l s p r pos lt al ar hl hr = (
    at_same ns s _ pos lt
        ∙ ap (λ n. Some n) (made_stored ns l p r hl hr),
    holds_set ns s _ l al hl,
    holds_set ns s _ r ar hr,
  )

module _ {P R : Type 0} where
  pub height_is : (ns : List (Node P R)) (i h : ℕ) (t : Tree P R) → i ≡ root_of t → h ≡ height_of (at ns i) → Holds ns t
      → h ≡ tall t
  height_is ns i h t is read held = read ∙ ap (λ j. height_of (at ns j)) is ∙ holds_tall ns t held

  pub count_is : (ns : List (Node P R)) (i h : ℕ) (t : Tree P R) → i ≡ root_of t → h ≡ count_of (at ns i) → Holds ns t
      → h ≡ size t
  count_is ns i h t is read held = read ∙ ap (λ j. count_of (at ns j)) is ∙ holds_size ns t held

  pub root_in : (ns : List (Node P R)) (i : ℕ) (t : Tree P R) → i ≡ root_of t → 0 < length ns → Holds ns t
      → i < length ns
  root_in ns i t is pos held = rw is (holds_root ns t pos held)

  -- A tree that is not empty has a root.
  pub tall_root : (t : Tree P R) (ns : List (Node P R)) (i : ℕ) → i ≡ root_of t → Holds ns t → 0 < tall t → 0 < i
  tall_root leaf ns i is held h = absurd (omega arith)
  tall_root (node l s p v r) ns i is held h = let x = at_some ns s (stored l p v r) held.0 in omega arith
