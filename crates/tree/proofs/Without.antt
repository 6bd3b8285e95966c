-- The row without an entry, and where an entry stands.
use Rattle.std.proofs.Common.{◌≡◌, ℕ, zero, suc, ◌+◌, ◌≤◌, Bool, true, false, cond, eqb, ◌⊎◌, List, [], ◌∷◌, ◌++◌, length, Some, sym, refl, ap, ◌∙◌, ap₂, inl, inr, arith, length-append}
use Rattle.std.specs.List.{slice_get}
use Rattle.std.proofs.lemmas.Bool.Decides.{nat_tests}
use Rattle.kinds.specs.Rules.{Model}
use Rattle.tree.specs.Tree.{Tree, leaf, node, row_of, size, times, Balanced}
use Rattle.tree.specs.Shapes.{evened, fused, shrunk, ranked}
use Rattle.tree.specs.Rows.{often, without}
use Rattle.buckets.specs.Rows.{entry, In, ahead, Sorted, AllAdmitted, AheadLaws}
use Rattle.buckets.specs.declared.Entry.{Entry}
use Rattle.tree.proofs.Balance.{same_even}
use Rattle.tree.proofs.Shrinking.{fuses}
use Rattle.tree.proofs.Order.{in_mid, in_often, often_row, Around, around, AdmittedAround, admitted_around, side}

module _ {P : Type 0} where
  without_none : (s : ℕ) (es : List (Entry P)) → often s es ≡ 0 → without s es ≡ es
  without_none s [] z = refl
  without_none s (e ∷ es) z =
      let test : eqb s e.set ≡ false = grind (arith, nat_tests) in
      ap (λ b. cond b (without s es) (e ∷ without s es)) test ∙ ap (λ x. e ∷ x) (without_none s es (omega arith))

  without_append : (s : ℕ) (xs ys : List (Entry P)) → without s (xs ++ ys) ≡ without s xs ++ without s ys
  without_append s [] ys = refl
  without_append s (x ∷ xs) ys = go (eqb s x.set) (without_append s xs ys)
    where
      go : (b : Bool) → without s (xs ++ ys) ≡ without s xs ++ without s ys
          → cond b (without s (xs ++ ys)) (x ∷ without s (xs ++ ys)) ≡ cond b (without s xs) (x ∷ without s xs) ++
          without s ys
      go true ih = ih
      go false ih = ap (λ z. x ∷ z) ih

module _ {P R : Type 0} where
  pub length_row : (t : Tree P R) → length (row_of t) ≡ size t
  length_row leaf = refl
  length_row (node l s p v r) =
      let a = length_row l in
      let b = length_row r in
      omega (arith, length-append (row_of l) (entry s p ∷ row_of r))

module _ {P : Type 0} where
  nth_left : (xs ys : List (Entry P)) (i : ℕ) (e : Entry P) → slice_get xs i ≡ Some e → slice_get (xs ++ ys) i ≡ Some e
  nth_left [] ys i e h = let z : ◌≡◌ {A = ℕ} 0 1 = cc in absurd (omega arith)
  nth_left (x ∷ xs) ys zero e h = h
  nth_left (x ∷ xs) ys (suc i) e h = nth_left xs ys i e h

  nth_here : (xs : List (Entry P)) (f : Entry P) (ys : List (Entry P)) → slice_get (xs ++ (f ∷ ys)) (length xs) ≡ Some f
  nth_here [] f ys = refl
  nth_here (x ∷ xs) f ys = nth_here xs f ys

  nth_right : (xs : List (Entry P)) (f : Entry P) (ys : List (Entry P)) (i : ℕ)
      → slice_get (xs ++ (f ∷ ys)) (length xs + 1 + i) ≡ slice_get ys i
  nth_right [] f ys i = let e : 0 + 1 + i ≡ suc i = omega arith in ap (slice_get (f ∷ ys)) e
  nth_right (x ∷ xs) f ys i =
      let e : suc (length xs) + 1 + i ≡ suc (length xs + 1 + i) = omega arith in
      ap (slice_get (x ∷ (xs ++ (f ∷ ys)))) e ∙ nth_right xs f ys i

module _ {P R : Type 0} (m : Model P R) (p : P) (s : ℕ) where
  pub ranked_low : (t : Tree P R) → ranked m p s t ≤ size t
  ranked_low leaf = omega arith
  ranked_low (node l k q v r) = go (eqb s k) (ahead m (entry s p) (entry k q)) (ranked_low l) (ranked_low r)
    where
      go : (c d : Bool) → ranked m p s l ≤ size l → ranked m p s r ≤ size r
          → cond c (size l) (cond d (ranked m p s l) (size l + 1 + ranked m p s r)) ≤ 1 + size l + size r
      go true d x y = omega arith
      go false true x y = omega arith
      go false false x y = omega arith

module _ {P R : Type 0} (m : Model P R) (laws : AheadLaws m) where
  module _ (p : P) (s : ℕ) where
    abbrev it : Entry P
    it = entry s p

    pub row_shrunk : (t : Tree P R) → Balanced t → ((j : ℕ) → times j t ≤ 1) → Sorted m (row_of t)
        → AllAdmitted m (row_of t) → In it (row_of t) → row_of (shrunk m p s t) ≡ without s (row_of t)
    row_shrunk leaf b u h a has = refl
    row_shrunk (node l k q v r) b u h a has =
        let w = around m (row_of l) (entry k q) (row_of r) h in
        let z = admitted_around m (row_of l) (entry k q) (row_of r) a in
        go (eqb s k) refl (ahead m (entry s p) (entry k q)) refl w z
        (row_shrunk l b.0 (λ j. omega (arith, u j)) w.sorted_l z.left)
        (row_shrunk r b.1 (λ j. omega (arith, u j)) w.sorted_r z.right)
      where
        f : Entry P
        f = entry k q

        cut : (c : Bool) → eqb s k ≡ c
            → without s (row_of l ++ (f ∷ row_of r)) ≡ without s (row_of l) ++ cond c (without s (row_of r))
            (f ∷ without s (row_of r))
        cut c is =
            without_append s (row_of l) (f ∷ row_of r)
            ∙ ap (λ z. without s (row_of l) ++ cond z (without s (row_of r)) (f ∷ without s (row_of r))) is

        go : (c : Bool) → eqb s k ≡ c → (d : Bool) → ahead m (entry s p) f ≡ d → Around m (row_of l) f (row_of r)
            → AdmittedAround m (row_of l) f (row_of r) → (In it (row_of l) → row_of (shrunk m p s l) ≡ without s (row_of l))
            → (In it (row_of r) → row_of (shrunk m p s r) ≡ without s (row_of r))
            → row_of (cond c (fused m l r) (cond d (evened m (shrunk m p s l) k q r) (evened m l k q (shrunk m p s r))))
            ≡ without s (row_of l ++ (f ∷ row_of r))
        go true is d id w z x y =
            let w₁ = fuses m l r k q v b in
            let zl : often s (row_of l) ≡ 0 = often_row s l ∙ grind (arith, nat_tests, u s) in
            let zr : often s (row_of r) ≡ 0 = often_row s r ∙ grind (arith, nat_tests, u s) in
            w₁.rows ∙ ap₂ ◌++◌ (sym (without_none s (row_of l) zl)) (sym (without_none s (row_of r) zr))
            ∙ sym (cut true is)
        go false is true id w z x y =
            let has-l = side m laws it f (row_of l) (row_of r) w z has (λ e. grind (arith, nat_tests)) true id in
            let zr : often s (row_of r) ≡ 0 = often_row s r ∙ omega (arith, u s, often_row s l, in_often has-l) in
            (same_even m (shrunk m p s l) k q r).rows
            ∙ ap₂ (λ i j. i ++ (f ∷ j)) (x has-l) (sym (without_none s (row_of r) zr)) ∙ sym (cut false is)
        go false is false id w z x y =
            let has_r = side m laws it f (row_of l) (row_of r) w z has (λ e. grind (arith, nat_tests)) false id in
            let zl : often s (row_of l) ≡ 0 = often_row s l ∙ omega (arith, u s, often_row s r, in_often has_r) in
            (same_even m l k q (shrunk m p s r)).rows
            ∙ ap₂ (λ i j. i ++ (f ∷ j)) (sym (without_none s (row_of l) zl)) (y has_r) ∙ sym (cut false is)

    pub ranked_nth : (t : Tree P R) → ((j : ℕ) → times j t ≤ 1) → Sorted m (row_of t) → AllAdmitted m (row_of t)
        → In it (row_of t) → slice_get (row_of t) (ranked m p s t) ≡ Some it
    ranked_nth leaf u h a has = elim has [ ]
    ranked_nth (node l k q v r) u h a has =
        let w = around m (row_of l) (entry k q) (row_of r) h in
        let z = admitted_around m (row_of l) (entry k q) (row_of r) a in
        go (eqb s k) refl (ahead m (entry s p) (entry k q)) refl w z
        (ranked_nth l (λ j. omega (arith, u j)) w.sorted_l z.left)
        (ranked_nth r (λ j. omega (arith, u j)) w.sorted_r z.right)
      where
        f : Entry P
        f = entry k q

        same : eqb s k ≡ true → In it (row_of l) ⊎ ((it ≡ f) ⊎ In it (row_of r)) → f ≡ it
        same is (inl x) = absurd (grind (arith, nat_tests, u s, often_row s l, in_often x))
        same is (inr (inl x)) = sym x
        same is (inr (inr x)) = absurd (grind (arith, nat_tests, u s, often_row s r, in_often x))

        go : (c : Bool) → eqb s k ≡ c → (d : Bool) → ahead m (entry s p) f ≡ d → Around m (row_of l) f (row_of r)
            → AdmittedAround m (row_of l) f (row_of r) → (In it (row_of l) → slice_get (row_of l) (ranked m p s l) ≡ Some it)
            → (In it (row_of r) → slice_get (row_of r) (ranked m p s r) ≡ Some it)
            → slice_get (row_of l ++ (f ∷ row_of r)) (cond c (size l) (cond d (ranked m p s l) (size l + 1 + ranked m p s r)))
            ≡ Some it
        go true is d id w z x y =
            ap (slice_get (row_of l ++ (f ∷ row_of r))) (sym (length_row l)) ∙ nth_here (row_of l) f (row_of r)
            ∙ ap (λ z. Some z) (same is (in_mid it (row_of l) f (row_of r) has))
        go false is true id w z x y =
            nth_left (row_of l) (f ∷ row_of r) _ it
            (x (side m laws it f (row_of l) (row_of r) w z has (λ e. grind (arith, nat_tests)) true id))
        go false is false id w z x y =
            ap (λ n. slice_get (row_of l ++ (f ∷ row_of r)) (n + 1 + ranked m p s r)) (sym (length_row l))
            ∙ nth_right (row_of l) f (row_of r) (ranked m p s r)
            ∙ y (side m laws it f (row_of l) (row_of r) w z has (λ e. grind (arith, nat_tests)) false id)
