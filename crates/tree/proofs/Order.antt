-- The order of the row, and where a new entry goes.
use Rattle.std.proofs.Common.{◌≡◌, ℕ, ◌+◌, ◌<◌, Bool, true, false, cond, ◌⊎◌, List, [], ◌∷◌, ◌++◌, sym, refl, ap, ◌∙◌, subst, inl, inr, ⊎_elim, true≢false, arith}
use mathlib.Core.Bool.{false≢true}
use Rattle.std.proofs.lemmas.Bool.Decides.{nat_tests}
use Rattle.kinds.specs.Rules.{Model, Admitted}
use Rattle.buckets.specs.Rows.{entry, In, here, later, ahead, inserted, Sorted, AllAdmitted, AheadLaws}
use Rattle.buckets.specs.declared.Entry.{Entry}
use Rattle.tree.specs.Tree.{Tree, leaf, node, row_of, times}
use Rattle.tree.specs.Shapes.{evened, grown}
use Rattle.tree.specs.Rows.{often}
use Rattle.tree.proofs.Balance.{same_even}

module _ {A : Type 0} where
  pub in_cons : {x y : A} {ys : List A} → In x (y ∷ ys) → (x ≡ y) ⊎ In x ys
  in_cons here = inl refl
  in_cons (later i) = inr i

  pub in_first : {x y : A} (ys : List A) → x ≡ y → In x (y ∷ ys)
  in_first {x} ys e = subst (λ u. In x (u ∷ ys)) e here

  in_left : {x : A} {xs : List A} (ys : List A) → In x xs → In x (xs ++ ys)
  in_left ys here = here
  in_left ys (later i) = later (in_left ys i)

  in_here : (xs : List A) (f : A) (ys : List A) → In f (xs ++ (f ∷ ys))
  in_here [] f ys = here
  in_here (x ∷ xs) f ys = later (in_here xs f ys)

  in_right : {x : A} (xs : List A) (f : A) {ys : List A} → In x ys → In x (xs ++ (f ∷ ys))
  in_right [] f i = later i
  in_right (z ∷ zs) f i = later (in_right zs f i)

  pub in_mid : (x : A) (xs : List A) (f : A) (ys : List A) → In x (xs ++ (f ∷ ys)) → In x xs ⊎ ((x ≡ f) ⊎ In x ys)
  in_mid x [] f ys i = inr (in_cons i)
  in_mid x (z ∷ zs) f ys here = inl here
  in_mid x (z ∷ zs) f ys (later i) = ⊎_elim (λ a. inl (later a)) inr (in_mid x zs f ys i)

module _ {P : Type 0} where
  pub often_append : (j : ℕ) (xs ys : List (Entry P)) → often j (xs ++ ys) ≡ often j xs + often j ys
  often_append j [] ys = omega arith
  often_append j (x ∷ xs) ys = let ih = often_append j xs ys in omega arith

  pub in_often : {e : Entry P} {es : List (Entry P)} → In e es → 0 < often e.set es
  in_often {e} (here {xs}) = grind (arith, nat_tests)
  in_often {e} (later {y} {xs} i) = omega (arith, in_often i)

module _ {P R : Type 0} where
  pub often_row : (j : ℕ) (t : Tree P R) → often j (row_of t) ≡ times j t
  often_row j leaf = refl
  often_row j (node l s p v r) =
      let a = often_row j l in
      let b = often_row j r in
      let c = often_append j (row_of l) (entry s p ∷ row_of r) in
      omega arith

module _ {P R : Type 0} (m : Model P R) where
  abbrev Ahead : Entry P → Entry P → Type 0
  Ahead e f = ahead m e f ≡ true

  abbrev Fine : Entry P → Type 0
  Fine e = Admitted m e.place

  -- What a sorted row says around one entry.
  pub record Around (xs : List (Entry P)) (f : Entry P) (ys : List (Entry P)) : Type 0 where
    pub sorted_l : Sorted m xs
    pub sorted_r : Sorted m ys
    pub left_of : (e : Entry P) → In e xs → Ahead e f
    pub right_of : (e : Entry P) → In e ys → Ahead f e

  pub around : (xs : List (Entry P)) (f : Entry P) (ys : List (Entry P)) → Sorted m (xs ++ (f ∷ ys)) → Around xs f ys
  around [] f ys s = record { sorted_l = tt; sorted_r = s.1; left_of = λ e i. elim i [ ]; right_of = s.0 }
  around (x ∷ xs) f ys s =
      let w = around xs f ys s.1 in
      record {
        sorted_l = ((λ e i. s.0 e (in_left (f ∷ ys) i)), w.sorted_l);
        sorted_r = w.sorted_r;
        left_of = λ e i. ⊎_elim (λ q. subst (λ z. Ahead z f) (sym q) (s.0 f (in_here xs f ys))) (w.left_of e)
            (in_cons i);
        right_of = w.right_of;
      }

  pub record AdmittedAround (xs : List (Entry P)) (f : Entry P) (ys : List (Entry P)) : Type 0 where
    pub left : AllAdmitted m xs
    pub mid : Fine f
    pub right : AllAdmitted m ys

  pub admitted_around : (xs : List (Entry P)) (f : Entry P) (ys : List (Entry P)) → AllAdmitted m (xs ++ (f ∷ ys))
      → AdmittedAround xs f ys
  admitted_around xs f ys a =
      record {
        left = λ e i. a e (in_left (f ∷ ys) i);
        mid = a f (in_here xs f ys);
        right = λ e i. a e
            (in_right xs f i);
      }

  inserted_only : (e x : Entry P) (es : List (Entry P)) → In x (inserted m e es) → (x ≡ e) ⊎ In x es
  inserted_only e x [] i = in_cons i
  inserted_only e x (f ∷ fs) i = go (ahead m e f) i (inserted_only e x fs)
    where
      go : (b : Bool) → In x (cond b (e ∷ (f ∷ fs)) (f ∷ inserted m e fs))
          → (In x (inserted m e fs) → (x ≡ e) ⊎ In x fs) → (x ≡ e) ⊎ In x (f ∷ fs)
      go true j rest = in_cons j
      go false j rest = ⊎_elim (λ q. inr (in_first fs q)) (λ k. ⊎_elim inl (λ l. inr (later l)) (rest k)) (in_cons j)

  pub admitted_inserted : (e : Entry P) (es : List (Entry P)) → Fine e → AllAdmitted m es
      → AllAdmitted m (inserted m e es)
  admitted_inserted e es fine a x i = ⊎_elim (λ q. subst Fine (sym q) fine) (a x) (inserted_only e x es i)

  -- An entry that stands ahead of f goes left of it.
  inserted_left : (e f : Entry P) (xs ys : List (Entry P)) → Ahead e f
      → inserted m e (xs ++ (f ∷ ys)) ≡ inserted m e xs ++ (f ∷ ys)
  inserted_left e f [] ys h = ap (λ b. cond b (e ∷ (f ∷ ys)) (f ∷ inserted m e ys)) h
  inserted_left e f (x ∷ xs) ys h = go (ahead m e x) (inserted_left e f xs ys h)
    where
      go : (b : Bool) → inserted m e (xs ++ (f ∷ ys)) ≡ inserted m e xs ++ (f ∷ ys)
          → cond b (e ∷ (x ∷ (xs ++ (f ∷ ys)))) (x ∷ inserted m e (xs ++ (f ∷ ys))) ≡ cond b (e ∷ (x ∷ xs))
          (x ∷ inserted m e xs) ++ (f ∷ ys)
      go true ih = refl
      go false ih = ap (λ t. x ∷ t) ih

  module _ (laws : AheadLaws m) where
    -- One that does not stand ahead of f goes right of it.
    inserted_right : (e f : Entry P) (xs ys : List (Entry P)) → Fine e → AllAdmitted m (xs ++ (f ∷ ys))
        → Sorted m (xs ++ (f ∷ ys)) → ahead m e f ≡ false → inserted m e (xs ++ (f ∷ ys)) ≡ xs ++ (f ∷ inserted m e ys)
    inserted_right e f [] ys fine a s h = ap (λ b. cond b (e ∷ (f ∷ ys)) (f ∷ inserted m e ys)) h
    inserted_right e f (x ∷ xs) ys fine a s h =
        go (ahead m e x) refl (inserted_right e f xs ys fine (λ g i. a g (later i)) s.1 h)
      where
        go : (b : Bool) → ahead m e x ≡ b → inserted m e (xs ++ (f ∷ ys)) ≡ xs ++ (f ∷ inserted m e ys)
            → cond b (e ∷ (x ∷ (xs ++ (f ∷ ys)))) (x ∷ inserted m e (xs ++ (f ∷ ys))) ≡ x ∷
            (xs ++ (f ∷ inserted m e ys))
        go true is ih =
            absurd (false≢true (sym h
            ∙ laws.transitive e x f fine (a x here) (a f (later (in_here xs f ys))) is (s.0 f (in_here xs f ys))))
        go false is ih = ap (λ t. x ∷ t) ih

    -- The row of the tree with one more entry.
    pub row_grown : (p : P) (s : ℕ) (t : Tree P R) → Admitted m p → AllAdmitted m (row_of t) → Sorted m (row_of t)
        → row_of (grown m p s t) ≡ inserted m (entry s p) (row_of t)
    row_grown p s leaf o a h = refl
    row_grown p s (node l k q v r) o a h =
        let w = admitted_around (row_of l) (entry k q) (row_of r) a in
        let z = around (row_of l) (entry k q) (row_of r) h in
        go (ahead m (entry s p) (entry k q)) refl (row_grown p s l o w.left z.sorted_l)
        (row_grown p s r o w.right z.sorted_r)
      where
        go : (b : Bool) → ahead m (entry s p) (entry k q) ≡ b → row_of (grown m p s l) ≡ inserted m (entry s p) (row_of l)
            → row_of (grown m p s r) ≡ inserted m (entry s p) (row_of r)
            → row_of (cond b (evened m (grown m p s l) k q r) (evened m l k q (grown m p s r))) ≡ inserted m (entry s p)
            (row_of l ++ (entry k q ∷ row_of r))
        go true is x y =
            (same_even m (grown m p s l) k q r).rows ∙ ap (λ z. z ++ (entry k q ∷ row_of r)) x
            ∙ sym (inserted_left (entry s p) (entry k q) (row_of l) (row_of r) is)
        go false is x y =
            (same_even m l k q (grown m p s r)).rows ∙ ap (λ z. row_of l ++ (entry k q ∷ z)) y
            ∙ sym (inserted_right (entry s p) (entry k q) (row_of l) (row_of r) o a h is)

    -- The row stays sorted.
    pub sorted_inserted : (e : Entry P) (es : List (Entry P)) → Fine e → AllAdmitted m es → often e.set es ≡ 0
        → Sorted m es → Sorted m (inserted m e es)
    sorted_inserted e [] fine a none s = ((λ f i. elim i [ ]), tt)
    sorted_inserted e (f ∷ fs) fine a none s =
        go (ahead m e f) refl (sorted_inserted e fs fine (λ x i. a x (later i)) (omega arith) s.1)
      where
        other : e ≡ f → ⊥
        other q = let x : e.set ≡ f.set = ap (λ z. z.set) q in grind (arith, nat_tests)

        before_all : ahead m e f ≡ true → (x : Entry P) → (x ≡ f) ⊎ In x fs → ahead m e x ≡ true
        before_all h x (inl q) = subst (λ u. ahead m e u ≡ true) (sym q) h
        before_all h x (inr i) = laws.transitive e f x fine (a f here) (a x (later i)) h (s.0 x i)

        first_stays : ahead m e f ≡ false → (x : Entry P) → (x ≡ e) ⊎ In x fs → ahead m f x ≡ true
        first_stays h x (inl q) =
            subst (λ u. ahead m f u ≡ true) (sym q)
            (laws.total e f fine (a f here) other (λ t. true≢false (sym t ∙ h)))
        first_stays h x (inr i) = s.0 x i

        go : (b : Bool) → ahead m e f ≡ b → Sorted m (inserted m e fs)
            → Sorted m (cond b (e ∷ (f ∷ fs)) (f ∷ inserted m e fs))
        go true h r = ((λ x i. before_all h x (in_cons i)), s)
        go false h r = ((λ x i. first_stays h x (inserted_only e x fs i)), r)

    asym : (e f : Entry P) → Fine e → Fine f → Ahead e f → Ahead f e → ⊥
    asym e f a b h k = laws.irreflexive e a (laws.transitive e f e a b a h k)

    -- On which side of f the entry e stands.
    pub side : (e f : Entry P) (xs ys : List (Entry P)) → Around xs f ys → AdmittedAround xs f ys
        → In e (xs ++ (f ∷ ys)) → (e.set ≡ f.set → ⊥) → (b : Bool) → ahead m e f ≡ b → In e (cond b xs ys)
    side e f xs ys w v i ne = go (in_mid e xs f ys i)
      where
        go : In e xs ⊎ ((e ≡ f) ⊎ In e ys) → (b : Bool) → ahead m e f ≡ b → In e (cond b xs ys)
        go (inl a) true is = a
        go (inl a) false is = absurd (false≢true (sym is ∙ w.left_of e a))
        go (inr (inl a)) b is = absurd (ne (ap (λ y. y.set) a))
        go (inr (inr a)) true is = absurd (asym e f (v.right e a) v.mid is (w.right_of e a))
        go (inr (inr a)) false is = a
