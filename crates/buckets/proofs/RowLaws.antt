-- The row is sorted, holds exactly the present sets, and is the only such list.
use Rattle.std.proofs.Common.{◌≡◌, ℕ, zero, suc, Bool, true, false, cond, ◌⊎◌, List, [], ◌∷◌, Some, None, Option, sym, refl, ap, ◌∙◌, subst, inl, inr, ⊎_elim, true≢false, arith}
use Rattle.std.proofs.lemmas.Bool.{cases_eq}
use Rattle.kinds.specs.Rules.{Model, Admitted}
use Rattle.buckets.specs.Rows.{entry, In, here, later, ahead, inserted, with_set, row, Sorted, AllAdmitted, OneEach, IsRow, PlacesAdmitted, RowLaws, AheadLaws}
use Rattle.buckets.specs.declared.Entry.{Entry}
use Rattle.buckets.proofs.Ahead.{same_entry}

pub in_cons : {A : Type 0} {x y : A} {ys : List A} → In x (y ∷ ys) → (x ≡ y) ⊎ In x ys
in_cons here = inl refl
in_cons (later i) = inr i

-- The first of a list, or a later one.
in_either : {A : Type 0} {x y : A} {ys : List A} → (x ≡ y) ⊎ In x ys → In x (y ∷ ys)
in_either {A} {x} {y} {ys} (inl e) = subst (λ u. In x (u ∷ ys)) e here
in_either (inr i) = later i

module _ {P R : Type 0} (m : Model P R) where
  inserted_itself : (e : Entry P) (es : List (Entry P)) → In e (inserted m e es)
  inserted_itself e [] = here
  inserted_itself e (f ∷ fs) = go (ahead m e f) (inserted_itself e fs)
    where
      go : (b : Bool) → In e (inserted m e fs) → In e (cond b (e ∷ (f ∷ fs)) (f ∷ inserted m e fs))
      go true i = here
      go false i = later i

  inserted_others : (e x : Entry P) (es : List (Entry P)) → In x es → In x (inserted m e es)
  inserted_others e x [] i = elim i [ ]
  inserted_others e x (f ∷ fs) i = go (ahead m e f) (in_cons i) (inserted_others e x fs)
    where
      go : (b : Bool) → (x ≡ f) ⊎ In x fs → (In x fs → In x (inserted m e fs)) → In x (cond b (e ∷ (f ∷ fs)) (f ∷ inserted m e fs))
      go true j rest = later (in_either j)
      go false (inl q) rest = in_either (inl q)
      go false (inr j) rest = later (rest j)

  inserted_only : (e x : Entry P) (es : List (Entry P)) → In x (inserted m e es) → (x ≡ e) ⊎ In x es
  inserted_only e x [] i = in_cons i
  inserted_only e x (f ∷ fs) i = go (ahead m e f) i (inserted_only e x fs)
    where
      go : (b : Bool) → In x (cond b (e ∷ (f ∷ fs)) (f ∷ inserted m e fs)) → (In x (inserted m e fs) → (x ≡ e) ⊎ In x fs)
          → (x ≡ e) ⊎ In x (f ∷ fs)
      go true j rest = in_cons j
      go false j rest = ⊎_elim (λ q. inr (in_either (inl q))) (λ k. ⊎_elim inl (λ l. inr (later l)) (rest k)) (in_cons j)

  module _ (laws : AheadLaws m) where
    inserted_sorted : (e : Entry P) (es : List (Entry P)) → Admitted m e.place → AllAdmitted m es
        → ((f : Entry P) → In f es → e ≡ f → ⊥) → Sorted m es → Sorted m (inserted m e es)
    inserted_sorted e [] a all ne s = ((λ f i. elim i [ ]), tt)
    inserted_sorted e (f ∷ fs) a all ne s =
        go (ahead m e f) refl
        (inserted_sorted e fs a (λ x i. all x (later i)) (λ x i. ne x (later i)) s.1)
      where
        before_all : ahead m e f ≡ true → (x : Entry P) → (x ≡ f) ⊎ In x fs → ahead m e x ≡ true
        before_all h x (inl q) = subst (λ u. ahead m e u ≡ true) (sym q) h
        before_all h x (inr i) = laws.transitive e f x a (all f here) (all x (later i)) h (s.0 x i)

        first_stays : ahead m e f ≡ false → (x : Entry P) → (x ≡ e) ⊎ In x fs → ahead m f x ≡ true
        first_stays h x (inl q) =
            subst (λ u. ahead m f u ≡ true) (sym q)
            (laws.total e f a (all f here) (ne f here) (λ t. true≢false (sym t ∙ h)))
        first_stays h x (inr i) = s.0 x i

        go : (b : Bool) → ahead m e f ≡ b → Sorted m (inserted m e fs) → Sorted m (cond b (e ∷ (f ∷ fs)) (f ∷ inserted m e fs))
        go true h r = ((λ x i. before_all h x (in_cons i)), s)
        go false h r = ((λ x i. first_stays h x (inserted_only e x fs i)), r)

    -- Sorted lists with the same members are the same.
    asym : (a b : Entry P) → Admitted m a.place → Admitted m b.place → ahead m a b ≡ true → ahead m b a ≡ true → ⊥
    asym a b fa fb p q = laws.irreflexive a fa (laws.transitive a b a fa fb fa p q)

    pub one_sorted : (xs ys : List (Entry P)) → AllAdmitted m xs → Sorted m xs → Sorted m ys
        → ((e : Entry P) → In e xs → In e ys) → ((e : Entry P) → In e ys → In e xs) → xs ≡ ys
    one_sorted [] [] a s r f g = refl
    one_sorted [] (y ∷ ys) a s r f g = elim (g y here) [ ]
    one_sorted (x ∷ xs) [] a s r f g = elim (f x here) [ ]
    one_sorted (x ∷ xs) (y ∷ ys) a s r f g =
        ap (λ e. e ∷ xs) first ∙ ap (λ l. y ∷ l) (one_sorted xs ys (λ e i. a e (later i)) s.1 r.1 to from)
      where
        fine : (e : Entry P) → In e (y ∷ ys) → Admitted m e.place
        fine e i = a e (g e i)

        first : x ≡ y
        first =
            ⊎_elim (λ q. q)
            (λ i. ⊎_elim sym (λ j. absurd (asym x y (a x here) (fine y here) (s.0 y j) (r.0 x i))) (in_cons (g y here)))
            (in_cons (f x here))

        to : (e : Entry P) → In e xs → In e ys
        to e i =
            ⊎_elim
            (λ q.
            let l = subst (λ u. ahead m u e ≡ true) (first ∙ sym q) (s.0 e i) in
            absurd (laws.irreflexive e (a e (later i)) l))
            (λ j. j)
            (in_cons (f e (later i)))

        from : (e : Entry P) → In e ys → In e xs
        from e i =
            ⊎_elim
            (λ q.
            let l = subst (λ u. ahead m u e ≡ true) (sym first ∙ sym q) (r.0 e i) in
            absurd (laws.irreflexive e (fine e (later i)) l))
            (λ j. j)
            (in_cons (g e (later i)))

    row_is : (at : ℕ → Option P) (c : ℕ) → PlacesAdmitted m at → IsRow m at c (row m at c)
    row_is at zero a =
        record { sorted = tt; holds = λ n p l h e. absurd (omega arith); only = λ e i. elim i [ ] }
    row_is at (suc c) a = go (at (suc c)) refl (row_is at c a)
      where
        go : (o : Option P) → at (suc c) ≡ o → IsRow m at c (row m at c) → IsRow m at (suc c) (with_set m (suc c) o (row m at c))
        go None e r =
            record {
              sorted = r.sorted;
              holds = λ n p l h q.
                  ⊎_elim
                  (λ s.
                  let z : at (suc c) ≡ Some p = ap at (sym s) ∙ q in
                  let w : ◌≡◌ {A = Option P} None (Some p) = sym e ∙ z in
                  absurd (let t : ◌≡◌ {A = ℕ} 0 1 = cc in omega arith))
                  (λ s. r.holds n p l (omega arith) q)
                  (cases_eq n (suc c));
              only = λ x i.
                  let k = r.only x i in (k.0, (omega (arith, k.1.0), k.1.1));
            }
        go (Some p) e r =
            record {
              sorted =
                  inserted_sorted (entry (suc c) p) (row m at c) (a (suc c) p e)
                  (λ x i. a x.set x.place (r.only x i).1.1)
                  (λ x i q. let k = r.only x i in let s : suc c ≡ x.set = ap (λ (u : Entry P). u.set) q in omega (arith, k.1.0))
                  r.sorted;
              holds = λ n q l h w.
                  ⊎_elim
                  (λ s.
                  let z : at n ≡ Some p = ap at s ∙ e in
                  let t : q ≡ p = cc in
                  subst (λ u. In u (inserted m (entry (suc c) p) (row m at c)))
                  (same_entry (entry (suc c) p) (entry n q) (sym s) (sym t))
                  (inserted_itself (entry (suc c) p) (row m at c)))
                  (λ s. inserted_others (entry (suc c) p) (entry n q) (row m at c) (r.holds n q l (omega arith) w))
                  (cases_eq n (suc c));
              only = λ x i.
                  ⊎_elim
                  (λ q.
                  let s : x.set ≡ suc c = ap (λ (u : Entry P). u.set) q in
                  let t : x.place ≡ p = ap (λ (u : Entry P). u.place) q in
                  (omega arith, (omega arith, ap at s ∙ e ∙ ap Some (sym t))))
                  (λ j. let k = r.only x j in (k.0, (omega (arith, k.1.0), k.1.1)))
                  (inserted_only (entry (suc c) p) x (row m at c) i);
            }

    -- Two entries of one set are one entry, and none stands ahead of itself.
    each_once : (at : ℕ → Option P) (es : List (Entry P)) → PlacesAdmitted m at → Sorted m es
        → ((e : Entry P) → In e es → at e.set ≡ Some e.place) → OneEach es
    each_once at [] a s o = tt
    each_once at (e ∷ es) a s o = (
      (λ f i q.
          let x = o e here in
          let y = o f (later i) in
          let z : at e.set ≡ at f.set = ap at q in
          let t : e.place ≡ f.place = cc in
          laws.irreflexive e (a e.set e.place x)
          (subst (λ u. ahead m e u ≡ true) (sym (same_entry e f q t)) (s.0 f i))),
      each_once at es a s.1 (λ f i. o f (later i)),
    )

    same_members : (at : ℕ → Option P) (c : ℕ) (xs ys : List (Entry P)) → IsRow m at c xs → IsRow m at c ys
        → (e : Entry P) → In e xs → In e ys
    same_members at c xs ys r s e i =
        let k = r.only e i in s.holds e.set e.place k.0 k.1.0 k.1.1

    pub row_laws : RowLaws m
    row_laws =
        record {
          row_is = row_is;
          one_each = λ at c a. let r = row_is at c a in each_once at (row m at c) a r.sorted (λ e i. (r.only e i).1.1);
          one_row = λ at c es a r.
              let s = row_is at c a in
              one_sorted es (row m at c) (λ e i. a e.set e.place (r.only e i).1.1) r.sorted s.sorted
              (same_members at c es (row m at c) r s) (same_members at c (row m at c) es s r);
        }
