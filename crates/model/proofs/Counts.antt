-- Counting over a list of serials.
use Rattle.std.proofs.Common.{◌≡◌, ℕ, ◌+◌, ◌≤◌, Bool, true, false, cond, eqb, ◌⊎◌, List, [], ◌∷◌, sym, refl, ap, subst, inl, inr, arith, Option}
use Rattle.std.proofs.lemmas.Bool.{ne_eqb, eqb-true, eqb-false}
use Rattle.open_queries.specs.declared.entry.Stage.{Stage}
use Rattle.buckets.specs.Rows.{In, here, later}
use Rattle.model.specs.Histories.{count}
use Rattle.model.specs.Laws.{Distinct}

pub in_cons : {A : Type 0} {x y : A} {ys : List A} → In x (y ∷ ys) → (x ≡ y) ⊎ In x ys
in_cons here = inl refl
in_cons (later i) = inr i

abbrev pub bit : Bool → ℕ
bit true = 1
bit false = 0

pub count_cons : {X : Type 0} (p : X → Bool) (x : X) (xs : List X) → count p (x ∷ xs) ≡ bit (p x) + count p xs
count_cons p x xs = go (p x)
  where
    go : (b : Bool) → cond b (1 + count p xs) (count p xs) ≡ bit b + count p xs
    go true = refl
    go false = omega arith

-- How often a serial stands in a list.
abbrev pub times : ℕ → List ℕ → ℕ
times s xs = count (λ t. eqb t s) xs

pub times_none : (s : ℕ) (xs : List ℕ) → (In s xs → ⊥) → times s xs ≡ 0
times_none s [] out = refl
times_none s (x ∷ xs) out =
    let e = ne_eqb x s (λ q. out (subst (λ u. In u (x ∷ xs)) q here)) in
    let i = times_none s xs (λ m. out (later m)) in
    rw (e, i)

pub times_in : (s : ℕ) (xs : List ℕ) → 1 ≤ times s xs → In s xs
times_in s [] l = absurd (omega arith)
times_in s (x ∷ xs) l = go (eqb x s) refl l (times_in s xs)
  where
    go : (b : Bool) → eqb x s ≡ b → 1 ≤ cond b (1 + times s xs) (times s xs) → (1 ≤ times s xs → In s xs) → In s (x ∷ xs)
    go true e l rest = subst (λ u. In u (x ∷ xs)) (eqb-true x s e) here
    go false e l rest = later (rest l)

pub times_once : (s : ℕ) (xs : List ℕ) → Distinct xs → times s xs ≤ 1
times_once s [] d = omega arith
times_once s (x ∷ xs) d = go (eqb x s) refl (times_once s xs d.1)
  where
    go : (b : Bool) → eqb x s ≡ b → times s xs ≤ 1 → cond b (1 + times s xs) (times s xs) ≤ 1
    go true e i =
        let z = times_none s xs (subst (λ u. In u xs → ⊥) (eqb-true x s e) d.0) in
        omega arith
    go false e i = i

module _ (p : Option Stage → Bool) (f : ℕ → Option Stage) (s : ℕ) (x : Option Stage) where
  -- Setting the stage of a serial that is not in the list changes no count over it.
  pub count_apart : (ts : List ℕ) → (In s ts → ⊥)
      → count (λ t. p (cond (eqb s t) x (f t))) ts ≡ count (λ t. p (f t)) ts
  count_apart [] out = refl
  count_apart (t ∷ ts) out =
      let e = ne_eqb s t (λ q. out (subst (λ u. In u (t ∷ ts)) (sym q) here)) in
      let i = count_apart ts (λ m. out (later m)) in
      rw (e, i)

  -- Setting the stage of one that is.
  pub count_set : (ts : List ℕ) → Distinct ts → In s ts
      → count (λ t. p (cond (eqb s t) x (f t))) ts + bit (p (f s)) ≡ count (λ t. p (f t)) ts + bit (p x)
  count_set [] d i = elim i [ ]
  count_set (t ∷ ts) d i = go (eqb s t) refl (in_cons i) (count_set ts d.1)
    where
      a : count (λ t. p (cond (eqb s t) x (f t))) (t ∷ ts) ≡ bit (p (cond (eqb s t) x (f t))) + count (λ t. p (cond (eqb s t) x (f t))) ts
      a = count_cons (λ t. p (cond (eqb s t) x (f t))) t ts

      b : count (λ t. p (f t)) (t ∷ ts) ≡ bit (p (f t)) + count (λ t. p (f t)) ts
      b = count_cons (λ t. p (f t)) t ts

      go : (q : Bool) → eqb s t ≡ q → (s ≡ t) ⊎ In s ts
          → (In s ts → count (λ t. p (cond (eqb s t) x (f t))) ts + bit (p (f s)) ≡ count (λ t. p (f t)) ts + bit (p x))
          → count (λ t. p (cond (eqb s t) x (f t))) (t ∷ ts) + bit (p (f s)) ≡ count (λ t. p (f t)) (t ∷ ts) + bit (p x)
      go true e j rest =
          let z : s ≡ t = eqb-true s t e in
          let k = count_apart ts (subst (λ u. In u ts → ⊥) (sym z) d.0) in
          let c : bit (p (cond (eqb s t) x (f t))) ≡ bit (p x) = rw e in
          let w : bit (p (f t)) ≡ bit (p (f s)) = ap (λ u. bit (p (f u))) (sym z) in
          omega (arith, a, b)
      go false e (inl z) rest = absurd (eqb-false s t e z)
      go false e (inr j) rest =
          let k = rest j in
          let c : bit (p (cond (eqb s t) x (f t))) ≡ bit (p (f t)) = rw e in
          omega (arith, a, b)
