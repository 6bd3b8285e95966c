-- Joins over parts of a row.
use Rattle.std.proofs.Common.{◌≡◌, ℕ, zero, suc, ◌+◌, ◌-◌, ◌<◌, ◌≤◌, List, [], ◌∷◌, ◌++◌, length, take, drop, sym, refl, ap, ◌∙◌, ap₂, arith}
use Rattle.std.proofs.lemmas.List.{take-append-le, drop-append-le}
use Rattle.kinds.specs.Rules.{Model, Laws}
use Rattle.tree.specs.Tree.{Tree, leaf, node, row_of, span, onto, Joined}
use Rattle.buckets.specs.Rows.{entry}
use Rattle.buckets.specs.declared.Entry.{Entry}
use Rattle.buckets.specs.Regions.{joined_with}

module _ {X : Type 0} where
  take_over : (xs : List X) (f : X) (ys : List X) (e : ℕ)
      → take (length xs + 1 + e) (xs ++ (f ∷ ys)) ≡ xs ++ (f ∷ take e ys)
  take_over [] f ys e = let h : 0 + 1 + e ≡ suc e = omega arith in ap (λ n. take n (f ∷ ys)) h
  take_over (x ∷ xs) f ys e =
      let h : suc (length xs) + 1 + e ≡ suc (length xs + 1 + e) = omega arith in
      ap (λ n. take n (x ∷ (xs ++ (f ∷ ys)))) h ∙ ap (λ z. x ∷ z) (take_over xs f ys e)

  drop_over : (xs : List X) (f : X) (ys : List X) (d : ℕ) → drop (length xs + 1 + d) (xs ++ (f ∷ ys)) ≡ drop d ys
  drop_over [] f ys d = let h : 0 + 1 + d ≡ suc d = omega arith in ap (λ n. drop n (f ∷ ys)) h
  drop_over (x ∷ xs) f ys d =
      let h : suc (length xs) + 1 + d ≡ suc (length xs + 1 + d) = omega arith in
      ap (λ n. drop n (x ∷ (xs ++ (f ∷ ys)))) h ∙ drop_over xs f ys d

module _ {P R : Type 0} (m : Model P R) (laws : Laws m) where
  over_append : (d : R) (xs ys : List (Entry P)) → joined_with m d (xs ++ ys) ≡ joined_with m (joined_with m d xs) ys
  over_append d [] ys = refl
  over_append d (x ∷ xs) ys = over_append (m.joined d (m.single x.place)) xs ys

  over_join : (d e : R) (xs : List (Entry P)) → joined_with m (m.joined d e) xs ≡ m.joined d (joined_with m e xs)
  over_join d e [] = refl
  over_join d e (x ∷ xs) =
      ap (λ z. joined_with m z xs) (laws.join_associative d e (m.single x.place))
      ∙ over_join d (m.joined e (m.single x.place)) xs

  over_swap : (d e : R) (xs : List (Entry P)) → joined_with m (m.joined d e) xs ≡ m.joined (joined_with m d xs) e
  over_swap d e xs =
      ap (λ z. joined_with m z xs) (laws.join_commutative d e) ∙ over_join e d xs
      ∙ laws.join_commutative e (joined_with m d xs)

  over_over : (d : R) (xs ys : List (Entry P))
      → joined_with m (joined_with m d xs) ys ≡ joined_with m (joined_with m d ys) xs
  over_over d [] ys = refl
  over_over d (x ∷ xs) ys =
      over_over (m.joined d (m.single x.place)) xs ys
      ∙ ap (λ z. joined_with m z xs) (over_swap d (m.single x.place) ys)

  -- A join may start with the middle entry.
  pub over_mid : (d : R) (xs : List (Entry P)) (f : Entry P) (ys : List (Entry P))
      → joined_with m d (xs ++ (f ∷ ys)) ≡ joined_with m (joined_with m (m.joined d (m.single f.place)) xs) ys
  over_mid d xs f ys =
      over_append d xs (f ∷ ys) ∙ ap (λ z. joined_with m z ys) (sym (over_swap d (m.single f.place) xs))

  pub span_over : (d : R) (t : Tree P R) → span m d t ≡ joined_with m d (row_of t)
  span_over d leaf = refl
  span_over d (node l s p v r) =
      ap (m.joined d) (ap (λ z. span m z r) (span_over (m.single p) l)
      ∙ span_over (joined_with m (m.single p) (row_of l)) r)
      ∙ sym (over_join d (joined_with m (m.single p) (row_of l)) (row_of r))
      ∙ ap (λ z. joined_with m z (row_of r)) (sym (over_join d (m.single p) (row_of l)))
      ∙ sym (over_mid d (row_of l) (entry s p) (row_of r))

  -- Where the stored regions are right, the root's gives the whole join.
  pub onto_span : (d : R) (t : Tree P R) → Joined m t → onto m d t ≡ span m d t
  onto_span d leaf h = refl
  onto_span d (node l s p v r) h =
      ap (m.joined d) (h.2 ∙ onto_span (onto m (m.single p) l) r h.1
      ∙ ap (λ z. span m z r) (onto_span (m.single p) l h.0))

  module _ (xs : List (Entry P)) (f : Entry P) (ys : List (Entry P)) (n : ℕ) (is : n ≡ length xs) where
    -- The part of a row from a rank on.
    pub suffix_right : (d : R) (i : ℕ) → n < i
        → joined_with m d (drop i (xs ++ (f ∷ ys))) ≡ joined_with m d (drop (i - n - 1) ys)
    suffix_right d i lt =
        let e : i ≡ length xs + 1 + (i - n - 1) = omega arith in
        ap (joined_with m d) (ap (λ k. drop k (xs ++ (f ∷ ys))) e ∙ drop_over xs f ys (i - n - 1))

    pub suffix_left : (d : R) (i : ℕ) → i ≤ n
        → joined_with m d (drop i (xs ++ (f ∷ ys))) ≡ joined_with m
        (joined_with m (m.joined d (m.single f.place)) ys) (drop i xs)
    suffix_left d i le =
        let h : i ≤ length xs = omega arith in
        ap (joined_with m d) (drop-append-le i xs (f ∷ ys) h) ∙ over_mid d (drop i xs) f ys
        ∙ over_over (m.joined d (m.single f.place)) (drop i xs) ys

    -- The part below a rank.
    pub prefix_left : (d : R) (i : ℕ) → i ≤ n → joined_with m d (take i (xs ++ (f ∷ ys))) ≡ joined_with m d (take i xs)
    prefix_left d i le = let h : i ≤ length xs = omega arith in ap (joined_with m d) (take-append-le i xs (f ∷ ys) h)

    pub prefix_right : (d : R) (i : ℕ) → n < i
        → joined_with m d (take i (xs ++ (f ∷ ys))) ≡ joined_with m
        (joined_with m (m.joined d (m.single f.place)) xs) (take (i - n - 1) ys)
    prefix_right d i lt =
        let e : i ≡ length xs + 1 + (i - n - 1) = omega arith in
        ap (joined_with m d) (ap (λ k. take k (xs ++ (f ∷ ys))) e ∙ take_over xs f ys (i - n - 1))
        ∙ over_mid d xs f (take (i - n - 1) ys)

    -- The part between two ranks.
    pub part_left : (i j : ℕ) → j ≤ n → drop i (take j (xs ++ (f ∷ ys))) ≡ drop i (take j xs)
    part_left i j le = let h : j ≤ length xs = omega arith in ap (drop i) (take-append-le j xs (f ∷ ys) h)

    pub part_right : (i j : ℕ) → n < i → i < j
        → drop i (take j (xs ++ (f ∷ ys))) ≡ drop (i - n - 1) (take (j - n - 1) ys)
    part_right i j lt le =
        let e : j ≡ length xs + 1 + (j - n - 1) = omega arith in
        let k : i ≡ length xs + 1 + (i - n - 1) = omega arith in
        ap (drop i) (ap (λ z. take z (xs ++ (f ∷ ys))) e ∙ take_over xs f ys (j - n - 1))
        ∙ ap (λ z. drop z (xs ++ (f ∷ take (j - n - 1) ys))) k ∙ drop_over xs f (take (j - n - 1) ys) (i - n - 1)

    pub part_mid : (i j : ℕ) → i ≤ n → n < j → drop i (take j (xs ++ (f ∷ ys))) ≡ drop i xs ++ (f ∷ take (j - n - 1) ys)
    part_mid i j le lt =
        let e : j ≡ length xs + 1 + (j - n - 1) = omega arith in
        let h : i ≤ length xs = omega arith in
        ap (drop i) (ap (λ z. take z (xs ++ (f ∷ ys))) e ∙ take_over xs f ys (j - n - 1))
        ∙ drop-append-le i xs (f ∷ take (j - n - 1) ys) h

  -- The join of a row that is not empty, from any of its entries.
  pub from_any : (xs : List (Entry P)) (f : Entry P) (ys : List (Entry P)) (e : Entry P) (es : List (Entry P))
      → xs ++ (f ∷ ys) ≡ e ∷ es
      → joined_with m (joined_with m (m.single f.place) xs) ys ≡ joined_with m (m.single e.place) es
  from_any [] f ys e es is =
      let a : f ≡ e = cc in
      let b : ys ≡ es = cc in
      ap₂ (λ x z. joined_with m (m.single x.place) z) a b
  from_any (x ∷ xs) f ys e es is =
      let a : x ≡ e = cc in
      let b : xs ++ (f ∷ ys) ≡ es = cc in
      ap (λ z. joined_with m (joined_with m z xs) ys)
      (laws.join_commutative (m.single f.place) (m.single x.place))
      ∙ sym (over_mid (m.single x.place) xs f ys)
      ∙ ap₂ (λ x z. joined_with m (m.single x.place) z) a b

pub drop_nil : {X : Type 0} (n : ℕ) → ◌≡◌ {A = List X} (drop n []) []
drop_nil zero = refl
drop_nil (suc n) = refl

pub take_nil : {X : Type 0} (n : ℕ) → ◌≡◌ {A = List X} (take n []) []
take_nil zero = refl
take_nil (suc n) = refl
