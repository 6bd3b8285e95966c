-- The row: the present sets in the order in which buckets are cut from them.
use Rattle.std.specs.Prelude.{◌≡◌, ℕ, zero, suc, ◌≤◌, Bool, true, cond, List, [], ◌∷◌, Some, None, Option, ◌==◌, ◌≢◌}
use Rattle.std.specs.Ordering.{ordering_then, is_lt, nat_cmp}
use Rattle.kinds.specs.Rules.{Model, Admitted}
use Rattle.buckets.specs.declared.Entry.{Entry}

abbrev pub entry : {P : Type 0} → ℕ → P → Entry P
entry n p = record { set = n; place = p }

-- x stands in the list.
pub data In {A : Type 0} (x : A) : List A → Type 0 where
  here : {xs : List A} → In x (x ∷ xs)
  later : {y : A} {xs : List A} → In x xs → In x (y ∷ xs)

-- The rank of a set is the number of sets before it.
abbrev pub rank_of : {P : Type 0} → ℕ → List (Entry P) → ℕ
rank_of n [] = 0
rank_of n (e ∷ es) = cond (e.set == n) 0 (suc (rank_of n es))

-- No set has two entries.
abbrev pub OneEach : {P : Type 0} → List (Entry P) → Type 0
OneEach [] = Unit {0}
OneEach {P} (e ∷ es) = ((f : Entry P) → In f es → e.set ≢ f.set) × OneEach es

module _ {P R : Type 0} (m : Model P R) where
  -- Which of two entries stands first: by place, and by set number where places are equal.
  abbrev pub ahead : Entry P → Entry P → Bool
  ahead a b = is_lt (ordering_then (m.order a.place b.place) (nat_cmp a.set b.set))

  -- A list with one more entry, before the first that it stands ahead of.
  abbrev pub inserted : Entry P → List (Entry P) → List (Entry P)
  inserted e [] = e ∷ []
  inserted e (f ∷ fs) = cond (ahead e f) (e ∷ (f ∷ fs)) (f ∷ inserted e fs)

  abbrev pub with_set : ℕ → Option P → List (Entry P) → List (Entry P)
  with_set n None es = es
  with_set n (Some p) es = inserted (entry n p) es

  -- The row of those of the sets 1 to c that are present, where `at` tells who is present where.
  abbrev pub row : (ℕ → Option P) → ℕ → List (Entry P)
  row at zero = []
  row at (suc c) = with_set (suc c) (at (suc c)) (row at c)

  -- Each entry stands ahead of all that follow it.
  abbrev pub Sorted : List (Entry P) → Type 0
  Sorted [] = Unit {0}
  Sorted (e ∷ es) = ((f : Entry P) → In f es → ahead e f ≡ true) × Sorted es

  -- Every place of a list is admitted.
  abbrev pub AllAdmitted : List (Entry P) → Type 0
  AllAdmitted es = (e : Entry P) → In e es → Admitted m e.place

  -- The list is sorted, and holds the sets of 1 to c that are present, each at its place, and no others.
  pub record IsRow (at : ℕ → Option P) (c : ℕ) (es : List (Entry P)) : Type 0 where
    pub sorted : Sorted es
    pub holds : (n : ℕ) (p : P) → 1 ≤ n → n ≤ c → at n ≡ Some p → In (entry n p) es
    pub only : (e : Entry P) → In e es → (1 ≤ e.set) × ((e.set ≤ c) × (at e.set ≡ Some e.place))

  -- Every place at which a set is present is admitted.
  abbrev pub PlacesAdmitted : (ℕ → Option P) → Type 0
  PlacesAdmitted at = (n : ℕ) (p : P) → at n ≡ Some p → Admitted m p

  -- The row is such a list, and the only one.
  pub record RowLaws : Type 0 where
    pub row_is : (at : ℕ → Option P) (c : ℕ) → PlacesAdmitted at → IsRow at c (row at c)
    pub one_each : (at : ℕ → Option P) (c : ℕ) → PlacesAdmitted at → OneEach (row at c)
    pub one_row : (at : ℕ → Option P) (c : ℕ) (es : List (Entry P)) → PlacesAdmitted at → IsRow at c es → es ≡ row at c

-- What the proofs above use of who stands first, on entries at admitted places.
pub record AheadLaws {P R : Type 0} (m : Model P R) : Type 0 where
  pub irreflexive : (a : Entry P) → Admitted m a.place → ahead m a a ≢ true
  pub transitive : (a b c : Entry P) → Admitted m a.place → Admitted m b.place → Admitted m c.place
      → ahead m a b ≡ true → ahead m b c ≡ true → ahead m a c ≡ true
  pub total : (a b : Entry P) → Admitted m a.place → Admitted m b.place → (a ≢ b)
      → (ahead m a b ≢ true) → ahead m b a ≡ true
