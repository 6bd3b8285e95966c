-- A table in which one slot changes: what it then says of each serial, and how many slots are in use.
use Rattle.std.proofs.Common.{◌≡◌, ℕ, zero, suc, ◌+◌, ◌<◌, ◌≤◌, Bool, true, false, cond, eqb, List, [], ◌∷◌, length, get_or, set, Some, None, Option, is_some, is_none, sym, refl, ap, ◌∙◌, subst, inl, inr, le_of_suc-le-suc, arith}
use Rattle.std.specs.List.{count_by, position}
use Rattle.std.proofs.lemmas.Bool.{cases_eq, cases_Bool}
use Rattle.std.proofs.lemmas.List.{set-get_or}
use Rattle.std.proofs.lemmas.List.Quantifiers.{position-Some}
use Rattle.std.proofs.lemmas.List.Sums.{sum_by-cons, sum_by-set, get_or-le-sum_by}
use Rattle.open_queries.specs.declared.entry.Stage.{Stage}
use Rattle.open_queries.specs.declared.entry.Stage.TheVariants.{Open, InHand}
use Rattle.open_queries.specs.declared.entry.Entry.{Entry}
use Rattle.open_queries.specs.Table.{Status, absent, open_by, in_hand_by, staged, slot_status, has, or_else, table_status, holders, in_use}
use Rattle.open_queries.specs.Marks.{in_stage, marked, mark_answer, weight}

abbrev bit : Bool → ℕ
bit b = cond b 1 0

-- how often a slot has a serial, and whether it is in use or free, as counts add it up
abbrev times : ℕ → Option Entry → ℕ
times s o = bit (has s o)

abbrev used : Option Entry → ℕ
used o = bit (is_some o)

abbrev free : Option Entry → ℕ
free o = bit (is_none o)

-- a slot that has not the serial says nothing of it
slot_status_none : (o : Option Entry) (s : ℕ) → times s o ≡ 0 → slot_status o s ≡ absent
slot_status_none None s h = refl
slot_status_none (Some e) s h = grind arith

or_else_absent : (x : Status) → or_else x absent ≡ x
or_else_absent absent = refl
or_else_absent (open_by n) = refl
or_else_absent (in_hand_by n) = refl

table_status_none : (os : List (Option Entry)) (s : ℕ) → holders os s ≡ 0 → table_status os s ≡ absent
table_status_none [] s h = refl
table_status_none (o ∷ os) s h =
    let c = sum_by-cons (times s) o os in
    rw (slot_status_none o s (omega arith), table_status_none os s (omega arith)) refl

-- where only one slot may have the serial, the table says what that slot says
table_status_set : (os : List (Option Entry)) (i : ℕ) (o : Option Entry) (s : ℕ) → i < length os → holders os s ≡ times s (get_or os i None) → table_status (set os i o) s ≡ slot_status o s
table_status_set [] i o s l h = absurd (omega arith)
table_status_set (x ∷ os) zero o s l h =
    let c = sum_by-cons (times s) x os in
    rw (table_status_none os s (omega arith)) (or_else_absent (slot_status o s))
table_status_set (x ∷ os) (suc i) o s l h =
    let c = sum_by-cons (times s) x os in
    let b = get_or-le-sum_by (times s) os i None (le_of_suc-le-suc l) in
    rw (slot_status_none x s (omega arith)) (table_status_set os i o s (le_of_suc-le-suc l) (omega arith))

table_status_at : (os : List (Option Entry)) (i s : ℕ) → i < length os → holders os s ≡ times s (get_or os i None) → table_status os s ≡ slot_status (get_or os i None) s
table_status_at os i s l h = ap (λ x. table_status x s) (sym (set-get_or os i None)) ∙ table_status_set os i (get_or os i None) s l h

table_status_other : (os : List (Option Entry)) (i : ℕ) (o : Option Entry) (s : ℕ) → i < length os → times s (get_or os i None) ≡ 0 → times s o ≡ 0 → table_status (set os i o) s ≡ table_status os s
table_status_other [] i o s l h k = refl
table_status_other (x ∷ os) zero o s l h k = rw (slot_status_none x s h, slot_status_none o s k) refl
table_status_other (x ∷ os) (suc i) o s l h k = ap (or_else (slot_status x s)) (table_status_other os i o s (le_of_suc-le-suc l) h k)

-- where no slot passes, the count is 0
count_by_none : {X : Type 0} (p : X → Bool) (xs : List X) → position p xs ≡ None → count_by p xs ≡ 0
count_by_none p [] h = refl
count_by_none p (x ∷ xs) h =
    let c = sum_by-cons (λ y. cond (p y) 1 0) x xs in
    elim (cases_Bool (p x)) [
      | inl t ↦ grind arith
      | inr f ↦ (let z : position p xs ≡ None = grind arith in let ih = count_by_none p xs z in grind arith)
    ]

-- each slot is in use or free
in_use_free : (os : List (Option Entry)) → in_use os + count_by is_none os ≡ length os
in_use_free [] = refl
in_use_free (o ∷ os) =
    let a = sum_by-cons used o os in
    let b = sum_by-cons free o os in
    let ih = in_use_free os in
    let one : used o + free o ≡ 1 = grind arith in
    omega arith

-- a query takes another stage or ends
abbrev pub turned : Entry → Option Stage → Option Entry
turned e None = None
turned e (Some x) = Some (record { serial = e.serial; set = e.set; stage = x })

-- the slot of a query in a stage
pub record Found (os : List (Option Entry)) (i n : ℕ) (from : Stage) (e : Entry) : Type 0 where
  pub within : i < length os
  pub at : get_or os i None ≡ Some e
  pub serial : e.serial ≡ n
  pub stage : e.stage ≡ from
  pub once : holders os n ≡ 1

status_found : (os : List (Option Entry)) (i n : ℕ) (from : Stage) (e : Entry) → Found os i n from e → table_status os n ≡ staged (Some from) e.set
status_found os i n from e f =
    let a : holders os n ≡ times n (get_or os i None) = rw f.at (grind (arith, f.once, f.serial)) in
    table_status_at os i n f.within a ∙ rw f.at (grind (arith, f.serial, f.stage))

status_turned : (os : List (Option Entry)) (i n : ℕ) (from : Stage) (e : Entry) (to : Option Stage) → Found os i n from e → table_status (set os i (turned e to)) n ≡ staged to e.set
status_turned os i n from e None f =
    let a : holders os n ≡ times n (get_or os i None) = rw f.at (grind (arith, f.once, f.serial)) in
    table_status_set os i None n f.within a
status_turned os i n from e (Some x) f =
    let a : holders os n ≡ times n (get_or os i None) = rw f.at (grind (arith, f.once, f.serial)) in
    table_status_set os i (turned e (Some x)) n f.within a ∙ grind (arith, f.serial)

marked_stage : (from : Stage) (to : Option Stage) (m : ℕ) → marked from to (staged (Some from) m) ≡ staged to m
marked_stage Open to m = refl
marked_stage InHand to m = refl

answer_stage : (from : Stage) (m : ℕ) → mark_answer from (staged (Some from) m) ≡ Some m
answer_stage Open m = refl
answer_stage InHand m = refl

weight_stage : (e : Entry) (to : Option Stage) → weight (staged to e.set) ≡ used (turned e to)
weight_stage e None = refl
weight_stage e (Some Open) = refl
weight_stage e (Some InHand) = refl

times_turned : (e : Entry) (to : Option Stage) (s : ℕ) → times s (turned e to) ≤ times s (Some e)
times_turned e None s = omega arith
times_turned e (Some x) s = omega arith

-- what follows where the slot of that query is turned
pub record Turns (os after : List (Option Entry)) (n : ℕ) (from : Stage) (to : Option Stage) (set : ℕ) : Type 0 where
  pub answers : Some set ≡ mark_answer from (table_status os n)
  pub statuses : (s : ℕ) → table_status after s ≡ cond (eqb n s) (marked from to (table_status os s)) (table_status os s)
  pub stand : in_use after + weight (table_status os n) ≡ in_use os + weight (table_status after n)
  pub fewer : (s : ℕ) → holders after s ≤ holders os s

pub turns : (os : List (Option Entry)) (i n : ℕ) (from : Stage) (e : Entry) (to : Option Stage) → Found os i n from e → (o : Option Entry) → o ≡ turned e to → Turns os (set os i o) n from to e.set
turns os i n from e to f o t = rw t (record {
  answers = rw was (sym (answer_stage from e.set));
  statuses = λ s. elim (cases_eq n s) [
    | inl q ↦ (let t : eqb n s ≡ true = grind arith in rw (t, ← q, was, is) (sym (marked_stage from to e.set)))
    | inr ne ↦
        (let t : eqb n s ≡ false = grind arith in
        let z : times s (Some e) ≡ 0 = grind (arith, f.serial) in
        let y = times_turned e to s in
        let x : times s (get_or os i None) ≡ 0 = rw f.at z in
        rw t (table_status_other os i (turned e to) s f.within x (omega arith)))
  ];
  stand = (
      let a = ap weight was ∙ weight_stage e (Some from) in
      let b = ap weight is ∙ weight_stage e to in
      let c = sum_by-set used os i (turned e to) None f.within in
      let d = ap used f.at in
      omega arith);
  fewer = λ s. (
      let c = sum_by-set (times s) os i (turned e to) None f.within in
      let d = ap (times s) f.at in
      let y = times_turned e to s in
      omega arith);
})
  where
    was : table_status os n ≡ staged (Some from) e.set
    was = status_found os i n from e f

    is : table_status (set os i (turned e to)) n ≡ staged to e.set
    is = status_turned os i n from e to f

-- where the query of a serial is not in the stage asked for, nothing changes
pub none_unless : (os : List (Option Entry)) (n : ℕ) (from : Stage) → in_stage from (table_status os n) ≡ false → None ≡ mark_answer from (table_status os n)
none_unless os n from h = rw h refl

pub same_unless : (os : List (Option Entry)) (n : ℕ) (from : Stage) (to : Option Stage) → in_stage from (table_status os n) ≡ false → (s : ℕ) → table_status os s ≡ cond (eqb n s) (marked from to (table_status os s)) (table_status os s)
same_unless os n from to h s =
    elim (cases_eq n s) [
      | inl e ↦ (let k : in_stage from (table_status os s) ≡ false = subst (λ (x : ℕ). in_stage from (table_status os x) ≡ false) e h in rw k (grind arith))
      | inr ne ↦ (let f : eqb n s ≡ false = grind arith in rw f refl)
    ]

pub no_stage_absent : (os : List (Option Entry)) (n : ℕ) (from : Stage) → position (has n) os ≡ None → in_stage from (table_status os n) ≡ false
no_stage_absent os n Open h = rw (table_status_none os n (count_by_none (has n) os h)) refl
no_stage_absent os n InHand h = rw (table_status_none os n (count_by_none (has n) os h)) refl

other_stage : (from st : Stage) (m : ℕ) → (st ≡ from → ⊥) → in_stage from (staged (Some st) m) ≡ false
other_stage Open Open m ne = absurd (ne refl)
other_stage Open InHand m ne = refl
other_stage InHand Open m ne = refl
other_stage InHand InHand m ne = absurd (ne refl)

no_stage_other : (os : List (Option Entry)) (i n : ℕ) (st from : Stage) (e : Entry) → Found os i n st e → (st ≡ from → ⊥) → in_stage from (table_status os n) ≡ false
no_stage_other os i n st from e f ne = rw (status_found os i n st e f) (other_stage from st e.set ne)

-- what a search by serial found
pub found_in : {os : List (Option Entry)} {i n : ℕ} {from : Stage} {e : Entry} → position (has n) os ≡ Some i → get_or os i None ≡ Some e → e.stage ≡ from → holders os n ≤ 1 → Found os i n from e
found_in {os} {i} {n} {from} {e} p a s u =
    let q = position-Some (has n) os i None p in
    let h : has n (Some e) ≡ true = ap (has n) (sym a) ∙ q.1 in
    let b = get_or-le-sum_by (times n) os i None q.0 in
    let d = ap (times n) a in
    record { within = q.0; at = a; serial = grind arith; stage = s; once = grind arith }

pub no_stage_at : (os : List (Option Entry)) (i n : ℕ) (from : Stage) → position (has n) os ≡ Some i → holders os n ≤ 1 → ((e : Entry) → get_or os i None ≡ Some e → e.stage ≡ from → ⊥) → in_stage from (table_status os n) ≡ false
no_stage_at os i n from p u ne = go (get_or os i None) refl
  where
    go : (o : Option Entry) → get_or os i None ≡ o → in_stage from (table_status os n) ≡ false
    go None a = absurd (let q = position-Some (has n) os i None p in let h : has n None ≡ true = ap (has n) (sym a) ∙ q.1 in grind arith)
    go (Some e) a = no_stage_other os i n e.stage from e (found_in p a refl u) (ne e a)

-- whether a slot is free
pub full : (os : List (Option Entry)) → position is_none os ≡ None → in_use os ≡ length os
full os h =
    let a = count_by_none is_none os h in
    let b = in_use_free os in
    omega arith

pub room : (os : List (Option Entry)) (i : ℕ) → position is_none os ≡ Some i → in_use os < length os
room os i h =
    let q = position-Some is_none os i None h in
    let a = get_or-le-sum_by free os i None q.0 in
    let d : free (get_or os i None) ≡ 1 = ap bit q.1 in
    let b = in_use_free os in
    omega arith

-- what follows where a free slot takes a new query
is_free : (o : Option Entry) → is_none o ≡ true → o ≡ None
is_free None h = refl
is_free (Some e) h = absurd (grind arith)

vacant : (os : List (Option Entry)) (i : ℕ) → position is_none os ≡ Some i → get_or os i None ≡ None
vacant os i h = is_free (get_or os i None) (position-Some is_none os i None h).1

holders_put : (os : List (Option Entry)) (i : ℕ) (e : Entry) (s : ℕ) → position is_none os ≡ Some i → holders (set os i (Some e)) s ≡ holders os s + cond (eqb e.serial s) 1 0
holders_put os i e s h =
    let c = sum_by-set (times s) os i (Some e) None (position-Some is_none os i None h).0 in
    let d = ap (times s) (vacant os i h) in
    omega arith

pub in_use_put : (os : List (Option Entry)) (i : ℕ) (e : Entry) → position is_none os ≡ Some i → in_use (set os i (Some e)) ≡ in_use os + 1
in_use_put os i e h =
    let c = sum_by-set used os i (Some e) None (position-Some is_none os i None h).0 in
    let d = ap used (vacant os i h) in
    omega arith

pub table_status_put : (os : List (Option Entry)) (i : ℕ) (e : Entry) (s : ℕ) → position is_none os ≡ Some i → holders os e.serial ≡ 0 → table_status (set os i (Some e)) s ≡ cond (eqb e.serial s) (staged (Some e.stage) e.set) (table_status os s)
table_status_put os i e s h z =
    let l = (position-Some is_none os i None h).0 in
    elim (cases_eq e.serial s) [
      | inl q ↦
          (let t : eqb e.serial s ≡ true = grind arith in
          let b : holders os e.serial ≡ times e.serial (get_or os i None) = rw (vacant os i h) z in
          rw (t, ← q) (table_status_set os i (Some e) e.serial l b ∙ grind arith))
      | inr ne ↦
          (let t : eqb e.serial s ≡ false = grind arith in
          rw t (table_status_other os i (Some e) s l (ap (times s) (vacant os i h)) (grind arith)))
    ]

pub once_put : (os : List (Option Entry)) (i : ℕ) (e : Entry) (s : ℕ) → position is_none os ≡ Some i → holders os e.serial ≡ 0 → holders os s ≤ 1 → holders (set os i (Some e)) s ≤ 1
once_put os i e s h z u = let p = holders_put os i e s h in grind arith

pub past_put : (os : List (Option Entry)) (i : ℕ) (e : Entry) (s : ℕ) → position is_none os ≡ Some i → e.serial < s → holders os s ≡ 0 → holders (set os i (Some e)) s ≡ 0
past_put os i e s h l z = let p = holders_put os i e s h in grind arith
