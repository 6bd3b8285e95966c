-- What the parts hold after one more event, and what they answer.
use Rattle.std.proofs.Common.{◌≡◌, ℕ, ◌+◌, ◌≤◌, Bool, true, false, cond, eqb, leb, List, [], ◌∷◌, length, drop, is_some, is_ok, Some, None, Ok, Err, Option, Result, sym, refl, ap, ◌∙◌, subst, add_comm, arith, length-append, length-drop}
use mathlib.Core.Bool.{false≢true}
use Rattle.std.proofs.lemmas.List.{drop-drop, drop-append-le}
use Rattle.std.proofs.lemmas.Bool.{eqb-true, eqb-false, leb-true}
use Rattle.refusals.specs.declared.Refusal.{Refusal}
use Rattle.kinds.specs.declared.fault.KindFault.{KindFault}
use Rattle.kinds.specs.Rules.{Model}
use Rattle.kinds.specs.Faults.{kind_refusal, checked, fitted}
use Rattle.buckets.specs.declared.Ends.{Ends}
use Rattle.buckets.specs.Ends.{bucket_number, ends_of}
use Rattle.buckets.specs.Rows.{rank_of, RowLaws}
use Rattle.buckets.specs.Rows as rows
use Rattle.buckets.specs.Regions.{region_over, RegionLaws}
use Rattle.register.specs.declared.bucket.Bucket.{Bucket}
use Rattle.register.specs.declared.fault.RegisterFault.{RegisterFault}
use Rattle.register.specs.declared.fault.RegisterFault.TheVariants as register_fault
use Rattle.register.specs.Faults.{register_refusal}
use Rattle.register.specs.Answers.{numbered, size_allowed, if_true, if_admitted, if_absent, if_present, bucket_in}
use Rattle.register.specs.Answers as registers
use Rattle.lines.specs.declared.fault.LineFault.{LineFault}
use Rattle.lines.specs.declared.fault.LineFault.TheVariants as line_fault
use Rattle.lines.specs.Meaning.{spare_of, newer, oldest, after_take}
use Rattle.lines.specs.MessageFaults.{message_refusal, text_checked, line_refusal}
use Rattle.open_queries.specs.declared.entry.Stage.{Stage}
use Rattle.open_queries.specs.declared.entry.Stage.TheVariants.{Open, InHand}
use Rattle.open_queries.specs.declared.handover.Handover.{Handover}
use Rattle.open_queries.specs.Table.{Status, staged, open_by}
use Rattle.open_queries.specs.declared.fault.OpenFault.{OpenFault}
use Rattle.open_queries.specs.declared.fault.OpenFault.TheVariants as open_fault
use Rattle.open_queries.specs.Calls.{at_serial, open_refusal, collect_answer, return_answer, give_up_answer, first_serial}
use Rattle.open_queries.specs.Calls as queries
use Rattle.model.specs.Events.{Call, enter, move, leave, query, query_by, take_message, collect, hand_over, put_back, give_up, Query, unspent, Event, entered, moved, left, asked, taken, collected, handed_over, returned, given_up, refused, History, space_of}
use Rattle.model.specs.Changes.{Change, opens, collects, hands_over, puts_back, gives_up, is_hand_over, is_give_up, query_in, is_open, is_in_hand}
use Rattle.model.specs.Histories.{Box, count, passes, with_query, with_message, staged_by, asked_by, place_change, placed_by, place_of, query_change, is_take, asked_in, stage, asker, status, serials, hand_overs, give_ups, standing, message_of, message_with, row, bucket, sent, waiting, next_serial}
use Rattle.model.specs.Outcomes.{Life, judged, outcome, first_refusal, refused_as, refused_when, refused_unless}
use Rattle.model.specs.Parts.{changed, opened, ended, answered, Follows, Leads, OnRegister, OnQueries, PartAnswers}
use Rattle.model.proofs.OneLife.{extends}
use Rattle.model.specs.Laws.{HasBucket}
use Rattle.model.proofs.Members.{AllEndsLaws, AllMemberLaws}
use Rattle.model.proofs.RegionLeast.{some_of, bucketed}
use Rattle.model.proofs.AskerHidden.{row_same}
use Rattle.model.proofs.Checks.{accepted_passed, when_passed}
use Rattle.model.proofs.QueriesKept.{Fits, fits, queries_kept}

-- What a call on the open queries makes of the status of its serial.
collected_from : (x : Option Stage) (n : ℕ) → is_open x ≡ true → staged (Some InHand) n ≡ queries.collected (staged x n)
collected_from None n e = absurd (false≢true e)
collected_from (Some Open) n e = refl
collected_from (Some InHand) n e = absurd (false≢true e)

handed_from : (x : Option Stage) (n : ℕ) → is_in_hand x ≡ true → staged None n ≡ queries.handed_over (staged x n)
handed_from None n e = absurd (false≢true e)
handed_from (Some Open) n e = absurd (false≢true e)
handed_from (Some InHand) n e = refl

back_from : (x : Option Stage) (n : ℕ) → is_in_hand x ≡ true → staged (Some Open) n ≡ queries.put_back (staged x n)
back_from None n e = absurd (false≢true e)
back_from (Some Open) n e = absurd (false≢true e)
back_from (Some InHand) n e = refl

given_up_from : (x : Option Stage) (n : ℕ) → is_open x ≡ true → staged None n ≡ queries.given_up (staged x n)
given_up_from None n e = absurd (false≢true e)
given_up_from (Some Open) n e = refl
given_up_from (Some InHand) n e = absurd (false≢true e)

-- Its status alone is changed, to one stage.
at_one : (f : ℕ → Option Stage) (by : ℕ → ℕ) (n s : ℕ) (x : Option Stage) (change : Status → Status)
    → staged x (by n) ≡ change (staged (f n) (by n))
    → staged (cond (eqb n s) x (f s)) (by s) ≡ cond (eqb n s) (change (staged (f s) (by s))) (staged (f s) (by s))
at_one f by n s x change same = go (eqb n s) refl
  where
    go : (b : Bool) → eqb n s ≡ b → staged (cond b x (f s)) (by s) ≡ cond b (change (staged (f s) (by s))) (staged (f s) (by s))
    go true e = subst (λ u. staged x (by u) ≡ change (staged (f u) (by u))) (eqb-true n s e) same
    go false e = refl

status_changed : (next : ℕ) (f : ℕ → Option Stage) (by : ℕ → ℕ) (s : ℕ) (c : Option Change) → Fits next f c
    → staged (staged_by c s (f s)) (asked_by (elim c as (λ _. Option Query) [ None ↦ None | Some d ↦ query_in d ]) s (by s))
    ≡ changed c (λ t. staged (f t) (by t)) s
status_changed next f by s None fit = refl
status_changed next f by s (Some (opens q)) fit = go (eqb q.serial s)
  where
    go : (b : Bool) → staged (cond b (Some Open) (f s)) (cond b q.set (by s)) ≡ cond b (open_by q.set) (staged (f s) (by s))
    go true = refl
    go false = refl
status_changed next f by s (Some (collects n)) fit =
    at_one f by n s (Some InHand) queries.collected (collected_from (f n) (by n) fit)
status_changed next f by s (Some (hands_over n)) fit =
    at_one f by n s None queries.handed_over (handed_from (f n) (by n) fit)
status_changed next f by s (Some (puts_back n)) fit = at_one f by n s (Some Open) queries.put_back (back_from (f n) (by n) fit)
status_changed next f by s (Some (gives_up n)) fit =
    at_one f by n s None queries.given_up (given_up_from (f n) (by n) fit)

-- How many stand, from the two balances.
stand_changed : (c : Option Change) (xs : List ℕ) (handed given before after : ℕ)
    → length (with_query (elim c as (λ _. Option Query) [ None ↦ None | Some d ↦ query_in d ]) xs)
    ≡ cond (passes is_hand_over c) (1 + handed) handed + cond (passes is_give_up c) (1 + given) given + after
    → length xs ≡ handed + given + before → after + ended c ≡ before + opened c
stand_changed None xs handed given before after p q = omega arith
stand_changed (Some (opens r)) xs handed given before after p q = omega arith
stand_changed (Some (collects s)) xs handed given before after p q = omega arith
stand_changed (Some (hands_over s)) xs handed given before after p q = omega arith
stand_changed (Some (puts_back s)) xs handed given before after p q = omega arith
stand_changed (Some (gives_up s)) xs handed given before after p q = omega arith

next_changed : (first : ℕ) (xs : List ℕ) (c : Option Change)
    → first + length (with_query (elim c as (λ _. Option Query) [ None ↦ None | Some d ↦ query_in d ]) xs)
    ≡ first + length xs + opened c
next_changed first xs None = omega arith
next_changed first xs (Some (opens q)) = omega arith
next_changed first xs (Some (collects s)) = omega arith
next_changed first xs (Some (hands_over s)) = omega arith
next_changed first xs (Some (puts_back s)) = omega arith
next_changed first xs (Some (gives_up s)) = omega arith

-- What waits: a message joins at the end, and a take removes the oldest.
longer : (o : Option (List ℕ)) (ms : List (List ℕ)) → length ms ≤ length (with_message o ms)
longer None ms = omega arith
longer (Some x) ms = let a = length-append ms (x ∷ []) in omega arith

joins : (n : ℕ) (ms : List (List ℕ)) (o : Option (List ℕ)) → n ≤ length ms → drop n (with_message o ms) ≡ with_message o (drop n ms)
joins n ms None l = refl
joins n ms (Some x) l = drop-append-le n ms (x ∷ []) l

drop_one : (ms : List (List ℕ)) → drop 1 ms ≡ newer ms
drop_one [] = refl
drop_one (x ∷ ms) = refl

leaves : (n : ℕ) (ms : List (List ℕ)) → drop (1 + n) ms ≡ newer (drop n ms)
leaves n ms = ap (λ k. drop k ms) (add_comm 1 n) ∙ sym (drop-drop 1 n ms) ∙ drop_one (drop n ms)

-- A take finds a message.
abbrev Finds : Bool → List (List ℕ) → Type 0
Finds true ms = 1 ≤ length ms
Finds false ms = Unit {0}

module _ {P R : Type 0} {m : Model P R} (box : Box m) where
  finds : (e : Event P) (h : History P) → Life box (e ∷ h) → Finds (is_take e) (waiting box h)
  finds (entered n p) h l = tt
  finds (moved n p) h l = tt
  finds (left n) h l = tt
  finds (asked q) h l = tt
  finds (taken b c) h l =
      let k = when_passed (eqb (length (waiting box h)) 0) _ (accepted_passed box (taken b c) h refl l).0.1.0 in
      let z = eqb-false (length (waiting box h)) 0 k in
      omega arith
  finds (collected s g) h l = tt
  finds (handed_over g n) h l = tt
  finds (returned g n) h l = tt
  finds (given_up s) h l = tt
  finds (refused c r b) h l = tt

  takes_fit : (h : History P) → Life box h → count is_take h ≤ length (sent box h)
  takes_fit [] l = omega arith
  takes_fit (e ∷ h) l = go (is_take e) (finds e h l) (takes_fit h l.1) (longer (message_of box h (asked_in e)) (sent box h))
    where
      go : (b : Bool) → Finds b (waiting box h) → count is_take h ≤ length (sent box h)
          → length (sent box h) ≤ length (with_message (message_of box h (asked_in e)) (sent box h))
          → cond b (1 + count is_take h) (count is_take h) ≤ length (with_message (message_of box h (asked_in e)) (sent box h))
      go true f i k = let d = length-drop (count is_take h) (sent box h) in omega arith
      go false f i k = omega arith

  waits_after : (e : Event P) (h : History P) → Life box h
      → waiting box (e ∷ h) ≡ cond (is_take e) (newer (waiting box h)) (with_message (message_of box h (asked_in e)) (waiting box h))
  waits_after (entered n p) h l = refl
  waits_after (moved n p) h l = refl
  waits_after (left n) h l = refl
  waits_after (asked q) h l = joins (count is_take h) (sent box h) (message_of box h (Some q)) (takes_fit h l)
  waits_after (taken b c) h l = leaves (count is_take h) (sent box h)
  waits_after (collected s g) h l = refl
  waits_after (handed_over g n) h l = refl
  waits_after (returned g n) h l = refl
  waits_after (given_up s) h l = refl
  waits_after (refused c r b) h l = refl

  pub follows : (h : History P) (e : Event P) → Life box (e ∷ h) → Follows box h e
  follows h e l =
      record {
        statuses = λ s. status_changed (next_serial box h) (stage h) (asker h) s (query_change e) (fits box e h l);
        stand =
            let a = (queries_kept box (e ∷ h) l).balance in
            let b = (queries_kept box h l.1).balance in
            stand_changed (query_change e) (serials h) (hand_overs h) (give_ups h) (standing h) (standing (e ∷ h))
            (omega arith) (omega arith);
        next = next_changed (first_serial box.first) (serials h) (query_change e);
        waits = waits_after e h l.1;
      }

  module _ (h : History P) (l : Life box h) where
    -- A call that is refused changes nothing.
    quiet : (c : Call P) (r : Refusal) (after : ℕ → Status) → outcome box h c ≡ refused c r (space_of c)
        → ((s : ℕ) → status h s ≡ after s) → Leads box h c (refused c r (space_of c)) (place_of h) after 0 (waiting box h)
    quiet c r after q e =
        record { right = q; places = λ n. refl; statuses = e; stand = omega arith; next = refl; waits = refl }

    unchanged : (n s : ℕ) (change : Status → Status) → status h n ≡ change (status h n)
        → status h s ≡ at_serial n change (status h) s
    unchanged n s change same = go (eqb n s) refl
      where
        go : (b : Bool) → eqb n s ≡ b → status h s ≡ cond b (change (status h s)) (status h s)
        go true e = subst (λ u. status h u ≡ change (status h u)) (eqb-true n s e) same
        go false e = refl

    after_outcome : (c : Call P) (e : Event P) → outcome box h c ≡ e → Follows box h e
    after_outcome c e q = follows h e (subst (λ x. Life box (x ∷ h)) q (extends box h c l))

    -- An accepted one that opens no query, whose event says what changes.
    loud : (c : Call P) (e : Event P) → opened (query_change e) ≡ 0 → outcome box h c ≡ e
        → Leads box h c e (λ n. placed_by (place_change e) n (place_of h n)) (changed (query_change e) (status h))
        (ended (query_change e))
        (cond (is_take e) (newer (waiting box h)) (with_message (message_of box h (asked_in e)) (waiting box h)))
    loud c e z q =
        let f = after_outcome c e q in
        record {
          right = q;
          places = λ n. refl;
          statuses = f.statuses;
          stand = omega (arith, f.stand);
          next = omega (arith, f.next);
          waits = f.waits;
        }

    abbrev enter_answered : Bool → Result (Unit {0}) KindFault → Option P → Result (Unit {0}) RegisterFault
    enter_answered x y o = if_true x register_fault.NoSuchSet (if_admitted y (if_absent o (Ok tt)))

    entering : (n : ℕ) (p : P) (x : Bool) → numbered box.capacity n ≡ x → (y : Result (Unit {0}) KindFault) → checked m p ≡ y
        → (o : Option P) → place_of h n ≡ o → OnRegister box h (enter n p) (entered n p) n (Some p) (enter_answered x y o)
    entering n p false ex y ey o eo =
        quiet (enter n p) (register_refusal register_fault.NoSuchSet) (status h) (rw ex) (λ s. refl)
    entering n p true ex (Err e) ey o eo = quiet (enter n p) (kind_refusal e) (status h) (rw (ex, ey)) (λ s. refl)
    entering n p true ex (Ok u) ey (Some q) eo =
        quiet (enter n p) (register_refusal register_fault.AlreadyPresent) (status h) (rw (ex, ey, eo)) (λ s. refl)
    entering n p true ex (Ok u) ey None eo = loud (enter n p) (entered n p) refl (rw (ex, ey, eo))

    abbrev move_answered : Bool → Result (Unit {0}) KindFault → Option P → Result (Unit {0}) RegisterFault
    move_answered x y o = if_true x register_fault.NoSuchSet (if_admitted y (if_present o (λ _. Ok tt)))

    moving : (n : ℕ) (p : P) (x : Bool) → numbered box.capacity n ≡ x → (y : Result (Unit {0}) KindFault) → checked m p ≡ y
        → (o : Option P) → place_of h n ≡ o → OnRegister box h (move n p) (moved n p) n (Some p) (move_answered x y o)
    moving n p false ex y ey o eo =
        quiet (move n p) (register_refusal register_fault.NoSuchSet) (status h) (rw ex) (λ s. refl)
    moving n p true ex (Err e) ey o eo = quiet (move n p) (kind_refusal e) (status h) (rw (ex, ey)) (λ s. refl)
    moving n p true ex (Ok u) ey None eo =
        quiet (move n p) (register_refusal register_fault.NotPresent) (status h) (rw (ex, ey, eo)) (λ s. refl)
    moving n p true ex (Ok u) ey (Some q) eo = loud (move n p) (moved n p) refl (rw (ex, ey, eo))

    abbrev leave_answered : Bool → Option P → Result (Unit {0}) RegisterFault
    leave_answered x o = if_true x register_fault.NoSuchSet (if_present o (λ _. Ok tt))

    leaving : (n : ℕ) (x : Bool) → numbered box.capacity n ≡ x → (o : Option P) → place_of h n ≡ o
        → OnRegister box h (leave n) (left n) n None (leave_answered x o)
    leaving n false ex o eo = quiet (leave n) (register_refusal register_fault.NoSuchSet) (status h) (rw ex) (λ s. refl)
    leaving n true ex None eo =
        quiet (leave n) (register_refusal register_fault.NotPresent) (status h) (rw (ex, eo)) (λ s. refl)
    leaving n true ex (Some q) eo = loud (leave n) (left n) refl (rw (ex, eo))

    abbrev take_answered : Bool → Bool → Result (Unit {0}) LineFault
    take_answered x y = cond x (cond y (Err line_fault.Empty) (Ok tt)) (Err line_fault.Size)

    abbrev Taking : List ℕ → Bool → Bool → Type 0
    Taking b x y =
        Leads box h (take_message b)
        (answered (take_message b) line_refusal (λ _. taken b (oldest (waiting box h) b)) (take_answered x y))
        (place_of h) (status h) 0 (after_take (take_answered x y) (waiting box h))

    taking : (b : List ℕ) (x y : Bool) → eqb (length b) 64 ≡ x → eqb (length (waiting box h)) 0 ≡ y → Taking b x y
    taking b true true p q = quiet (take_message b) (line_refusal line_fault.Empty) (status h) (rw (p, q)) (λ s. refl)
    taking b true false p q = loud (take_message b) (taken b (oldest (waiting box h) b)) refl (rw (p, q))
    taking b false y p q = quiet (take_message b) (line_refusal line_fault.Size) (status h) (rw p) (λ s. refl)

    collecting : (s : ℕ) (x : Option Stage) → stage h s ≡ x
        → OnQueries box h (collect s) (collected s) s queries.collected 0 (collect_answer s (staged x (asker h s)))
    collecting s None p =
        quiet (collect s) (open_refusal open_fault.NotOpen) (at_serial s queries.collected (status h)) (rw p)
        (λ t. unchanged s t queries.collected (rw p))
    collecting s (Some Open) p = loud (collect s) (collected s (unspent s (asker h s))) refl (rw p)
    collecting s (Some InHand) p =
        quiet (collect s) (open_refusal open_fault.NotOpen) (at_serial s queries.collected (status h)) (rw p)
        (λ t. unchanged s t queries.collected (rw p))

    handing : (g : Handover) (x : Option Stage) → stage h g.serial ≡ x
        → OnQueries box h (hand_over g) (handed_over g) g.serial queries.handed_over
        (queries.accepted (return_answer (staged x (asker h g.serial)))) (return_answer (staged x (asker h g.serial)))
    handing g None p =
        quiet (hand_over g) (open_refusal open_fault.NotInHand) (at_serial g.serial queries.handed_over (status h)) (rw p)
        (λ t. unchanged g.serial t queries.handed_over (rw p))
    handing g (Some Open) p =
        quiet (hand_over g) (open_refusal open_fault.NotInHand) (at_serial g.serial queries.handed_over (status h)) (rw p)
        (λ t. unchanged g.serial t queries.handed_over (rw p))
    handing g (Some InHand) p = loud (hand_over g) (handed_over g (asker h g.serial)) refl (rw p)

    putting : (g : Handover) (x : Option Stage) → stage h g.serial ≡ x
        → OnQueries box h (put_back g) (returned g) g.serial queries.put_back 0 (return_answer (staged x (asker h g.serial)))
    putting g None p =
        quiet (put_back g) (open_refusal open_fault.NotInHand) (at_serial g.serial queries.put_back (status h)) (rw p)
        (λ t. unchanged g.serial t queries.put_back (rw p))
    putting g (Some Open) p =
        quiet (put_back g) (open_refusal open_fault.NotInHand) (at_serial g.serial queries.put_back (status h)) (rw p)
        (λ t. unchanged g.serial t queries.put_back (rw p))
    putting g (Some InHand) p = loud (put_back g) (returned g (asker h g.serial)) refl (rw p)

    giving : (s : ℕ) (x : Option Stage) → stage h s ≡ x
        → OnQueries box h (give_up s) (λ _. given_up s) s queries.given_up
        (queries.accepted (give_up_answer (staged x (asker h s)))) (give_up_answer (staged x (asker h s)))
    giving s None p =
        quiet (give_up s) (open_refusal open_fault.NotOpen) (at_serial s queries.given_up (status h)) (rw p)
        (λ t. unchanged s t queries.given_up (rw p))
    giving s (Some Open) p = loud (give_up s) (given_up s) refl (rw p)
    giving s (Some InHand) p =
        quiet (give_up s) (open_refusal open_fault.NotOpen) (at_serial s queries.given_up (status h)) (rw p)
        (λ t. unchanged s t queries.given_up (rw p))

    -- The answers of the parts to a query, from the tests that they make.
    abbrev asker_answered : Bool → Bool → Result (Unit {0}) RegisterFault
    asker_answered a b = if_true a register_fault.NoSuchSet (if_true b register_fault.Size (Ok tt))

    abbrev bucket_answered : Bool → Bool → Option P → Bool → Ends → Option R → Result (Bucket R) RegisterFault
    bucket_answered a b o enough ends area =
        if_true a register_fault.NoSuchSet
        (if_true b register_fault.Size (if_present o (λ _. if_true enough register_fault.TooFew (registers.told ends area))))

    abbrev add_answered : Bool → Bool → Result ℕ OpenFault
    add_answered many last =
        cond many (Err open_fault.TooMany) (cond last (Err open_fault.LastSerial) (Ok (next_serial box h)))

    abbrev Same : Bool → Bool → Option Refusal → Option Refusal → Option P → Bool → Bool → Bool → Option Refusal → Ends → Option R → Type 0
    Same a b t w o enough many last z ends area =
        first_refusal (
        refused_unless a (register_refusal register_fault.NoSuchSet)
        ∷ refused_unless b (register_refusal register_fault.Size)
        ∷ t
        ∷ w
        ∷ refused_unless (is_some o) (register_refusal register_fault.NotPresent)
        ∷ refused_unless enough (register_refusal register_fault.TooFew)
        ∷ refused_when many (open_refusal open_fault.TooMany)
        ∷ refused_when last (open_refusal open_fault.LastSerial)
        ∷ z
        ∷ [])
        ≡ first_refusal (
        refused_as register_refusal (asker_answered a b)
        ∷ t
        ∷ w
        ∷ refused_as register_refusal (bucket_answered a b o enough ends area)
        ∷ refused_as open_refusal (add_answered many last)
        ∷ z
        ∷ [])

    query_same : (a b : Bool) (t w : Option Refusal) (o : Option P) (enough many last : Bool) (z : Option Refusal) (ends : Ends)
        (area : Option R) → (b ≡ true → is_some o ≡ true → enough ≡ true → is_some area ≡ true)
        → Same a b t w o enough many last z ends area
    query_same false b t w o enough many last z ends area ok = refl
    query_same true false t w o enough many last z ends area ok = refl
    query_same true true (Some r) w o enough many last z ends area ok = refl
    query_same true true None (Some r) o enough many last z ends area ok = refl
    query_same true true None None None enough many last z ends area ok = refl
    query_same true true None None (Some p) false many last z ends area ok = refl
    query_same true true None None (Some p) true many last z ends None ok = absurd (false≢true (ok refl refl refl))
    query_same true true None None (Some p) true true last z ends (Some r) ok = refl
    query_same true true None None (Some p) true false true z ends (Some r) ok = refl
    query_same true true None None (Some p) true false false z ends (Some r) ok = refl

    bucket_told : (a b : Bool) (o : Option P) (enough : Bool) (ends : Ends) (area : Option R) (x : Bucket R)
        → bucket_answered a b o enough ends area ≡ Ok x → area ≡ Some x.region
    bucket_told false b o enough ends area x e = absurd (false≢true (ap is_ok e))
    bucket_told true false o enough ends area x e = absurd (false≢true (ap is_ok e))
    bucket_told true true None enough ends area x e = absurd (false≢true (ap is_ok e))
    bucket_told true true (Some p) false ends area x e = absurd (false≢true (ap is_ok e))
    bucket_told true true (Some p) true ends None x e = absurd (false≢true (ap is_ok e))
    bucket_told true true (Some p) true ends (Some r) x e =
        let z : record { ends = ends; region = r } ≡ x = cc in ap (λ (u : Bucket R). Some u.region) z

    pub part_answers : RowLaws m → AllEndsLaws → AllMemberLaws P → RegionLaws m → PartAnswers box h
    part_answers laws ends members regions =
        record {
          at_enter = λ n p. entering n p (numbered box.capacity n) refl (checked m p) refl (place_of h n) refl;
          at_move = λ n p. moving n p (numbered box.capacity n) refl (checked m p) refl (place_of h n) refl;
          at_leave = λ n. leaving n (numbered box.capacity n) refl (place_of h n) refl;
          at_query = λ n k t.
              ap (λ o. judged box (query n k t) o (asked (query_by n k t (next_serial box h))))
              (query_same (numbered box.capacity n) (size_allowed k) (refused_as message_refusal (text_checked t))
              (refused_as kind_refusal (fitted m.width)) (place_of h n) (leb k (length (row box h))) (leb 64 (standing h))
              (leb 4294967296 (next_serial box h))
              (refused_when (eqb (spare_of box.line_capacity (waiting box h)) 0) (line_refusal line_fault.Full))
              (ends_of (length (row box h)) k (bucket_number (length (row box h)) k (rank_of n (row box h))))
              (region_over m (bucket box h k n))
              (λ b o e.
              let at = some_of (place_of h n) o in
              let has : HasBucket box h n k =
              record { place = at.0; present = at.1; allowed = b; enough = leb-true k (length (row box h)) e } in
              ap is_some (bucketed box laws ends members regions h l n k has).region.is));
          bucket_same = λ at e n k.
              ap
              (λ (o : Option P).
              if_true (numbered box.capacity n) register_fault.NoSuchSet
              (if_true (size_allowed k) register_fault.Size
              (if_present o (λ _. bucket_in m n k (rows.row m at box.capacity))))) (e n)
              ∙ ap
              (λ es.
              if_true (numbered box.capacity n) register_fault.NoSuchSet
              (if_true (size_allowed k) register_fault.Size (if_present (place_of h n) (λ _. bucket_in m n k es))))
              (row_same m at (place_of h) e box.capacity);
          sends = λ n k s t b e.
              ap (message_with box (query_by n k t s))
              (bucket_told (numbered box.capacity n) (size_allowed k) (place_of h n) (leb k (length (row box h)))
              (ends_of (length (row box h)) k (bucket_number (length (row box h)) k (rank_of n (row box h))))
              (region_over m (bucket box h k n)) b e);
          at_take = λ b. taking b (eqb (length b) 64) (eqb (length (waiting box h)) 0) refl refl;
          at_collect = λ s. collecting s (stage h s) refl;
          at_hand_over = λ g. handing g (stage h g.serial) refl;
          at_put_back = λ g. putting g (stage h g.serial) refl;
          at_give_up = λ s. giving s (stage h s) refl;
        }
