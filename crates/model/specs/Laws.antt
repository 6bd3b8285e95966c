-- The laws of a box's life.
use Rattle.std.specs.Prelude.{◌≡◌, ℕ, ◌+◌, ◌-◌, ◌*◌, ◌≤◌, Bool, true, ◌&&◌, ◌||◌, List, [], ◌∷◌, ◌++◌, length, Some, None, Option, ◌==◌}
use Rattle.kinds.specs.Rules.{Model, Within}
use Rattle.buckets.specs.Rows.{entry, In, OneEach, IsRow, PlacesAdmitted}
use Rattle.buckets.specs.declared.Entry.{Entry}
use Rattle.buckets.specs.Regions.{CoversAll}
use Rattle.lines.specs.Message.{message}
use Rattle.register.specs.Answers.{size_allowed}
use Rattle.open_queries.specs.declared.handover.Handover.{Handover}
use Rattle.model.specs.Events.{Call, query, hand_over, put_back, Query, query_by, Event, History, Answer, done, serial, holds, gives, names, refuses, unspent, call_of, answer_of}
use Rattle.model.specs.Changes.{Change, serial_of, is_hand_over, is_give_up}
use Rattle.model.specs.Histories.{Box, passes, count, query_change, asked_in, place_of, row, bucket, sent, serials, hand_overs, give_ups, open_count, in_hand_count}
use Rattle.model.specs.Outcomes.{Life}

-- The asker is hidden.

-- Two answers that are the same, but for the set that collect, hand over or put back names.
pub data SameButSet : Answer → Answer → Type 0 where
  same : {a : Answer} → SameButSet a a
  other_given : {s n o : ℕ} → SameButSet (gives (unspent s n)) (gives (unspent s o))
  other_named : {n o : ℕ} → SameButSet (names n) (names o)

-- A relation holds of the answers of two histories, call by call.
abbrev pub AnswersBy : {P : Type 0} → (Answer → Answer → Type 0) → History P → History P → Type 0
AnswersBy Same [] [] = Unit {0}
AnswersBy Same [] (e ∷ h) = ⊥
AnswersBy Same (d ∷ g) [] = ⊥
AnswersBy Same (d ∷ g) (e ∷ h) = Same (answer_of d) (answer_of e) × AnswersBy Same g h

module _ {P R : Type 0} {m : Model P R} (box : Box m) where
  -- A query has a bucket when its set is present, its size is 2 to 64, and at least so many sets are present.
  pub record HasBucket (h : History P) (n k : ℕ) : Type 0 where
    pub place : P
    pub present : place_of h n ≡ Some place
    pub allowed : size_allowed k ≡ true
    pub enough : k ≤ length (row box h)

  -- Two calls after h that are compared: the same, but that another member of its bucket may put a query, and that handovers
  -- need share only the serial.
  pub data AlikeCall (h : History P) : Call P → Call P → Type 0 where
    same_call : {c : Call P} → AlikeCall h c c
    other_member : {n o k : ℕ} {t : List ℕ} {p : P} → HasBucket h n k → In (entry o p) (bucket box h k n)
        → AlikeCall h (query n k t) (query o k t)
    other_handed_over : {a b : Handover} → a.serial ≡ b.serial → AlikeCall h (hand_over a) (hand_over b)
    other_put_back : {a b : Handover} → a.serial ≡ b.serial → AlikeCall h (put_back a) (put_back b)

  -- Two histories whose calls are compared, one by one.
  abbrev pub Alike : History P → History P → Type 0
  Alike [] [] = Unit {0}
  Alike [] (e ∷ h) = ⊥
  Alike (d ∷ g) [] = ⊥
  Alike (d ∷ g) (e ∷ h) = AlikeCall g (call_of d) (call_of e) × Alike g h

  -- The region is the least.

  -- The row after h holds the present sets and no others, in order, and every place is admitted.
  pub record RowHolds (h : History P) : Type 0 where
    pub admitted : PlacesAdmitted m (place_of h)
    pub is_row : IsRow m (place_of h) box.capacity (row box h)
    pub everyone : (n : ℕ) (p : P) → place_of h n ≡ Some p → In (entry n p) (row box h)

  -- The event e after h, an accepted query q, comes from these members: present sets, each once, the asker among them, from
  -- `fewest` to `most` of them. It sends one message, with the region that covers them all and lies within every other that
  -- does.
  pub record ComesFrom (fewest most : ℕ) (h : History P) (e : Event P) (q : Query) (members : List (Entry P)) : Type 0 where
    pub present : (x : Entry P) → In x members → place_of h x.set ≡ Some x.place
    pub one_each : OneEach members
    pub asker : (p : P) × In (entry q.set p) members
    pub at_least : fewest ≤ length members
    pub at_most : length members ≤ most
    pub region : R
    pub covers : CoversAll m region members
    pub least : (r : R) → CoversAll m r members → Within m region r
    pub sends : sent box (e ∷ h) ≡ sent box h ++ (message m q.serial region q.text ∷ [])

  -- An accepted query comes from its asker's bucket, of k to 2k − 1 members, and what is no accepted query sends nothing.
  abbrev pub SendsLeast : History P → Event P → Option Query → Type 0
  SendsLeast h e None = sent box (e ∷ h) ≡ sent box h
  SendsLeast h e (Some q) = ComesFrom q.size (2 * q.size - 1) h e q (bucket box h q.size q.set)

  -- So it is at each event, and the row is right after each.
  abbrev pub RegionsLeast : History P → Type 0
  RegionsLeast [] = RowHolds []
  RegionsLeast (e ∷ h) = RowHolds (e ∷ h) × (SendsLeast h e (asked_in e) × RegionsLeast h)

-- Queries are kept.

-- No number stands in the list twice.
abbrev pub Distinct : List ℕ → Type 0
Distinct [] = Unit {0}
Distinct (x ∷ xs) = (In x xs → ⊥) × Distinct xs

-- Hand over and give up end the query of their serial.
abbrev pub ends : ℕ → Change → Bool
ends s c = (is_hand_over c || is_give_up c) && serial_of c == s

module _ {P : Type 0} where
  -- How often the query of a serial ended.
  abbrev pub endings : ℕ → History P → ℕ
  endings s h = count (λ e. passes (ends s) (query_change e)) h

  -- The set n put the query of serial s.
  pub data Put (n s : ℕ) : History P → Type 0 where
    newest : {e : Event P} {h : History P} {k : ℕ} {t : List ℕ} → asked_in e ≡ Some (query_by n k t s) → Put n s (e ∷ h)
    earlier : {e : Event P} {h : History P} → Put n s h → Put n s (e ∷ h)

  -- The answer of an accepted call on serial s names the set that put the query, if it names one.
  abbrev pub NamesAsker : History P → ℕ → Answer → Type 0
  NamesAsker h s done = Unit {0}
  NamesAsker h s (serial _) = Unit {0}
  NamesAsker h s (holds _) = Unit {0}
  NamesAsker h s (gives g) = (g.serial ≡ s) × Put g.set s h
  NamesAsker h s (names n) = Put n s h
  NamesAsker h s (refuses _ _) = Unit {0}

  abbrev pub EventNamesAsker : History P → Event P → Type 0
  EventNamesAsker h e = elim (query_change e) [ None ↦ Unit {0} | Some c ↦ NamesAsker h (serial_of c) (answer_of e) ]

  abbrev pub EachNamesAsker : History P → Type 0
  EachNamesAsker [] = Unit {0}
  EachNamesAsker (e ∷ h) = EventNamesAsker h e × EachNamesAsker h

  -- Every accepted query was handed over, was given up, is open or is in hand; no two have one serial; none ended more than
  -- `most` times; and who is named put the query.
  pub record Kept (most : ℕ) (h : History P) : Type 0 where
    pub balance : length (serials h) ≡ hand_overs h + give_ups h + open_count h + in_hand_count h
    pub own_serials : Distinct (serials h)
    pub ended : (s : ℕ) → endings s h ≤ most
    pub named : EachNamesAsker h

-- The three laws, of a life up to one point of it.
pub record Point {P R : Type 0} {m : Model P R} (box : Box m) (h : History P) : Type 0 where
  pub asker_hidden : (g : History P) → Life box g → Alike box h g → AnswersBy SameButSet h g × (sent box h ≡ sent box g)
  pub regions_least : RegionsLeast box h
  pub queries_kept : Kept 1 h
