-- What a history says: who is present where, what has become of each query, and what was sent.
use Rattle.std.specs.Prelude.{ℕ, ◌+◌, Bool, true, false, cond, List, [], ◌∷◌, ◌++◌, length, drop, is_some, Some, None, Option, ◌==◌}
use Rattle.kinds.specs.Rules.{Model}
use Rattle.buckets.specs.declared.Entry.{Entry}
use Rattle.buckets.specs.Rows as rows
use Rattle.buckets.specs.Regions.{bucket_of, region_over}
use Rattle.lines.specs.Message.{message}
use Rattle.open_queries.specs.declared.entry.Stage.{Stage}
use Rattle.open_queries.specs.Table.{Status, staged}
use Rattle.open_queries.specs.Calls.{first_serial}
use Rattle.model.specs.Events.{Query, Event, entered, moved, left, asked, taken, collected, handed_over, returned, given_up, refused, History}
use Rattle.model.specs.Changes.{Change, opens, collects, hands_over, puts_back, gives_up, serial_of, stage_of, is_hand_over, is_give_up, query_in, is_open, is_in_hand}

-- What a box over a place kind is made with: the register's capacity, the first serial, and the line's capacity.
pub record Box {P R : Type 0} (m : Model P R) : Type 0 where
  pub capacity : ℕ
  pub first : ℕ
  pub line_capacity : ℕ

-- How many of a list pass a test.
abbrev pub count : {X : Type 0} → (X → Bool) → List X → ℕ
count p [] = 0
count p (x ∷ xs) = cond (p x) (1 + count p xs) (count p xs)

-- Whether there is one, and it passes.
abbrev pub passes : {X : Type 0} → (X → Bool) → Option X → Bool
passes p None = false
passes p (Some x) = p x

-- The serials with that of one more query, if there is one; and likewise messages, the stage of a serial, and its asker.
abbrev pub with_query : Option Query → List ℕ → List ℕ
with_query None xs = xs
with_query (Some q) xs = q.serial ∷ xs

abbrev pub with_message : Option (List ℕ) → List (List ℕ) → List (List ℕ)
with_message None ms = ms
with_message (Some x) ms = ms ++ (x ∷ [])

abbrev pub staged_by : Option Change → ℕ → Option Stage → Option Stage
staged_by None s before = before
staged_by (Some c) s before = cond (serial_of c == s) (stage_of c) before

abbrev pub asked_by : Option Query → ℕ → ℕ → ℕ
asked_by None s before = before
asked_by (Some q) s before = cond (q.serial == s) q.set before

module _ {P : Type 0} where
  -- Whose place an accepted call sets, and to what. Leaving sets none, and touches no query.
  abbrev pub place_change : Event P → Option (ℕ × Option P)
  place_change (entered n p) = Some (n, Some p)
  place_change (moved n p) = Some (n, Some p)
  place_change (left n) = Some (n, None)
  place_change (asked q) = None
  place_change (taken b c) = None
  place_change (collected s g) = None
  place_change (handed_over g n) = None
  place_change (returned g n) = None
  place_change (given_up s) = None
  place_change (refused c r b) = None

  -- What an accepted call does to a query.
  abbrev pub query_change : Event P → Option Change
  query_change (entered n p) = None
  query_change (moved n p) = None
  query_change (left n) = None
  query_change (asked q) = Some (opens q)
  query_change (taken b c) = None
  query_change (collected s g) = Some (collects s)
  query_change (handed_over g n) = Some (hands_over g.serial)
  query_change (returned g n) = Some (puts_back g.serial)
  query_change (given_up s) = Some (gives_up s)
  query_change (refused c r b) = None

  -- Whether a message was taken from the line.
  abbrev pub is_take : Event P → Bool
  is_take (entered n p) = false
  is_take (moved n p) = false
  is_take (left n) = false
  is_take (asked q) = false
  is_take (taken b c) = true
  is_take (collected s g) = false
  is_take (handed_over g n) = false
  is_take (returned g n) = false
  is_take (given_up s) = false
  is_take (refused c r b) = false

  -- The accepted query of an event, if it is one.
  abbrev pub asked_in : Event P → Option Query
  asked_in e = elim (query_change e) [ None ↦ None | Some c ↦ query_in c ]

  -- The place of a set after such a change.
  abbrev pub placed_by : Option (ℕ × Option P) → ℕ → Option P → Option P
  placed_by None n before = before
  placed_by (Some w) n before = cond (n == w.0) w.1 before

  -- A set is present from an accepted enter to its next accepted leave, at the place of its last accepted enter or move.
  abbrev pub place_of : History P → ℕ → Option P
  place_of [] n = None
  place_of (e ∷ h) n = placed_by (place_change e) n (place_of h n)

  -- The stage of a serial: what the last accepted call on it left.
  abbrev pub stage : History P → ℕ → Option Stage
  stage [] s = None
  stage (e ∷ h) s = staged_by (query_change e) s (stage h s)

  -- The set that put the query of a serial; 0 where there is none.
  abbrev pub asker : History P → ℕ → ℕ
  asker [] s = 0
  asker (e ∷ h) s = asked_by (asked_in e) s (asker h s)

  -- What stands under a serial: nothing, an open query or one in hand, with the set that put it.
  abbrev pub status : History P → ℕ → Status
  status h s = staged (stage h s) (asker h s)

  -- The serials of the accepted queries, the newest first.
  abbrev pub serials : History P → List ℕ
  serials [] = []
  serials (e ∷ h) = with_query (asked_in e) (serials h)

  abbrev pub present : History P → ℕ → Bool
  present h n = is_some (place_of h n)

  -- How many hand overs and how many give ups were accepted, and how many queries are open and how many in hand.
  abbrev pub hand_overs : History P → ℕ
  hand_overs h = count (λ e. passes is_hand_over (query_change e)) h

  abbrev pub give_ups : History P → ℕ
  give_ups h = count (λ e. passes is_give_up (query_change e)) h

  abbrev pub open_count : History P → ℕ
  open_count h = count (λ s. is_open (stage h s)) (serials h)

  abbrev pub in_hand_count : History P → ℕ
  in_hand_count h = count (λ s. is_in_hand (stage h s)) (serials h)

  -- How many queries stand.
  abbrev pub standing : History P → ℕ
  standing h = open_count h + in_hand_count h

module _ {P R : Type 0} {m : Model P R} (box : Box m) where
  -- The present sets in order.
  abbrev pub row : History P → List (Entry P)
  row h = rows.row m (place_of h) box.capacity

  -- The bucket of a set at a size, after a history.
  abbrev pub bucket : History P → ℕ → ℕ → List (Entry P)
  bucket h k n = bucket_of k n (row h)

  -- The message of an accepted query after a history: it holds the region of its asker's bucket.
  abbrev pub message_with : Query → Option R → Option (List ℕ)
  message_with q None = None
  message_with q (Some r) = Some (message m q.serial r q.text)

  abbrev pub message_of : History P → Option Query → Option (List ℕ)
  message_of h None = None
  message_of h (Some q) = message_with q (region_over m (bucket h q.size q.set))

  -- The messages sent, in order: the line bytes.
  abbrev pub sent : History P → List (List ℕ)
  sent [] = []
  sent (e ∷ h) = with_message (message_of h (asked_in e)) (sent h)

  -- The messages sent and not taken, the oldest first.
  abbrev pub waiting : History P → List (List ℕ)
  waiting h = drop (count is_take h) (sent h)

  -- Serials count accepted queries upward from the first; a first serial of 0 reads as 1.
  abbrev pub next_serial : History P → ℕ
  next_serial h = first_serial box.first + length (serials h)
