-- The nine calls, what happens at one, and what it answers.
use Rattle.std.specs.Prelude.{ℕ, false, List, []}
use Rattle.refusals.specs.declared.Refusal.{Refusal}
use Rattle.open_queries.specs.declared.handover.Handover.{Handover}

-- A call, with what it is given besides the box. A take is given the caller's bytes.
pub data Call (P : Type 0) : Type 0 where
  enter : ℕ → P → Call P  -- set, place
  move : ℕ → P → Call P
  leave : ℕ → Call P
  query : ℕ → ℕ → List ℕ → Call P  -- set, size, text
  take_message : List ℕ → Call P
  collect : ℕ → Call P  -- serial
  hand_over : Handover → Call P
  put_back : Handover → Call P
  give_up : ℕ → Call P

-- An accepted query: the set that put it, its size and text, and the serial that it got.
pub record Query : Type 0 where
  pub set : ℕ
  pub size : ℕ
  pub text : List ℕ
  pub serial : ℕ

abbrev pub query_by : ℕ → ℕ → List ℕ → ℕ → Query
query_by n k t s = record { set = n; size = k; text = t; serial = s }

-- What happens at a call. An accepted one is told with what it was given and what it answered; a refused one with its refusal
-- and the caller's bytes after it.
pub data Event (P : Type 0) : Type 0 where
  entered : ℕ → P → Event P
  moved : ℕ → P → Event P
  left : ℕ → Event P
  asked : Query → Event P
  taken : List ℕ → List ℕ → Event P  -- the caller's bytes before, and after
  collected : ℕ → Handover → Event P  -- the handover that is given out
  handed_over : Handover → ℕ → Event P  -- the set that is named
  returned : Handover → ℕ → Event P  -- a query put back; the set that is named
  given_up : ℕ → Event P
  refused : Call P → Refusal → List ℕ → Event P

-- What a call answers.
pub data Answer : Type 0 where
  done : Answer
  serial : ℕ → Answer
  holds : List ℕ → Answer  -- the caller's bytes after a take
  gives : Handover → Answer
  names : ℕ → Answer
  refuses : Refusal → List ℕ → Answer

-- The events so far, the newest first.
abbrev pub History : Type 0 → Type 0
History P = List (Event P)

-- The handover of a query that was collected: not yet spent.
abbrev pub unspent : ℕ → ℕ → Handover
unspent s n = record { serial = s; set = n; spent = false }

module _ {P : Type 0} where
  abbrev pub call_of : Event P → Call P
  call_of (entered n p) = enter n p
  call_of (moved n p) = move n p
  call_of (left n) = leave n
  call_of (asked q) = query q.set q.size q.text
  call_of (taken b c) = take_message b
  call_of (collected s g) = collect s
  call_of (handed_over g n) = hand_over g
  call_of (returned g n) = put_back g
  call_of (given_up s) = give_up s
  call_of (refused c r b) = c

  abbrev pub answer_of : Event P → Answer
  answer_of (entered n p) = done
  answer_of (moved n p) = done
  answer_of (left n) = done
  answer_of (asked q) = serial q.serial
  answer_of (taken b c) = holds c
  answer_of (collected s g) = gives g
  answer_of (handed_over g n) = names n
  answer_of (returned g n) = names n
  answer_of (given_up s) = done
  answer_of (refused c r b) = refuses r b

  -- The caller's bytes, where a call is given some.
  abbrev pub space_of : Call P → List ℕ
  space_of (enter n p) = []
  space_of (move n p) = []
  space_of (leave n) = []
  space_of (query n k t) = []
  space_of (take_message b) = b
  space_of (collect s) = []
  space_of (hand_over g) = []
  space_of (put_back g) = []
  space_of (give_up s) = []
