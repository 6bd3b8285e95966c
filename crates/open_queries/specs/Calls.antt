-- The answer of each call, and what stands under its serial then.
use Rattle.std.specs.Prelude.{◌≡◌, ℕ, max, false, cond, is_none, List, Some, Ok, Err, Option, Result, ◌==◌, nat_le}
use Rattle.std.specs.List.{position}
use Rattle.refusals.specs.declared.Part.TheVariants as part
use Rattle.refusals.specs.declared.Refusal.{Refusal}
use Rattle.refusals.specs.Words.{refusal}
use Rattle.open_queries.specs.declared.fault.OpenFault.{OpenFault}
use Rattle.open_queries.specs.declared.fault.OpenFault.TheVariants.{TooMany, LastSerial, NotOpen, NotInHand}
use Rattle.open_queries.specs.declared.handover.Handover.{Handover}
use Rattle.open_queries.specs.declared.entry.Entry.{Entry}
use Rattle.open_queries.specs.Table.{Status, absent, open_by, in_hand_by, in_use, next_number}

abbrev pub open_refusal : OpenFault → Refusal
open_refusal TooMany = refusal 24 part.Open
open_refusal LastSerial = refusal 25 part.Open
open_refusal NotOpen = refusal 27 part.Open
open_refusal NotInHand = refusal 28 part.Open

-- A first serial of 0 reads as 1.
abbrev pub first_serial : ℕ → ℕ
first_serial n = max n 1

-- What a call does to the status of its serial, and of no other.
abbrev pub at_serial : ℕ → (Status → Status) → (ℕ → Status) → ℕ → Status
at_serial serial change before s = cond (serial == s) (change (before s)) (before s)

-- Collect: an open query becomes one in hand, and its handover is given out.
abbrev pub collect_answer : ℕ → Status → Result Handover OpenFault
collect_answer serial absent = Err NotOpen
collect_answer serial (open_by n) = Ok (record { serial = serial; set = n; spent = false })
collect_answer serial (in_hand_by n) = Err NotOpen

abbrev pub collected : Status → Status
collected absent = absent
collected (open_by n) = in_hand_by n
collected (in_hand_by n) = in_hand_by n

-- Hand over: a query in hand is closed. Put back: it is open again. Both tell the set that asked.
abbrev pub return_answer : Status → Result ℕ OpenFault
return_answer absent = Err NotInHand
return_answer (open_by n) = Err NotInHand
return_answer (in_hand_by n) = Ok n

abbrev pub handed_over : Status → Status
handed_over absent = absent
handed_over (open_by n) = open_by n
handed_over (in_hand_by n) = absent

abbrev pub put_back : Status → Status
put_back absent = absent
put_back (open_by n) = open_by n
put_back (in_hand_by n) = open_by n

-- Give up: an open query is closed.
abbrev pub give_up_answer : Status → Result (Unit {0}) OpenFault
give_up_answer absent = Err NotOpen
give_up_answer (open_by n) = Ok tt
give_up_answer (in_hand_by n) = Err NotOpen

abbrev pub given_up : Status → Status
given_up absent = absent
given_up (open_by n) = absent
given_up (in_hand_by n) = in_hand_by n

-- A new query: refused where 64 stand, then where the last serial was given; else it gets the next serial.
abbrev pub add_answer : ℕ → ℕ → Result ℕ OpenFault
add_answer standing next = cond (nat_le 64 standing) (Err TooMany) (cond (nat_le 4294967296 next) (Err LastSerial) (Ok next))

abbrev pub added : {A : Type 0} → Result A OpenFault → ℕ → Status → Status
added (Ok _) set before = open_by set
added (Err _) set before = before

-- 1 where a call was accepted.
abbrev pub accepted : {A : Type 0} → Result A OpenFault → ℕ
accepted (Ok _) = 1
accepted (Err _) = 0

-- The first free slot of the table and the next serial, or the refusal of a new query.
abbrev pub Vacancy : List (Option Entry) → Option ℕ → Result (ℕ × ℕ) OpenFault → Type 0
Vacancy slots next (Ok p) = (position is_none slots ≡ Some p.0) × (add_answer (in_use slots) (next_number next) ≡ Ok p.1)
Vacancy slots next (Err e) = add_answer (in_use slots) (next_number next) ≡ Err e
