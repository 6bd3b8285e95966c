-- What has to happen at a call after a history, and the lives of a box.
use Rattle.std.specs.Prelude.{◌≡◌, Bool, cond, List, [], ◌∷◌, map, length, Some, None, Ok, Err, Option, Result, ◌==◌, nat_le}
use Rattle.refusals.specs.declared.Refusal.{Refusal}
use Rattle.kinds.specs.Rules.{Model}
use Rattle.kinds.specs.Faults.{kind_refusal, checked, fitted}
use Rattle.lines.specs.declared.fault.LineFault.TheVariants as line_fault
use Rattle.lines.specs.MessageFaults.{message_refusal, text_checked, line_refusal}
use Rattle.lines.specs.Meaning.{spare_of, oldest}
use Rattle.open_queries.specs.declared.fault.OpenFault.TheVariants as open_fault
use Rattle.open_queries.specs.Calls.{open_refusal}
use Rattle.register.specs.declared.fault.RegisterFault.TheVariants as register_fault
use Rattle.register.specs.Faults.{register_refusal}
use Rattle.register.specs.Answers.{numbered, size_allowed}
use Rattle.model.specs.Events.{Call, enter, move, leave, query, take_message, collect, hand_over, put_back, give_up, query_by, unspent, Event, entered, moved, left, asked, taken, collected, handed_over, returned, given_up, refused, History, call_of, space_of}
use Rattle.model.specs.Changes.{is_open, is_in_hand}
use Rattle.model.specs.Histories.{Box, present, row, stage, asker, standing, next_serial, waiting}

-- A check refuses with a refusal, or passes.
abbrev pub refused_when : Bool → Refusal → Option Refusal
refused_when failed r = cond failed (Some r) None

abbrev pub refused_unless : Bool → Refusal → Option Refusal
refused_unless passed r = cond passed None (Some r)

-- A check that a part makes, with the refusal of its fault.
abbrev pub refused_as : {A E : Type 0} → (E → Refusal) → Result A E → Option Refusal
refused_as means (Ok a) = None
refused_as means (Err e) = Some (means e)

-- The first check of a list that refuses.
abbrev pub first_refusal : List (Option Refusal) → Option Refusal
first_refusal [] = None
first_refusal (None ∷ ks) = first_refusal ks
first_refusal (Some r ∷ ks) = Some r

module _ {P R : Type 0} {m : Model P R} (box : Box m) where
  -- The checks of a call after a history, in their order.
  abbrev pub checks : History P → Call P → List (Option Refusal)
  checks h (enter n p) =
      refused_unless (numbered box.capacity n) (register_refusal register_fault.NoSuchSet)
      ∷ refused_as kind_refusal (checked m p)
      ∷ refused_when (present h n) (register_refusal register_fault.AlreadyPresent)
      ∷ []
  checks h (move n p) =
      refused_unless (numbered box.capacity n) (register_refusal register_fault.NoSuchSet)
      ∷ refused_as kind_refusal (checked m p)
      ∷ refused_unless (present h n) (register_refusal register_fault.NotPresent)
      ∷ []
  checks h (leave n) =
      refused_unless (numbered box.capacity n) (register_refusal register_fault.NoSuchSet)
      ∷ refused_unless (present h n) (register_refusal register_fault.NotPresent)
      ∷ []
  checks h (query n k t) =
      refused_unless (numbered box.capacity n) (register_refusal register_fault.NoSuchSet)
      ∷ refused_unless (size_allowed k) (register_refusal register_fault.Size)
      ∷ refused_as message_refusal (text_checked t)
      ∷ refused_as kind_refusal (fitted m.width)
      ∷ refused_unless (present h n) (register_refusal register_fault.NotPresent)
      ∷ refused_unless (nat_le k (length (row box h))) (register_refusal register_fault.TooFew)
      ∷ refused_when (nat_le 64 (standing h)) (open_refusal open_fault.TooMany)
      ∷ refused_when (nat_le 4294967296 (next_serial box h)) (open_refusal open_fault.LastSerial)
      ∷ refused_when (spare_of box.line_capacity (waiting box h) == 0) (line_refusal line_fault.Full)
      ∷ []
  checks h (take_message b) =
      refused_unless (length b == 64) (line_refusal line_fault.Size)
      ∷ refused_when (length (waiting box h) == 0) (line_refusal line_fault.Empty)
      ∷ []
  checks h (collect s) = refused_unless (is_open (stage h s)) (open_refusal open_fault.NotOpen) ∷ []
  checks h (hand_over g) = refused_unless (is_in_hand (stage h g.serial)) (open_refusal open_fault.NotInHand) ∷ []
  checks h (put_back g) = refused_unless (is_in_hand (stage h g.serial)) (open_refusal open_fault.NotInHand) ∷ []
  checks h (give_up s) = refused_unless (is_open (stage h s)) (open_refusal open_fault.NotOpen) ∷ []

  -- What a call answers after a history if it is accepted.
  abbrev pub accepted : History P → Call P → Event P
  accepted h (enter n p) = entered n p
  accepted h (move n p) = moved n p
  accepted h (leave n) = left n
  accepted h (query n k t) = asked (query_by n k t (next_serial box h))
  accepted h (take_message b) = taken b (oldest (waiting box h) b)
  accepted h (collect s) = collected s (unspent s (asker h s))
  accepted h (hand_over g) = handed_over g (asker h g.serial)
  accepted h (put_back g) = returned g (asker h g.serial)
  accepted h (give_up s) = given_up s

  abbrev pub judged : Call P → Option Refusal → Event P → Event P
  judged c None e = e
  judged c (Some r) e = refused c r (space_of c)

  -- What has to happen at a call after a history: the first check that fails refuses it, and else it is accepted.
  abbrev pub outcome : History P → Call P → Event P
  outcome h c = judged c (first_refusal (checks h c)) (accepted h c)

  -- A life of the box, from its making on: at each call happened what had to.
  abbrev pub Life : History P → Type 0
  Life [] = Unit {0}
  Life (e ∷ h) = (e ≡ outcome h (call_of e)) × Life h

  -- A life whose calls are those of a list, the newest first; and there is no other.
  pub record OneLife (calls : List (Call P)) : Type 0 where
    pub history : History P
    pub life : Life history
    pub has_calls : map call_of history ≡ calls
    pub no_other : (h : History P) → Life h → map call_of h ≡ calls → h ≡ history
