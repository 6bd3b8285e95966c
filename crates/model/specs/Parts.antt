-- What a life says of the parts of a box, in the words of the parts' own calls.
use Rattle.std.specs.Prelude.{◌≡◌, ℕ, ◌+◌, cond, List, [], ◌∷◌, Some, None, Ok, Err, Option, Result, ◌==◌}
use Rattle.refusals.specs.declared.Refusal.{Refusal}
use Rattle.kinds.specs.Rules.{Model}
use Rattle.kinds.specs.Faults.{kind_refusal, fitted}
use Rattle.lines.specs.declared.fault.LineFault.TheVariants as line_fault
use Rattle.lines.specs.Message.{message}
use Rattle.lines.specs.Meaning.{spare_of, newer, oldest, take_answer, after_take}
use Rattle.lines.specs.MessageFaults.{message_refusal, text_checked, line_refusal}
use Rattle.open_queries.specs.declared.fault.OpenFault.{OpenFault}
use Rattle.open_queries.specs.declared.handover.Handover.{Handover}
use Rattle.open_queries.specs.Table.{Status, open_by}
use Rattle.open_queries.specs.Calls.{open_refusal, at_serial, collect_answer, return_answer, give_up_answer, add_answer}
use Rattle.open_queries.specs.Calls as queries
use Rattle.register.specs.declared.bucket.Bucket.{Bucket}
use Rattle.register.specs.declared.fault.RegisterFault.{RegisterFault}
use Rattle.register.specs.Faults.{register_refusal}
use Rattle.register.specs.Answers.{asker_answer, enter_answer, move_answer, leave_answer, bucket_answer}
use Rattle.register.specs.Answers as registers
use Rattle.model.specs.Events.{Call, enter, move, leave, query, take_message, collect, hand_over, put_back, give_up, query_by, Event, entered, moved, left, asked, taken, collected, handed_over, returned, given_up, refused, History, space_of}
use Rattle.model.specs.Changes.{Change, opens, collects, hands_over, puts_back, gives_up}
use Rattle.model.specs.Histories.{Box, with_message, query_change, is_take, asked_in, place_of, status, standing, message_of, waiting, next_serial}
use Rattle.model.specs.Outcomes.{refused_when, refused_as, first_refusal, judged, outcome}

-- The statuses after a change, from those before it.
abbrev pub changed : Option Change → (ℕ → Status) → ℕ → Status
changed None before s = before s
changed (Some (opens q)) before s = at_serial q.serial (λ _. open_by q.set) before s
changed (Some (collects n)) before s = at_serial n queries.collected before s
changed (Some (hands_over n)) before s = at_serial n queries.handed_over before s
changed (Some (puts_back n)) before s = at_serial n queries.put_back before s
changed (Some (gives_up n)) before s = at_serial n queries.given_up before s

-- How many queries a change adds to those that stand, and how many it ends.
abbrev pub opened : Option Change → ℕ
opened None = 0
opened (Some (opens q)) = 1
opened (Some (collects s)) = 0
opened (Some (hands_over s)) = 0
opened (Some (puts_back s)) = 0
opened (Some (gives_up s)) = 0

abbrev pub ended : Option Change → ℕ
ended None = 0
ended (Some (opens q)) = 0
ended (Some (collects s)) = 0
ended (Some (hands_over s)) = 1
ended (Some (puts_back s)) = 0
ended (Some (gives_up s)) = 1

-- What happens at a call to which a part answers so.
abbrev pub answered : {P A E : Type 0} → Call P → (E → Refusal) → (A → Event P) → Result A E → Event P
answered c means good (Ok a) = good a
answered c means good (Err e) = refused c (means e) (space_of c)

module _ {P R : Type 0} {m : Model P R} (box : Box m) where
  -- What the open queries and the line hold after one more event of a life.
  pub record Follows (h : History P) (e : Event P) : Type 0 where
    pub statuses : (s : ℕ) → status (e ∷ h) s ≡ changed (query_change e) (status h) s
    pub stand : standing (e ∷ h) + ended (query_change e) ≡ standing h + opened (query_change e)
    pub next : next_serial box (e ∷ h) ≡ next_serial box h + opened (query_change e)
    pub waits : waiting box (e ∷ h)
        ≡ cond (is_take e) (newer (waiting box h)) (with_message (message_of box h (asked_in e)) (waiting box h))

  -- The right outcome of a call is this event, and after it sets are present at these places, the open queries have these
  -- statuses, and these messages wait; no query is new, and `over` of them ended.
  pub record Leads (h : History P) (c : Call P) (e : Event P) (at : ℕ → Option P) (after : ℕ → Status) (over : ℕ)
      (left : List (List ℕ)) : Type 0 where
    pub right : outcome box h c ≡ e
    pub places : (n : ℕ) → place_of (e ∷ h) n ≡ at n
    pub statuses : (s : ℕ) → status (e ∷ h) s ≡ after s
    pub stand : standing (e ∷ h) + over ≡ standing h
    pub next : next_serial box (e ∷ h) ≡ next_serial box h
    pub waits : waiting box (e ∷ h) ≡ left

  -- A call on the register alone, to which it answers so and then has set n at `place`, or absent.
  abbrev pub OnRegister : History P → Call P → Event P → ℕ → Option P → Result (Unit {0}) RegisterFault → Type 0
  OnRegister h c e n place r =
      Leads h c (answered c register_refusal (λ _. e) r) (registers.changed r n place (place_of h)) (status h) 0 (waiting box h)

  -- A call on the open queries alone.
  abbrev pub OnQueries : {A : Type 0} → History P → Call P → (A → Event P) → ℕ → (Status → Status) → ℕ → Result A OpenFault → Type 0
  OnQueries h c good s change over r =
      Leads h c (answered c open_refusal good r) (place_of h) (at_serial s change (status h)) over (waiting box h)

  -- The checks of a query as the parts make them, one after the other.
  abbrev pub query_checks : History P → ℕ → ℕ → List ℕ → List (Option Refusal)
  query_checks h n k t =
      refused_as register_refusal (asker_answer box.capacity n k)
      ∷ refused_as message_refusal (text_checked t)
      ∷ refused_as kind_refusal (fitted m.width)
      ∷ refused_as register_refusal (bucket_answer m box.capacity (place_of h) n k)
      ∷ refused_as open_refusal (add_answer (standing h) (next_serial box h))
      ∷ refused_when (spare_of box.line_capacity (waiting box h) == 0) (line_refusal line_fault.Full)
      ∷ []

  -- The calls, with the parts' own answers and what the parts then hold. A query's message has the region of the bucket that
  -- the register tells, which depends on the places alone.
  pub record PartAnswers (h : History P) : Type 0 where
    pub at_enter : (n : ℕ) (p : P)
        → OnRegister h (enter n p) (entered n p) n (Some p) (enter_answer m box.capacity (place_of h) n p)
    pub at_move : (n : ℕ) (p : P)
        → OnRegister h (move n p) (moved n p) n (Some p) (move_answer m box.capacity (place_of h) n p)
    pub at_leave : (n : ℕ) → OnRegister h (leave n) (left n) n None (leave_answer box.capacity (place_of h) n)
    pub at_query : (n k : ℕ) (t : List ℕ) → outcome box h (query n k t)
        ≡ judged box (query n k t) (first_refusal (query_checks h n k t)) (asked (query_by n k t (next_serial box h)))
    pub bucket_same : (at : ℕ → Option P) → ((n : ℕ) → at n ≡ place_of h n) → (n k : ℕ)
        → bucket_answer m box.capacity at n k ≡ bucket_answer m box.capacity (place_of h) n k
    pub sends : (n k s : ℕ) (t : List ℕ) (b : Bucket R) → bucket_answer m box.capacity (place_of h) n k ≡ Ok b
        → message_of box h (Some (query_by n k t s)) ≡ Some (message m s b.region t)
    pub at_take : (b : List ℕ)
        → Leads h (take_message b)
        (answered (take_message b) line_refusal (λ _. taken b (oldest (waiting box h) b)) (take_answer (waiting box h) b))
        (place_of h) (status h) 0 (after_take (take_answer (waiting box h) b) (waiting box h))
    pub at_collect : (s : ℕ) → OnQueries h (collect s) (collected s) s queries.collected 0 (collect_answer s (status h s))
    pub at_hand_over : (g : Handover)
        → OnQueries h (hand_over g) (handed_over g) g.serial queries.handed_over
        (queries.accepted (return_answer (status h g.serial))) (return_answer (status h g.serial))
    pub at_put_back : (g : Handover)
        → OnQueries h (put_back g) (returned g) g.serial queries.put_back 0 (return_answer (status h g.serial))
    pub at_give_up : (s : ℕ)
        → OnQueries h (give_up s) (λ _. given_up s) s queries.given_up
        (queries.accepted (give_up_answer (status h s))) (give_up_answer (status h s))
