-- What happens at a call that answers so: the event of a life.
use Rattle.std.specs.Prelude.{ℕ, List, Result}
use Rattle.lines.specs.declared.fault.LineFault.{LineFault}
use Rattle.lines.specs.MessageFaults.{line_refusal}
use Rattle.open_queries.specs.declared.fault.OpenFault.{OpenFault}
use Rattle.open_queries.specs.declared.handover.Handover.{Handover}
use Rattle.open_queries.specs.Calls.{open_refusal}
use Rattle.register.specs.declared.fault.RegisterFault.{RegisterFault}
use Rattle.register.specs.Faults.{register_refusal}
use Rattle.model.specs.Events.{enter, move, leave, query, take_message, collect, hand_over, put_back, give_up, query_by, Event, entered, moved, left, asked, taken, collected, handed_over, returned, given_up}
use Rattle.model.specs.Parts.{answered}
use Rattle.calls.specs.declared.fault.CallFault.{CallFault}
use Rattle.calls.specs.Faults.{call_refusal}

module _ {P : Type 0} where
  abbrev pub enter_event : ℕ → P → Result (Unit {0}) RegisterFault → Event P
  enter_event n p r = answered (enter n p) register_refusal (λ _. entered n p) r

  abbrev pub move_event : ℕ → P → Result (Unit {0}) RegisterFault → Event P
  move_event n p r = answered (move n p) register_refusal (λ _. moved n p) r

  abbrev pub leave_event : ℕ → Result (Unit {0}) RegisterFault → Event P
  leave_event n r = answered (leave n) register_refusal (λ _. left n) r

  abbrev pub query_event : ℕ → ℕ → List ℕ → Result ℕ CallFault → Event P
  query_event n k t r = answered (query n k t) call_refusal (λ s. asked (query_by n k t s)) r

  -- The caller's bytes before, and after.
  abbrev pub take_event : List ℕ → List ℕ → Result (Unit {0}) LineFault → Event P
  take_event before after r = answered (take_message before) line_refusal (λ _. taken before after) r

  abbrev pub collect_event : ℕ → Result Handover OpenFault → Event P
  collect_event s r = answered (collect s) open_refusal (collected s) r

  abbrev pub hand_over_event : Handover → Result ℕ OpenFault → Event P
  hand_over_event g r = answered (hand_over g) open_refusal (handed_over g) r

  abbrev pub put_back_event : Handover → Result ℕ OpenFault → Event P
  put_back_event g r = answered (put_back g) open_refusal (returned g) r

  abbrev pub give_up_event : ℕ → Result (Unit {0}) OpenFault → Event P
  give_up_event s r = answered (give_up s) open_refusal (λ _. given_up s) r
