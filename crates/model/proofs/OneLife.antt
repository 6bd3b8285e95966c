-- Every list of calls has one life.
use Rattle.std.proofs.Common.{◌≡◌, List, [], ◌∷◌, map, Some, None, Option, sym, refl, ap, ◌∙◌}
use Rattle.refusals.specs.declared.Refusal.{Refusal}
use Rattle.kinds.specs.Rules.{Model}
use Rattle.model.specs.Events.{Call, enter, move, leave, query, take_message, collect, hand_over, put_back, give_up, Event, History, call_of}
use Rattle.model.specs.Histories.{Box}
use Rattle.model.specs.Outcomes.{Life, first_refusal, checks, accepted, judged, outcome, OneLife}

module _ {P R : Type 0} {m : Model P R} (box : Box m) where
  judged_call : (c : Call P) (r : Option Refusal) (e : Event P) → call_of e ≡ c → call_of (judged box c r e) ≡ c
  judged_call c None e q = q
  judged_call c (Some r) e q = refl

  accepted_call : (h : History P) (c : Call P) → call_of (accepted box h c) ≡ c
  accepted_call h (enter n p) = refl
  accepted_call h (move n p) = refl
  accepted_call h (leave n) = refl
  accepted_call h (query n k t) = refl
  accepted_call h (take_message b) = refl
  accepted_call h (collect s) = refl
  accepted_call h (hand_over g) = refl
  accepted_call h (put_back g) = refl
  accepted_call h (give_up s) = refl

  outcome_call : (h : History P) (c : Call P) → call_of (outcome box h c) ≡ c
  outcome_call h c = judged_call c (first_refusal (checks box h c)) (accepted box h c) (accepted_call h c)

  pub extends : (h : History P) (c : Call P) → Life box h → Life box (outcome box h c ∷ h)
  extends h c l = (ap (outcome box h) (sym (outcome_call h c)), l)

  abbrev run : List (Call P) → History P
  run [] = []
  run (c ∷ cs) = outcome box (run cs) c ∷ run cs

  run_life : (cs : List (Call P)) → Life box (run cs)
  run_life [] = tt
  run_life (c ∷ cs) = extends (run cs) c (run_life cs)

  run_calls : (cs : List (Call P)) → map call_of (run cs) ≡ cs
  run_calls [] = refl
  run_calls (c ∷ cs) =
      ap (λ d. d ∷ map call_of (run cs)) (outcome_call (run cs) c) ∙ ap (λ l. c ∷ l) (run_calls cs)

  only_run : (h : History P) → Life box h → h ≡ run (map call_of h)
  only_run [] l = refl
  only_run (e ∷ h) l =
      ap (λ x. x ∷ h) l.0 ∙ ap (λ g. outcome box g (call_of e) ∷ g) (only_run h l.1)

  pub one_life : (cs : List (Call P)) → OneLife box cs
  one_life cs =
      record { history = run cs; life = run_life cs; has_calls = run_calls cs; no_other = λ h l e. only_run h l ∙ ap run e }
