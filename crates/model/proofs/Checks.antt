-- What an accepted event says of the checks before it.
use Rattle.std.proofs.Common.{◌≡◌, Bool, true, false, List, [], ◌∷◌, is_some, is_ok, Some, None, Ok, Err, Option, Result, sym, refl, ap, ◌∙◌, true≢false}
use Rattle.std.specs.List.{AllByRecursion as All}
use Rattle.refusals.specs.declared.Refusal.{Refusal}
use Rattle.kinds.specs.Rules.{Model}
use Rattle.model.specs.Events.{Event, History, Answer, done, serial, holds, gives, names, refuses, call_of, answer_of}
use Rattle.model.specs.Histories.{Box}
use Rattle.model.specs.Outcomes.{Life, refused_when, refused_unless, refused_as, first_refusal, checks, accepted, judged}

abbrev pub Passed : List (Option Refusal) → Type 0
Passed ks = All (λ k. k ≡ None) ks

-- Whether an answer is no refusal.
abbrev pub agrees : Answer → Bool
agrees done = true
agrees (serial _) = true
agrees (holds _) = true
agrees (gives _) = true
agrees (names _) = true
agrees (refuses _ _) = false

all_passed : (ks : List (Option Refusal)) → first_refusal ks ≡ None → Passed ks
all_passed [] e = tt
all_passed (None ∷ ks) e = (refl, all_passed ks e)
all_passed (Some r ∷ ks) e = let z : true ≡ false = ap is_some e in absurd (true≢false z)

pub when_passed : (b : Bool) (r : Refusal) → refused_when b r ≡ None → b ≡ false
when_passed true r e = let z : true ≡ false = ap is_some e in absurd (true≢false z)
when_passed false r e = refl

pub unless_passed : (b : Bool) (r : Refusal) → refused_unless b r ≡ None → b ≡ true
unless_passed true r e = refl
unless_passed false r e = let z : true ≡ false = ap is_some e in absurd (true≢false z)

pub as_passed : {A E : Type 0} (means : E → Refusal) (r : Result A E) → refused_as means r ≡ None → is_ok r ≡ true
as_passed means (Ok a) e = refl
as_passed means (Err x) e = let z : true ≡ false = ap is_some e in absurd (true≢false z)

module _ {P R : Type 0} {m : Model P R} (box : Box m) where
  -- An accepted event passed every check of its call, and answers what has to be answered.
  pub accepted_passed : (e : Event P) (h : History P) → agrees (answer_of e) ≡ true → Life box (e ∷ h)
      → Passed (checks box h (call_of e)) × (e ≡ accepted box h (call_of e))
  accepted_passed e h a l = go (first_refusal (checks box h (call_of e))) refl l.0
    where
      go : (r : Option Refusal) → first_refusal (checks box h (call_of e)) ≡ r → e ≡ judged box (call_of e) r (accepted box h (call_of e))
          → Passed (checks box h (call_of e)) × (e ≡ accepted box h (call_of e))
      go None q z = (all_passed (checks box h (call_of e)) q, z)
      go (Some r) q z =
          let y : agrees (answer_of e) ≡ false = ap (λ x. agrees (answer_of x)) z in
          absurd (true≢false (sym a ∙ y))
