-- A call on the register alone goes on with the life that the parts hold.
use Rattle.std.proofs.Common.{◌≡◌, ℕ, cond, List, ◌∷◌, ◌==◌, Ok, Err, Option, Result, sym, ap, ◌∙◌, subst, arith}
use Rattle.kinds.specs.Rules.{Model}
use Rattle.kinds.specs.Faults.{checked}
use Rattle.kinds.specs.declared.kind.PlaceKind.{Ghosts}
use Rattle.open_queries.specs.declared.open_queries.OpenQueries.{OpenQueries}
use Rattle.register.specs.declared.fault.RegisterFault.{RegisterFault}
use Rattle.register.specs.declared.fault.RegisterFault.TheVariants.{NoSuchSet}
use Rattle.register.specs.declared.register.Register.{Register}
use Rattle.register.specs.Answers.{numbered, if_true, if_admitted, if_absent, enter_answer, changed}
use Rattle.register.specs.Faults.{register_refusal}
use Rattle.register.specs.View.{capacity_of, Kept}
use Rattle.register.specs.View as registers
use Rattle.model.specs.Events.{Call, Event, History}
use Rattle.model.specs.Histories.{Box, place_of}
use Rattle.model.specs.Outcomes.{outcome, Life}
use Rattle.model.specs.Parts.{answered, OnRegister}
use Rattle.calls.specs.Agreement.{parts, Agrees}

module _ {P : Type 0} where
  -- What a call changes depends on where the sets are present alone.
  same_changed : (r : Result (Unit {0}) RegisterFault) (n : ℕ) (place : Option P) (at to : ℕ → Option P)
      → ((j : ℕ) → at j ≡ to j) → (j : ℕ) → changed r n place at j ≡ changed r n place to j
  same_changed (Ok _) n place at to same j = ap (cond (j == n) place) (same j)
  same_changed (Err _) n place at to same j = same j

module _ {P R : Type 0} {g : Ghosts P R} {m : Model P R} (box : Box m) (h : History P) where
  pub goes_on : (c : Call P) (e : Event P) (n : ℕ) (place : Option P) (r : Result (Unit {0}) RegisterFault)
      (old new : Register P R g) (q : OpenQueries) (w : List (List ℕ)) (room : ℕ)
      → Agrees box h (parts old q w room) → (Life box h → Life box (outcome box h c ∷ h))
      → OnRegister box h c e n place r
      → ((j : ℕ) → registers.place_of new j ≡ changed r n place (registers.place_of old) j) → Kept old new
      → Agrees box (answered c register_refusal (λ _. e) r ∷ h) (parts new q w room)
  goes_on c e n place r old new q w room a extends l after kept = record {
    life = subst (λ x. Life box (x ∷ h)) l.right (extends a.life);
    capacity = kept.capacity ∙ a.capacity;
    places = λ j. after j ∙ same_changed r n place (registers.place_of old) (place_of h) a.places j ∙ sym (l.places j);
    statuses = λ s. a.statuses s ∙ sym (l.statuses s);
    stand = let x = a.stand in let y = l.stand in omega arith;
    next = a.next ∙ sym l.next;
    line = a.line ∙ sym l.waits;
    room_is = a.room_is;
  }

  pub enter_same : (old : Register P R g) (q : OpenQueries) (w : List (List ℕ)) (room n : ℕ) (p : P)
      → Agrees box h (parts old q w room)
      → enter_answer m (capacity_of old) (registers.place_of old) n p ≡ enter_answer m box.capacity (place_of h) n p
  enter_same old q w room n p a =
      ap (λ k. enter_answer m k (registers.place_of old) n p) a.capacity
      ∙ ap (λ x. if_true (numbered box.capacity n) NoSuchSet (if_admitted (checked m p) (if_absent x (Ok tt)))) (a.places n)
