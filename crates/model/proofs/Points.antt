-- The laws at one point of a life, from each law by itself.
use Rattle.std.proofs.Common.{◌≡◌, [], ◌∷◌, Some, None, Option, refl}
use Rattle.kinds.specs.Rules.{Model}
use Rattle.model.specs.Events.{Query, Event, History}
use Rattle.model.specs.Histories.{Box, asked_in}
use Rattle.model.specs.Outcomes.{Life}
use Rattle.model.specs.Laws.{RowHolds, SendsLeast, RegionsLeast}

module _ {P R : Type 0} {m : Model P R} (box : Box m)
    (row : (h : History P) → Life box h → RowHolds box h)
    (query : (h : History P) (e : Event P) (q : Query) → Life box (e ∷ h) → asked_in e ≡ Some q → SendsLeast box h e (Some q))
    (others : (h : History P) (e : Event P) → asked_in e ≡ None → SendsLeast box h e None) where
  sends_least : (h : History P) (e : Event P) (o : Option Query) → Life box (e ∷ h) → asked_in e ≡ o → SendsLeast box h e o
  sends_least h e None l z = others h e z
  sends_least h e (Some q) l z = query h e q l z

  pub regions_least : (h : History P) → Life box h → RegionsLeast box h
  regions_least [] l = row [] l
  regions_least (e ∷ h) l = (row (e ∷ h) l, (sends_least h e (asked_in e) l refl, regions_least h l.1))
