-- When the parts of a box hold what a life says.
use Rattle.std.specs.Prelude.{◌≡◌, ℕ, List, [], ◌∷◌, None}
use Rattle.kinds.specs.Rules.{Model}
use Rattle.kinds.specs.declared.kind.PlaceKind.{Ghosts}
use Rattle.register.specs.declared.register.Register.{Register}
use Rattle.register.specs.View.{capacity_of}
use Rattle.register.specs.View as registers
use Rattle.open_queries.specs.declared.open_queries.OpenQueries.{OpenQueries}
use Rattle.open_queries.specs.Calls.{first_serial}
use Rattle.open_queries.specs.Table.{absent}
use Rattle.open_queries.specs.View.{status_of, next_of}
use Rattle.open_queries.specs.View as queries
use Rattle.model.specs.Events.{Event, History}
use Rattle.model.specs.Histories.{Box, place_of, status, standing, next_serial, waiting}
use Rattle.model.specs.Outcomes.{Life}
use Rattle.model.specs.Laws.{Point}

-- What a box consists of: its register, its open queries, and what its line means, the messages that wait and its capacity.
pub record Parts (P R : Type 0) (g : Ghosts P R) : Type 0 where
  pub register : Register P R g
  pub queries : OpenQueries
  pub waits : List (List ℕ)
  pub room : ℕ

abbrev pub parts : {P R : Type 0} {g : Ghosts P R} → Register P R g → OpenQueries → List (List ℕ) → ℕ → Parts P R g
parts r q w c = record { register = r; queries = q; waits = w; room = c }

-- The history is a life of the box, and the parts hold what it says: who is present where, what has become of each query, how
-- many stand, the next serial, and what waits.
pub record Agrees {P R : Type 0} {g : Ghosts P R} {m : Model P R} (box : Box m) (h : History P) (x : Parts P R g) : Type 0 where
  pub life : Life box h
  pub capacity : capacity_of x.register ≡ box.capacity
  pub places : (n : ℕ) → registers.place_of x.register n ≡ place_of h n
  pub statuses : (s : ℕ) → status_of x.queries s ≡ status h s
  pub stand : queries.standing x.queries ≡ standing h
  pub next : next_of x.queries ≡ next_serial box h
  pub line : x.waits ≡ waiting box h
  pub room_is : x.room ≡ box.line_capacity

-- The event e takes the parts x to y: whatever life x agrees with, y agrees with that life and e, and the three laws hold at that
-- point. As a box just made agrees with the life of no calls, this is the law of every list of calls.
abbrev pub Lives : {P R : Type 0} {g : Ghosts P R} → Model P R → Parts P R g → Event P → Parts P R g → Type 0
Lives {P} m x e y = (box : Box m) (h : History P) → Agrees box h x → Agrees box (e ∷ h) y × Point box (e ∷ h)

-- The parts as their constructors make them, with this first serial.
pub record JustMade {P R : Type 0} {g : Ghosts P R} (first : ℕ) (x : Parts P R g) : Type 0 where
  pub nobody : (n : ℕ) → registers.place_of x.register n ≡ None
  pub no_query : (s : ℕ) → status_of x.queries s ≡ absent
  pub none_stands : queries.standing x.queries ≡ 0
  pub next : next_of x.queries ≡ first_serial first
  pub nothing_waits : x.waits ≡ []

-- The box that such parts are.
abbrev pub box_of : {P R : Type 0} {g : Ghosts P R} (m : Model P R) → ℕ → Parts P R g → Box m
box_of m first x = record { capacity = capacity_of x.register; first = first; line_capacity = x.room }
