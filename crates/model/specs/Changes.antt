-- What the accepted calls do to queries.
use Rattle.std.specs.Prelude.{ℕ, Bool, true, false, Some, None, Option}
use Rattle.open_queries.specs.declared.entry.Stage.{Stage}
use Rattle.open_queries.specs.declared.entry.Stage.TheVariants.{Open, InHand}
use Rattle.model.specs.Events.{Query}

-- An accepted call on a query: query, collect, hand over, put back or give up, with the serial; a new query whole.
pub data Change : Type 0 where
  opens : Query → Change
  collects : ℕ → Change
  hands_over : ℕ → Change
  puts_back : ℕ → Change
  gives_up : ℕ → Change

abbrev pub serial_of : Change → ℕ
serial_of (opens q) = q.serial
serial_of (collects s) = s
serial_of (hands_over s) = s
serial_of (puts_back s) = s
serial_of (gives_up s) = s

-- A query is open after query and put back, in hand after collect, and ended after hand over and give up.
abbrev pub stage_of : Change → Option Stage
stage_of (opens q) = Some Open
stage_of (collects s) = Some InHand
stage_of (hands_over s) = None
stage_of (puts_back s) = Some Open
stage_of (gives_up s) = None

abbrev pub is_hand_over : Change → Bool
is_hand_over (opens q) = false
is_hand_over (collects s) = false
is_hand_over (hands_over s) = true
is_hand_over (puts_back s) = false
is_hand_over (gives_up s) = false

abbrev pub is_give_up : Change → Bool
is_give_up (opens q) = false
is_give_up (collects s) = false
is_give_up (hands_over s) = false
is_give_up (puts_back s) = false
is_give_up (gives_up s) = true

-- The query that is new.
abbrev pub query_in : Change → Option Query
query_in (opens q) = Some q
query_in (collects s) = None
query_in (hands_over s) = None
query_in (puts_back s) = None
query_in (gives_up s) = None

-- Whether a serial is that of an open query, and of one in hand.
abbrev pub is_open : Option Stage → Bool
is_open None = false
is_open (Some Open) = true
is_open (Some InHand) = false

abbrev pub is_in_hand : Option Stage → Bool
is_in_hand None = false
is_in_hand (Some Open) = false
is_in_hand (Some InHand) = true
