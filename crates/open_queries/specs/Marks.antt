-- The one step that collect, hand over, put back and give up share: the query of a serial goes from one stage to another, or ends.
use Rattle.std.specs.Prelude.{ℕ, Bool, true, false, cond, Some, None, Option}
use Rattle.open_queries.specs.declared.entry.Stage.{Stage}
use Rattle.open_queries.specs.declared.entry.Stage.TheVariants.{Open, InHand}
use Rattle.open_queries.specs.Table.{Status, absent, open_by, in_hand_by, staged}

-- Whether a query stands and is in a stage.
abbrev pub in_stage : Stage → Status → Bool
in_stage Open absent = false
in_stage Open (open_by n) = true
in_stage Open (in_hand_by n) = false
in_stage InHand absent = false
in_stage InHand (open_by n) = false
in_stage InHand (in_hand_by n) = true

-- The set that asked.
abbrev pub asker : Status → ℕ
asker absent = 0
asker (open_by n) = n
asker (in_hand_by n) = n

-- 1 where a query stands.
abbrev pub weight : Status → ℕ
weight absent = 0
weight (open_by n) = 1
weight (in_hand_by n) = 1

-- A query in the first stage takes the second; no second stage ends it.
abbrev pub marked : Stage → Option Stage → Status → Status
marked from to x = cond (in_stage from x) (staged to (asker x)) x

abbrev pub mark_answer : Stage → Status → Option ℕ
mark_answer from x = cond (in_stage from x) (Some (asker x)) None
