use Rattle.std.proofs.Common.{take}
use Rattle.tree.specs.Slots.{at, count_of}
use Rattle.tree.proofs.Loops.{SpanWays}
use Rattle.tree.proofs.walks.prefix.Given as goal

abbrev pub invariant-loop-slot : goal.invariant-loop-slot
invariant-loop-slot g l =
    SpanWays g.P.PlaceKind.model take l.nodes l.root l.slot l.end l.keep l.initial.joined
    l.joined

abbrev pub decreases-loop-slot : goal.decreases-loop-slot
decreases-loop-slot g l = count_of (at l.nodes l.slot)
