use Rattle.std.proofs.Common.{drop}
use Rattle.tree.specs.Slots.{at, count_of}
use Rattle.tree.proofs.Loops.{SpanWays}
use Rattle.tree.proofs.walks.suffix.Given as goal

abbrev pub invariant-loop-slot : goal.invariant-loop-slot
invariant-loop-slot g l =
    SpanWays g.P.PlaceKind.model drop l.nodes l.root l.slot l.first l.skip l.initial.joined
    l.joined

abbrev pub decreases-loop-slot : goal.decreases-loop-slot
decreases-loop-slot g l = count_of (at l.nodes l.slot)
